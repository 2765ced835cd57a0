-- What a walk begins with.
use Rattle.std.proofs.Common.{◌≡◌, ℕ, ◌<◌, [], length, get_or, replicate, IfSome, Some, None, Option, sym, refl, ap, ◌∙◌, subst, inl, inr, arith}
use Rattle.std.proofs.lemmas.List.{get_or-replicate, get_or_past, length-replicate}
use Rattle.std.proofs.lemmas.Bool.{cases_lt}
use Rattle.tree.specs.Tree.{Tree, Runs}
use Rattle.walk.specs.Steps.{Blank}
use Rattle.shelf.specs.Holds.{Holds, bucket_at, cleared}
use Rattle.keeper.specs.Keeps.{Keeps, MayLower, delay_at, all_none, noted}
use Rattle.settling.specs.declared.trail.Trail.{Trail}
use Rattle.settling.specs.Means.{sofar_of, core_of}
use Rattle.settling.proofs.Keepers.{sofar_in, held, changed_noted}
use Rattle.settling.specs.Begins.{Cleared}

nowhere : (n i : ℕ) → ◌≡◌ {A = Option ℕ} (get_or (replicate n None) i None) None
nowhere n i = elim (cases_lt i n) [ inl l ↦ get_or-replicate n i None None l | inr l ↦ get_or_past (replicate n None) i None (omega (arith, length-replicate {A = Option ℕ} n None)) ]

pub may_lower : (n p d : ℕ) (k : Keeps) → k ≡ all_none n → p < n → MayLower k p d
may_lower n p d k e lt =
    subst (λ (z : Keeps). MayLower z p d) (sym e) (lt, subst (λ (o : Option ℕ). IfSome o (λ y. d < y)) (sym (nowhere n p)) tt)

nothing_known : (t : Tree) (k : Keeps) (n u : ℕ) → k ≡ all_none n → sofar_of t k u ≡ None
nothing_known t k n u e = elim (cases_lt u t.stations) [
  | inl l ↦ sofar_in t k u l ∙ ap (λ (z : Keeps). delay_at z (t.place u)) e ∙ nowhere n (t.place u)
  | inr l ↦ (held t k).none u l
]

pub blank : (t : Tree) (w w' : Trail) (h h' : Holds) (k₁ k' : Keeps) (n src p : ℕ) → Runs t → src < t.stations → Cleared w w' → h' ≡ cleared h → k₁ ≡ all_none n
    → length k₁.delays ≡ k₁.places → p ≡ t.place src → p < n → k' ≡ noted k₁ p (Some 0) → Blank src (record { core = core_of t w' h' k'; frames = [] })
blank t w w' h h' k₁ k' n src p runs st cl eh ek len is lt e =
    let pl : p < k₁.places = omega (arith, lt, ap (λ (z : Keeps). z.places) ek) in
    let ch = changed_noted t k₁ k' src p (Some 0) runs len st is pl e in
    record {
      final = cl.final;
      so_far = record { at = ch.at; off = λ u z. ch.off u z ∙ nothing_known t k₁ n u ek };
      base = cl.base;
      count = cl.count;
      bucket = λ c. ap (λ (z : Holds). bucket_at z c) eh ∙ nowhere h.items c;
      puts = ap (λ (z : Holds). z.puts) eh;
      frames = refl;
    }
