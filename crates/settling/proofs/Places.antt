-- Where a child belongs, and how it gets there.
use Rattle.std.proofs.Common.{◌≡◌, ℕ, suc, ◌+◌, ◌-◌, ◌/◌, ◌^◌, ◌<◌, ◌≤◌, Bool, true, false, ◌≢◌, length, Some, None, Option, sym, refl, ap, ◌∙◌, subst, add-one, arith, MatchOption}
use Rattle.tree.specs.Tree.{Tree, width, buckets_in_all}
use Rattle.walk.specs.State.{Changed}
use Rattle.walk.specs.Rules.{Lowest, Slot, within, past, Belongs, falls, unknown, one, moved}
use Rattle.walk.specs.Able.{Ready}
use Rattle.walk.proofs.Runs.{changed_set}
use Rattle.shelf.specs.Holds.{Holds, MayPut, bucket_at, lifted, placed}
use Rattle.keeper.specs.Keeps.{Keeps}
use Rattle.settling.specs.declared.trail.Trail.{Trail}
use Rattle.settling.specs.Means.{sofar_of, base_of, shelf_of, core_of}
use Rattle.settling.specs.Asks.{Walkable, Brought}

slot_of : (t : Tree) (x k : ℕ) (r : Option ℕ) → MatchOption r (t.buckets x ≤ k) (λ b. (k < t.buckets x) × (b ≡ t.first x + k)) → Slot t x k r
slot_of t x k None h = past h refl
slot_of t x k (Some b) h = within h.0 (ap Some h.1)

-- what `belongs` has in hand where the child has a least
module _ (t : Tree) (so_far base : ℕ → Option ℕ) (c x start d shift : ℕ) (ready : Ready t so_far base c) (up : Some x ≡ t.parent c)
    (based : Some start ≡ base x) (l : Lowest t so_far c d) (is_shift : shift ≡ t.level x - 1) where
  pub start_below : start ≤ d / 2 ^ shift
  start_below =
      let h = ready.above d l in
      let e : ready.x ≡ x = cc in
      let s : ready.start ≡ start = cc (ap base e) in
      let w : d / width t ready.x ≡ d / 2 ^ shift = cc in omega arith

  pub belongs_at : (r : Option ℕ) → MatchOption r (t.buckets x ≤ d / 2 ^ shift - start) (λ b. (d / 2 ^ shift - start < t.buckets x) × (b ≡ t.first x + (d / 2 ^ shift - start)))
      → Belongs t so_far base c r
  belongs_at r h =
      let w : d / width t x ≡ d / 2 ^ shift = cc in
      let s = start_below in
      falls x (d / 2 ^ shift - start) (record { parent = sym up; start = start; based = sym based; least = d; lowest = l; spot = omega arith })
      (slot_of t x (d / 2 ^ shift - start) r h)

-- a call that answers true where F holds has been granted
pub granted : {X Y F : Type 0} (p : Bool) → (p ≡ true → X) → (p ≡ false → (F → ⊥) × Y) → F → X
granted true f g h = f refl
granted false f g h = absurd ((g refl).0 h)

some_is : {a b : ℕ} → Some a ≡ Some b → a ≡ b
some_is e = cc

-- a child belongs in one of the buckets that there are
pub belongs_low : (t : Tree) (so_far base : ℕ → Option ℕ) (c b : ℕ) → Walkable t → Belongs t so_far base c (Some b) → b < buckets_in_all t
belongs_low t so_far base c b tree (falls x k f (within l e)) = omega (arith, some_is e, tree.within c x f.parent)
belongs_low t so_far base c b tree (falls x k f (past l e)) = let z : ◌≡◌ {A = ℕ} 0 1 = cc in absurd (omega arith)
belongs_low t so_far base c b tree (unknown n e) = let z : ◌≡◌ {A = ℕ} 0 1 = cc in absurd (omega arith)

changed_twice : {A : Type 0} {f f₁ f₂ : ℕ → A} {v : ℕ} {x y : A} → Changed f v x f₁ → Changed f₁ v y f₂ → Changed f v y f₂
changed_twice p q = record { at = q.at; off = λ u ne. q.off u ne ∙ p.off u ne }

pub changed_lifted : (h : Holds) (i : ℕ) → length h.at ≡ h.items → i < h.items → Changed (bucket_at h) i None (bucket_at (lifted h i))
changed_lifted h i len lt = changed_set h.at i None None (omega arith)

changed_placed : (h : Holds) (i b : ℕ) → length h.at ≡ h.items → i < h.items → Changed (bucket_at h) i (Some b) (bucket_at (placed h i b))
changed_placed h i b len lt = changed_set h.at i (Some b) None (omega arith)

module _ (t : Tree) (w : Trail) (k : Keeps) (c : ℕ) (h : Holds) (len : length h.at ≡ h.items) (listed : c < t.nodes) (item : c < h.items) where
  -- it was lifted, and can be put
  pub may_put : (h₁ : Holds) (b : ℕ) → b < h.buckets → h.puts < 65535 → h₁ ≡ lifted h c → MayPut h₁ c b
  may_put h₁ b low few e = subst (λ (x : Holds). MayPut x c b) (sym e) (item, low, (changed_lifted h c len item).at, few)

  pub brought_moved : (h₁ h' : Holds) (b : ℕ) → b < buckets_in_all t → h.puts < 65535 → Belongs t (sofar_of t k) (base_of w) c (Some b) → bucket_at h c ≢ Some b
      → length h₁.at ≡ h₁.items → h₁ ≡ lifted h c → h' ≡ placed h₁ c b → Brought t (core_of t w h k) c (shelf_of h')
  brought_moved h₁ h' b low few bel ne len₁ e₁ e =
      let p₁ = subst (λ (x : Holds). Changed (bucket_at h) c None (bucket_at x)) (sym e₁) (changed_lifted h c len item) in
      let i₁ : h₁.items ≡ h.items = ap (λ (x : Holds). x.items) e₁ in
      let n₁ : h₁.puts ≡ h.puts = ap (λ (x : Holds). x.puts) e₁ in
      let p₂ = changed_placed h₁ c b len₁ (omega arith) in
      subst (λ (x : Holds). Brought t (core_of t w h k) c (shelf_of x)) (sym e) (record {
        to = Some b;
        belongs = bel;
        moved = moved ne (changed_twice p₁ p₂) (one b refl (record { item = listed; bucket = low; few = few }) (add-one h₁.puts ∙ ap suc n₁));
      })
