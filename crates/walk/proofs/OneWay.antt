-- Each rule leads one way: where a child belongs, what a put and a link change, what an expansion yields.
use Rattle.std.proofs.Common.{◌≡◌, ℕ, ◌+◌, ◌/◌, List, Some, Option, sym, refl, ap, ◌∙◌, subst, arith}
use mathlib.Core.Path.{fun_ext}
use native.Mathlib.Decide.{ℕ_discrete}
use Rattle.network.specs.Network.{Network, delay}
use Rattle.tree.specs.Tree.{Tree, Below, Fits, width}
use Rattle.network.proofs.Routes.{other_end}
use Rattle.tree.proofs.Words.{some_none, same_some}
use Rattle.walk.specs.declared.frame.Frame.{Frame}
use Rattle.walk.specs.State.{Shelf, Core, State, Changed, lowered, called}
use Rattle.walk.specs.Rules.{Belongs, falls, unknown, Slot, within, past, Counted, nothing, one, Placed, Moved, there, moved, Link, skip, keep, lower, Links, begun, next, Puts, done, put, Expand}
use Rattle.walk.specs.Steps.{Taken, Visiting}
use Rattle.walk.proofs.Invariant.{Facts, LookedTo, Inv}
use Rattle.walk.proofs.Keep.{lowest_one, front_one}
use Rattle.walk.proofs.Look.{links_looking}
use Rattle.walk.proofs.Visit.{visit_facts, visit_looked}

pub changed_one : {A : Type 0} {f f₁ f₂ : ℕ → A} {v : ℕ} {x : A} → Changed f v x f₁ → Changed f v x f₂ → f₁ ≡ f₂
changed_one {f₁ = f₁} {f₂ = f₂} {v = v} c₁ c₂ = fun_ext (λ u. go u (ℕ_discrete u v))
  where
    go : (u : ℕ) → Dec (u ≡ v) → f₁ u ≡ f₂ u
    go u (yes z) = ap f₁ z ∙ c₁.at ∙ sym c₂.at ∙ ap f₂ (sym z)
    go u (no z) = c₁.off u z ∙ sym (c₂.off u z)

pub shelf_one : {h₁ h₂ : Shelf} → h₁.bucket ≡ h₂.bucket → h₁.puts ≡ h₂.puts → h₁ ≡ h₂
shelf_one eb ep = λ i. record { bucket = eb i; puts = ep i }

-- where a child belongs
slot_one : {t : Tree} {x k : ℕ} {b b' : Option ℕ} → Slot t x k b → Slot t x k b' → b ≡ b'
slot_one (within l e) (within l' e') = e ∙ sym e'
slot_one (past l e) (past l' e') = e ∙ sym e'
slot_one (within l e) (past l' e') = absurd (omega arith)
slot_one (past l e) (within l' e') = absurd (omega arith)

pub belongs_one : {t : Tree} {so_far base : ℕ → Option ℕ} {c : ℕ} {b b' : Option ℕ} → Belongs t so_far base c b → Belongs t so_far base c b' → b ≡ b'
belongs_one (unknown a e) (unknown a' e') = e ∙ sym e'
belongs_one (unknown a e) (falls x k f l) = absurd (some_none f.lowest.known (a f.lowest.at f.lowest.inside))
belongs_one (falls x k f l) (unknown a e) = absurd (some_none f.lowest.known (a f.lowest.at f.lowest.inside))
belongs_one {t} {base = base} {b' = b'} (falls x k f l) (falls y j f' l') = slot_one l (subst (λ k. Slot t x k b') same (subst (λ x. Slot t x j b') z l'))
  where
    z : y ≡ x
    z = same_some f'.parent f.parent

    same : j ≡ k
    same = omega (
      arith,
      same_some f'.based (ap base z ∙ f.based),
      f.spot,
      f'.spot,
      lowest_one f.lowest f'.lowest,
      ap (λ x. f'.least / width t x) z,
      ap (λ d. d / width t x) (lowest_one f.lowest f'.lowest),
    )

counted_one : {t : Tree} {c puts p q : ℕ} {b : Option ℕ} → Counted t c b puts p → Counted t c b puts q → p ≡ q
counted_one (nothing n e) (nothing m e') = e ∙ sym e'
counted_one (one k n gr e) (one j m gr' e') = e ∙ sym e'
counted_one (nothing n e) (one j m gr' e') = absurd (some_none m n)
counted_one (one k n gr e) (nothing m e') = absurd (some_none n m)

pub placed_one : {t : Tree} {c : ℕ} {b : Option ℕ} {h h₁ h₂ : Shelf} → Placed t c b h h₁ → Placed t c b h h₂ → h₁ ≡ h₂
placed_one p q = shelf_one (changed_one p.set q.set) (counted_one p.counted q.counted)

moved_one : {t : Tree} {c : ℕ} {b : Option ℕ} {h h₁ h₂ : Shelf} → Moved t c b h h₁ → Moved t c b h h₂ → h₁ ≡ h₂
moved_one (there a e) (there a' e') = e ∙ sym e'
moved_one (moved n set k) (moved n' set' k') = shelf_one (changed_one set set') (counted_one k k')
moved_one (there a e) (moved n set k) = absurd (n a)
moved_one (moved n set k) (there a e) = absurd (n a)

puts_one : {t : Tree} {so_far base : ℕ → Option ℕ} {cs : List ℕ} {h h₁ h₂ : Shelf} → Puts t so_far base cs h h₁ → Puts t so_far base cs h h₂ → h₁ ≡ h₂
puts_one done done = refl
puts_one {t} {so_far} {base} {h₂ = h₂} (put {c = c} {cs = cs} {h = h} {h₁ = k₁} b bel p r) (put {h₁ = k₂} b' bel' p' r') = puts_one r
    (subst (λ (k : Shelf). Puts t so_far base cs k h₂) (sym same) r')
  where
    same : k₁ ≡ k₂
    same = placed_one p (subst (λ o. Placed t c o h k₂) (belongs_one bel' bel) p')

-- following links
link_one : {g : Network} {t : Tree} (fits : Fits g t) {src : ℕ} {s : Core} {fs : List Frame} {lim : ℕ → ℕ} → Facts g t src s fs lim
    → {v d k : ℕ} {s₁ s₂ : Core} → Link g t v d k s s₁ → Link g t v d k s s₂ → s₁ ≡ s₂
link_one fits facts (skip h) (skip h') = refl
link_one fits facts (skip h) (keep u y j n e l) = refl
link_one fits facts (keep u y j n e l) (skip h') = refl
link_one fits facts (keep u y j n e l) (keep u' y' j' n' e' l') = refl
link_one fits facts (skip h) (lower u c b so_far' h' j n nearer low front bel move) = absurd (h u j n)
link_one fits facts (lower u c b so_far' h' j n nearer low front bel move) (skip h) = absurd (h u j n)
link_one fits {s = s} facts (keep u' y j' n' e l) (lower u c b so_far' h' j n nearer low front bel move) = absurd
    (omega (arith, nearer y (ap s.so_far (other_end j j') ∙ e)))
link_one fits {s = s} facts (lower u c b so_far' h' j n nearer low front bel move) (keep u' y j' n' e l) = absurd
    (omega (arith, nearer y (ap s.so_far (other_end j j') ∙ e)))
link_one {g} {t} fits {s = s} facts {v} {d} {k} (lower u c b so_far' h' j n nearer low front bel move)
    (lower u₂ c₂ b₂ soFar₂ h₂ j₂ n₂ nearer₂ low₂ front₂ bel₂ move₂) =
    λ i. lowered s (same_delays i) (same_shelf i)
  where
    same_u : u₂ ≡ u
    same_u = other_end j₂ j

    same_delays : so_far' ≡ soFar₂
    same_delays = changed_one low (subst (λ u. Changed s.so_far u (Some (d + delay g k)) soFar₂) same_u low₂)

    same_c : c₂ ≡ c
    same_c =
        front_one fits facts front₂.holds (subst (λ x. Below t x c) (sym same_u) front.holds) front₂.parent
        (record { start = front₂.start; based = front₂.based }) front₂.shut front.parent
        (record { start = front.start; based = front.based }) front.shut

    same_b : b₂ ≡ b
    same_b = belongs_one (subst (λ (f : ℕ → Option ℕ). Belongs t f s.base c b₂) (sym same_delays) (subst (λ c. Belongs t soFar₂ s.base c b₂) same_c bel₂)) bel

    same_shelf : h' ≡ h₂
    same_shelf = moved_one move (subst (λ c. Moved t c b s.shelf h₂) same_c (subst (λ b. Moved t c₂ b s.shelf h₂) same_b move₂))

pub links_one : {g : Network} {t : Tree} (fits : Fits g t) {src v d : ℕ} {fs : List Frame} {lim : ℕ → ℕ} {s : Core} → Facts g t src s fs lim
    → s.final v ≡ Some d → LookedTo g s.final s.so_far v 0
    → {k : ℕ} {s₁ s₂ : Core} → Links g t v d s k s₁ → Links g t v d s k s₂ → s₁ ≡ s₂
links_one fits facts seen old begun begun = refl
links_one {g} {t} fits {v = v} {d = d} facts seen old {s₂ = s₂} (next {k = k} r l) (next r' l') =
    link_one fits (links_looking fits facts seen old r).facts l (subst (λ (z : Core). Link g t v d k z s₂) (sym (links_one fits facts seen old r r')) l')

pub taken_one : {t : Tree} {s : Core} {x y c : ℕ} {h h₂ : Shelf} → Taken t s x c h → Taken t s y c h₂ → h ≡ h₂
taken_one p q = shelf_one (changed_one p.off q.off) (p.puts ∙ sym q.puts)

pub visiting_one : {g : Network} {t : Tree} (fits : Fits g t) {src : ℕ} {s : State} → Inv g t src s → {v d k : ℕ} {s₁ s₂ : Core}
    → Visiting g t s v d k s₁ → Visiting g t s v d k s₂ → s₁ ≡ s₂
visiting_one {g} {t} fits {src} {s} i {v} {d} {k} {s₁} {s₂} p q =
    links_one fits (visit_facts fits i.facts i.looked p.top p.going p.taken p.station p.call) p.call.final.at
    (visit_looked fits i.facts i.looked p.top p.going p.taken p.station p.call) p.links
    (subst (λ (z : Core). Links g t v d z k s₂) (sym same) q.links)
  where
    same : called s.core p.final' p.so_far' p.h' ≡ called s.core q.final' q.so_far' q.h'
    same = λ i. called s.core (changed_one p.call.final q.call.final i) (changed_one p.call.so_far q.call.so_far i)
        (taken_one p.taken q.taken i)

pub record ExpandedSame (h₁ h₂ : Shelf) (base₁ base₂ : ℕ → Option ℕ) (count₁ count₂ : ℕ → ℕ) : Type 0 where
  pub shelf : h₁ ≡ h₂
  pub base : base₁ ≡ base₂
  pub count : count₁ ≡ count₂

pub expand_one : {t : Tree} {s : Core} {x d e : ℕ} {h h₁ h₂ : Shelf} {base₁ base₂ : ℕ → Option ℕ} {count₁ count₂ : ℕ → ℕ}
    → Expand t s x d h base₁ count₁ h₁ → Expand t s x e h base₂ count₂ h₂
    → ExpandedSame h₁ h₂ base₁ base₂ count₁ count₂
expand_one {t} {s} {x} {d} {e} {h} {h₁} {h₂} {base₁} {base₂} {count₁} {count₂} p q =
    record { shelf = puts_one p.puts (subst (λ (b : ℕ → Option ℕ). Puts t s.so_far b (t.children x) h h₂) (sym b) q.puts); base = b; count = n }
  where
    z : e ≡ d
    z = lowest_one q.lowest p.lowest

    b : base₁ ≡ base₂
    b = changed_one p.base (subst (λ d. Changed s.base x (Some (d / width t x)) base₂) z q.base)

    n : count₁ ≡ count₂
    n = changed_one p.count (subst (λ d. Changed s.count x (d / width t x) count₂) z q.count)
