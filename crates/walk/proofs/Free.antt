-- Nothing is left free but what take hands over: two steps from a state that take the same item lead to the same state.
use Rattle.std.proofs.Common.{◌≡◌, ℕ, suc, ◌<◌, List, ◌∷◌, length, sym, refl, ap, ◌∙◌, subst, arith}
use mathlib.Core.Path.{fun_ext}
use Rattle.network.specs.Network.{Network}
use Rattle.tree.specs.Tree.{Tree, Fits}
use Rattle.tree.proofs.Words.{some_none, same_some}
use Rattle.walk.specs.declared.frame.Frame.{Frame}
use Rattle.walk.specs.State.{Shelf, Core, State, Changed, called, counted}
use Rattle.walk.specs.Rules.{Belongs, Placed, Links, begun, Expand}
use Rattle.walk.specs.Steps.{Going, Taken, Ended, Visiting, Blank, Begin, alone, root, Step, visit, expand, again, rise, leave, end, coarse, entered, left}
use Rattle.walk.specs.Laws.{item_of, TakeAloneIsFree}
use Rattle.walk.specs.Steps as steps
use Rattle.walk.proofs.Invariant.{Inv}
use Rattle.walk.proofs.Look.{Looking}
use Rattle.walk.proofs.Start.{alone_looking}
use Rattle.walk.proofs.Settle.{walk_inv}
use Rattle.tree.proofs.Nodes.{root_top, root_same}
use Rattle.walk.proofs.OneWay.{changed_one, shelf_one, belongs_one, placed_one, links_one, taken_one, visiting_one, ExpandedSame, expand_one}

going_ended : {t : Tree} {s : Core} {f : Frame} → Going t s f → Ended t s f → ⊥
going_ended g (steps.through n) = n g.more
going_ended g (steps.risen p h n) = n (g.same p h)

top_one : {fs gs gs' : List Frame} {f f' : Frame} → fs ≡ f ∷ gs → fs ≡ f' ∷ gs' → f' ≡ f
top_one p q = cc

rest_one : {fs gs gs' : List Frame} {f f' : Frame} → fs ≡ f ∷ gs → fs ≡ f' ∷ gs' → gs ≡ gs'
rest_one p q = cc

module _ {g : Network} {t : Tree} (fits : Fits g t) {src : ℕ} {s : State} (i : Inv g t src s) where
  -- two takes of the same item
  visits_one : {v w d e n : ℕ} {s₁ s₂ : Core} → v ≡ w → Visiting g t s v d n s₁ → Visiting g t s w e n s₂ → s₁ ≡ s₂
  visits_one {v} {w} {d} {e} {n} {s₁} {s₂} z p q =
      let q' : Visiting g t s v e n s₂ = subst (λ v. Visiting g t s v e n s₂) (sym z) q in
      visiting_one fits i p (subst (λ d. Visiting g t s v d n s₂) (same_some q'.call.known p.call.known) q')

  pub step_one : {s₁ s₂ : State} (p : Step g t s s₁) (q : Step g t s s₂) → item_of p ≡ item_of q → s₁ ≡ s₂
  step_one (visit v d s₁ p) (visit w e s₂ q) z = let same = visits_one (same_some refl z) p q in λ i. record { core = same i; frames = s.frames }
  step_one (expand f fs c d h base₁ count₁ h₁ top going tk big shut ex) (expand f' fs' c' d' h' base₂ count₂ h₂ top' going' tk' big' shut' ex') z =
      λ i. entered s (same_c i) (coarse t (same_c i) (top_one top' top i).node (same.count i (same_c i))) (same.base i) (same.count i) (same.shelf i)
    where
      same_c : c ≡ c'
      same_c = same_some refl z

      same_h : h ≡ h'
      same_h = taken_one tk (subst (λ c. Taken t s.core f'.node c h') (sym same_c) tk')

      same : ExpandedSame h₁ h₂ base₁ base₂ count₁ count₂
      same = expand_one ex (subst (λ (h : Shelf). Expand t s.core c d' h base₂ count₂ h₂) (sym same_h)
          (subst (λ c. Expand t s.core c d' h' base₂ count₂ h₂) (sym same_c) ex'))
  step_one (again f fs c β h top going tk big based) (again f' fs' c' β' h' top' going' tk' big' based') z =
      λ i. entered s (same_c i) (coarse t (same_c i) (top_one top' top i).node (s.core.count (same_c i))) s.core.base s.core.count (same_h i)
    where
      same_c : c ≡ c'
      same_c = same_some refl z

      same_h : h ≡ h'
      same_h = taken_one tk (subst (λ c. Taken t s.core f'.node c h') (sym same_c) tk')
  step_one (rise f fs k count₁ top going now bare set) (rise f' fs' k' count₂ top' going' now' bare' set') z =
      λ i. record { core = counted s.core (same i); frames = s.frames }
    where
      same : count₁ ≡ count₂
      same = changed_one set (subst (λ (f : Frame). Changed s.core.count f.node (suc (s.core.count f.node)) count₂) (top_one top top') set')
  step_one (leave f fs p b h top ended up bel placed) (leave f' fs' p' b' h' top' ended' up' bel' placed') z = λ i. left s (same_h i) (rest_one top top' i)
    where
      same_b : b' ≡ b
      same_b = belongs_one (subst (λ (f : Frame). Belongs t s.core.so_far s.core.base f.node b') (top_one top top') bel') bel

      same_h : h ≡ h'
      same_h =
          placed_one placed (subst (λ b. Placed t f.node b s.core.shelf h') same_b
          (subst (λ (f : Frame). Placed t f.node b' s.core.shelf h') (top_one top top') placed'))
  step_one (end f fs top ended up) (end f' fs' top' ended' up') z = λ i. left s s.core.shelf (rest_one top top' i)
  -- the rest cannot be: a station is no inner node, what is expanded is not expanded for the first time, and what goes on has not ended
  step_one (visit v d s₁ p) (expand f fs c e h base' count' h' top going tk big shut ex) z = let e : v ≡ c = same_some refl z in absurd (omega (arith, p.station))
  step_one (visit v d s₁ p) (again f fs c β h top going tk big based) z = let e : v ≡ c = same_some refl z in absurd (omega (arith, p.station))
  step_one (expand f fs c e h base' count' h' top going tk big shut ex) (visit v d s₁ p) z = let e : c ≡ v = same_some refl z in absurd (omega (arith, p.station))
  step_one (again f fs c β h top going tk big based) (visit v d s₁ p) z = let e : c ≡ v = same_some refl z in absurd (omega (arith, p.station))
  step_one (expand f fs c e h base' count' h' top going tk big shut ex) (again f' fs' c' β h'' top' going' tk' big' based) z = absurd
      (some_none (ap s.core.base (same_some refl z) ∙ based) shut)
  step_one (again f fs c β h top going tk big based) (expand f' fs' c' e h'' base' count' h' top' going' tk' big' shut ex) z = absurd
      (some_none based (ap s.core.base (same_some refl z) ∙ shut))
  step_one (rise f fs k count' top going now bare set) (leave f' fs' p b h' top' ended up bel placed) z =
      absurd (going_ended going (subst (λ (f : Frame). Ended t s.core f) (top_one top top') ended))
  step_one (rise f fs k count' top going now bare set) (end f' fs' top' ended up) z =
      absurd (going_ended going (subst (λ (f : Frame). Ended t s.core f) (top_one top top') ended))
  step_one (leave f' fs' p b h' top' ended up bel placed) (rise f fs k count' top going now bare set) z =
      absurd (going_ended going (subst (λ (f : Frame). Ended t s.core f) (top_one top top') ended))
  step_one (end f' fs' top' ended up) (rise f fs k count' top going now bare set) z =
      absurd (going_ended going (subst (λ (f : Frame). Ended t s.core f) (top_one top top') ended))
  step_one (leave f fs p b h top ended up bel placed) (end f' fs' top' ended' up') z =
      absurd (some_none up (ap (λ (f : Frame). t.parent f.node) (top_one top' top) ∙ up'))
  step_one (end f' fs' top' ended' up') (leave f fs p b h top ended up bel placed) z =
      absurd (some_none up (ap (λ (f : Frame). t.parent f.node) (top_one top' top) ∙ up'))
  step_one (visit v d s₁ p) (rise f' fs' k count'' top' going' now bare set) z = absurd (some_none refl z)
  step_one (rise f' fs' k count'' top' going' now bare set) (visit v d s₁ p) z = absurd (some_none z refl)
  step_one (visit v d s₁ p) (leave f' fs' q b h'' top' ended up bel placed) z = absurd (some_none refl z)
  step_one (leave f' fs' q b h'' top' ended up bel placed) (visit v d s₁ p) z = absurd (some_none z refl)
  step_one (visit v d s₁ p) (end f' fs' top' ended up) z = absurd (some_none refl z)
  step_one (end f' fs' top' ended up) (visit v d s₁ p) z = absurd (some_none z refl)
  step_one (expand f fs c d h base' count' h₁ top going tk big shut ex) (rise f' fs' k count'' top' going' now bare set) z = absurd (some_none refl z)
  step_one (rise f' fs' k count'' top' going' now bare set) (expand f fs c d h base' count' h₁ top going tk big shut ex) z = absurd (some_none z refl)
  step_one (expand f fs c d h base' count' h₁ top going tk big shut ex) (leave f' fs' q b h'' top' ended up bel placed) z = absurd (some_none refl z)
  step_one (leave f' fs' q b h'' top' ended up bel placed) (expand f fs c d h base' count' h₁ top going tk big shut ex) z = absurd (some_none z refl)
  step_one (expand f fs c d h base' count' h₁ top going tk big shut ex) (end f' fs' top' ended up) z = absurd (some_none refl z)
  step_one (end f' fs' top' ended up) (expand f fs c d h base' count' h₁ top going tk big shut ex) z = absurd (some_none z refl)
  step_one (again f fs c β h top going tk big based) (rise f' fs' k count'' top' going' now bare set) z = absurd (some_none refl z)
  step_one (rise f' fs' k count'' top' going' now bare set) (again f fs c β h top going tk big based) z = absurd (some_none z refl)
  step_one (again f fs c β h top going tk big based) (leave f' fs' q b h'' top' ended up bel placed) z = absurd (some_none refl z)
  step_one (leave f' fs' q b h'' top' ended up bel placed) (again f fs c β h top going tk big based) z = absurd (some_none z refl)
  step_one (again f fs c β h top going tk big based) (end f' fs' top' ended up) z = absurd (some_none refl z)
  step_one (end f' fs' top' ended up) (again f fs c β h top going tk big based) z = absurd (some_none z refl)

-- the start
blank_one : {src : ℕ} {s s' : State} → Blank src s → Blank src s' → s ≡ s'
blank_one {src} {s} {s'} p q = λ i. record {
  core = record {
    final = final i;
    so_far = changed_one p.so_far q.so_far i;
    base = base i;
    count = count i;
    shelf = shelf_one bucket (p.puts ∙ sym q.puts) i;
  };
  frames = (p.frames ∙ sym q.frames) i;
}
  where
    final : s.core.final ≡ s'.core.final
    final = fun_ext (λ u. p.final u ∙ sym (q.final u))

    base : s.core.base ≡ s'.core.base
    base = fun_ext (λ x. p.base x ∙ sym (q.base x))

    count : s.core.count ≡ s'.core.count
    count = fun_ext (λ x. p.count x ∙ sym (q.count x))

    bucket : s.core.shelf.bucket ≡ s'.core.shelf.bucket
    bucket = fun_ext (λ c. p.bucket c ∙ sym (q.bucket c))

module _ {g : Network} {t : Tree} (fits : Fits g t) {src : ℕ} (station : src < t.stations) where
  start_one : {s s₁ s₂ : State} → Begin g t src s s₁ → Begin g t src s s₂ → s₁ ≡ s₂
  start_one {s} (alone final' so_far' s₁ blank h call links) (alone final₂ soFar₂ s₂ blank' h' call' links') = λ i. record { core = same i; frames = s.frames }
    where
      looking : Looking g t src src 0 (called s.core final' so_far' s.core.shelf) (called s.core final' so_far' s.core.shelf) s.frames (λ x. 0)
      looking = alone_looking fits station blank h call begun

      same_start : called s.core final' so_far' s.core.shelf ≡ called s.core final₂ soFar₂ s.core.shelf
      same_start = λ i. called s.core (changed_one call.final call'.final i) (changed_one call.so_far call'.so_far i) s.core.shelf

      same : s₁ ≡ s₂
      same = links_one fits looking.facts call.final.at looking.looked links
          (subst (λ (z : Core). Links g t src 0 z (length g.rows) s₂) (sym same_start) links')
  start_one {s} (root r d base₁ count₁ h₁ blank big below h ex) (root r' d' base₂ count₂ h₂ blank' big' below' h' ex') = λ i. entered s (same_r i) 0
      (same.base i) (same.count i) (same.shelf i)
    where
      same_r : r ≡ r'
      same_r = root_same h h' below below'

      same : ExpandedSame h₁ h₂ base₁ base₂ count₁ count₂
      same = expand_one ex (subst (λ r. Expand t s.core r d' s.core.shelf base₂ count₂ h₂) (sym same_r) ex')
  start_one (alone final' so_far' s₁ blank h call links) (root r d base' count' h' blank' big below h'' ex) = let e = root_top h below in absurd (omega arith)
  start_one (root r d base' count' h' blank' big below h'' ex) (alone final' so_far' s₁ blank h call links) = let e = root_top h below in absurd (omega arith)

  blank_of : {s s₁ : State} → Begin g t src s s₁ → Blank src s
  blank_of (alone final' so_far' s₁ blank h call links) = blank
  blank_of (root r d base' count' h' blank big below h ex) = blank

  begin_one : {s s' s₁ s₂ : State} → Begin g t src s s₁ → Begin g t src s' s₂ → s₁ ≡ s₂
  begin_one {s} {s'} {s₁} {s₂} p q = start_one p (subst (λ (z : State). Begin g t src z s₂) (blank_one (blank_of q) (blank_of p)) q)

pub take_is_free : TakeAloneIsFree
take_is_free g t src given =
    record {
      start = λ s s' s₁ s₂ p q. begin_one given.fits given.station p q;
      step = λ k s s₁ s₂ w p q e. step_one given.fits (walk_inv given.fits given.station w) p q e;
    }
