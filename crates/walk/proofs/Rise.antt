-- The step that raises the counter keeps the invariant.
use Rattle.std.proofs.Common.{◌≡◌, ℕ, suc, ◌+◌, ◌*◌, ◌/◌, ◌<◌, ◌≤◌, ◌≢◌, List, ◌∷◌, Some, None, Option, sym, refl, ap, ◌∙◌, subst, inl, inr, arith}
use native.Mathlib.Decide.{ℕ_discrete}
use Rattle.network.specs.Network.{Network, Route, sum}
use Rattle.tree.specs.Tree.{Tree, self, In, Fits, width}
use Rattle.tree.proofs.Nodes.{in_parent, Through, in_inner, above_other}
use Rattle.tree.proofs.Words.{some_none, same_some}
use Rattle.walk.specs.declared.frame.Frame.{Frame}
use Rattle.walk.specs.State.{Core, State, Changed, counted}
use Rattle.walk.specs.Rules.{falls, unknown, Slot, within, past}
use Rattle.walk.specs.Steps.{Open, Going, Now, coarse}
use Rattle.walk.proofs.Lines.{suc_line, line_mono, line_lt, bucket_low, bucket_high, coarse_high, coarse_past, width_pos}
use Rattle.walk.proofs.Invariant.{On, Expanded, line, Standing, loose, fresh, visiting, through, waiting, Top, Facts, Looked, Inv}
use Rattle.walk.proofs.Keep.{Change, change, restack, OnTail, on_above, began_at, the_stack, child_off}
use Rattle.walk.proofs.Pass.{known_far, pass}
use Rattle.walk.proofs.Take.{in_room}

module _ {g : Network} {t : Tree} (fits : Fits g t) {src : ℕ} {s : Core} {fs : List Frame} {lim : ℕ → ℕ} (facts : Facts g t src s fs lim)
    (looked : Looked g s.final s.so_far)
    {f : Frame} {gs : List Frame} (ef : fs ≡ f ∷ gs) (going : Going t s f) {k : ℕ} (now : Now s f.node k)
    (bare : (c : ℕ) → s.shelf.bucket c ≢ Some (t.first f.node + k)) where
  expanded : Expanded s.base f.node
  expanded = record { start = now.start; based = now.based }

  limit : lim f.node ≡ line t s.count f.node + width t f.node
  limit = (facts.top f gs ef).same going.same

  -- a child that is in a bucket of x, or past them, is in a later one than the counter's
  later : {c β j : ℕ} → s.base f.node ≡ Some β → s.count f.node ≤ β + j → Slot t f.node j (s.shelf.bucket c) → s.count f.node < β + j
  later {c} {β} {j} b m sl = go (ℕ_discrete j k) sl
    where
      z : β ≡ now.start
      z = same_some b now.based

      go : Dec (j ≡ k) → Slot t f.node j (s.shelf.bucket c) → s.count f.node < β + j
      go (yes q) (within l e) = absurd (bare c (rw q at e))
      go (yes q) (past l e) = absurd (omega (arith, in_room fits facts f.node now.start now.based going.more, now.spot))
      go (no q) h = omega (arith, z, now.spot)

  -- no known station of x is before the next line
  next_far : {u y : ℕ} → In t u f.node → s.so_far u ≡ Some y → line t s.count f.node + width t f.node ≤ y
  next_far {u} {y} i e = child (in_inner fits (facts.grown.inner f.node now.start now.based).above i)
    where
      child : Through t u f.node → line t s.count f.node + width t f.node ≤ y
      child c = go (facts.stands c.child)
        where
          in_child : In t u c.child
          in_child = record { station = i.station; below = c.below }

          past_line : (m : ℕ) → s.count f.node < m → m * width t f.node ≤ y → line t s.count f.node + width t f.node ≤ y
          past_line m l h = omega (arith, line_mono (suc (s.count f.node)) m (width t f.node) l, suc_line (s.count f.node) (width t f.node))

          go : Standing t s fs lim c.child (s.shelf.bucket c.child) → line t s.count f.node + width t f.node ≤ y
          go (loose h n) = absurd (some_none now.based (h f.node c.parent))
          go (visiting o n) = absurd (child_off fits facts ef c.parent o)
          go (through h a n) = absurd (a (record { u = u; inside = in_child; unvisited = (facts.delays.found u y e).unvisited }))
          go (fresh p β h b n (unknown a z)) = absurd (some_none e (a u in_child))
          go (fresh p β h b n (falls x' j l sl)) =
              let same : x' ≡ f.node = same_some l.parent c.parent in
              let at_x : l.least / width t f.node ≡ l.start + j = ap (λ a. l.least / width t a) (sym same) ∙ l.spot in
              let low : line t s.count f.node ≤ l.least =
              known_far fits facts expanded (in_parent c.parent l.lowest.inside).below l.lowest.known in
              let high : l.least < suc (l.start + j) * width t f.node =
              omega (
                arith,
                bucket_high l.least (width t f.node) (l.start + j) (width_pos t f.node) at_x,
                suc_line (l.start + j) (width t f.node),
              ) in
              let not_past : s.count f.node < suc (l.start + j) = line_lt (s.count f.node) (suc (l.start + j)) (width t f.node) (omega arith) in
              past_line (l.start + j) (later {c = c.child} {j = j} (ap s.base (sym same) ∙ l.based) (omega arith) (rw same at sl))
              (omega (arith, bucket_low l.least (width t f.node) (l.start + j) at_x, l.lowest.least u y in_child e))
          go (waiting p β γ j h b d n op l m w sl) =
              let same : p ≡ f.node = same_some h c.parent in
              let l' : (β + j) * width t f.node ≡ line t s.count c.child = rw same at l in
              past_line (β + j) (later {c = c.child} {j = j} (ap s.base (sym same) ∙ b) (rw same at m) (rw same at sl))
              (omega (arith, l', known_far fits facts (record { start = γ; based = d }) c.below e))

  -- nor does a route get there before it
  next_route : {u : ℕ} {ks : List ℕ} → In t u f.node → s.final u ≡ None → Route g src ks u → line t s.count f.node + width t f.node ≤ sum g ks
  next_route {u} {ks} i h p =
      elim (pass fits facts looked (λ q e. facts.grown.upward f.node now.start q now.based e) i h p) [
        | inl b ↦ omega (arith, next_far b.inside b.known, b.near)
        | inr b ↦ omega (arith, b.long, facts.limits.nested f.node now.start b.p now.based going.more b.parent, limit)
      ]

  -- the counter rises; the limit rises with it, unless the parent's stops it
  module _ {count' : ℕ → ℕ} (set : Changed s.count f.node (suc (s.count f.node)) count') {new : ℕ} {lim' : ℕ → ℕ} (lift : Changed lim f.node new lim')
      (least_new : line t s.count f.node + width t f.node ≤ new) (most_new : new ≤ line t s.count f.node + width t f.node + width t f.node)
      (under : (p : ℕ) → t.parent f.node ≡ Some p → new ≤ lim p) (top' : Top t count' lim' f) where
    raised : count' f.node * width t f.node ≡ line t s.count f.node + width t f.node
    raised = ap (λ a. a * width t f.node) set.at ∙ suc_line (s.count f.node) (width t f.node)

    same_line : (y : ℕ) → y ≢ f.node → count' y * width t y ≡ line t s.count y
    same_line y n = ap (λ a. a * width t y) (set.off y n)

    up_lim : (y : ℕ) → lim y ≤ lim' y
    up_lim y = elim (ℕ_discrete y f.node) [ yes z ↦ omega (arith, limit, least_new, lift.at, ap lim z, ap lim' z) | no z ↦ omega (arith, lift.off y z) ]

    floor' : (y β : ℕ) → s.base y ≡ Some β → Dec (y ≡ f.node) → count' y * width t y ≤ lim' y
    floor' y β e (yes z) = rw z (omega (arith, raised, lift.at, least_new))
    floor' y β e (no z) = omega (arith, same_line y z, lift.off y z, facts.limits.floor y β e)

    cap' : (y β : ℕ) → s.base y ≡ Some β → Dec (y ≡ f.node) → lim' y ≤ count' y * width t y + width t y
    cap' y β e (yes z) = rw z (omega (arith, raised, lift.at, most_new))
    cap' y β e (no z) = omega (arith, same_line y z, lift.off y z, facts.limits.cap y β e)

    nested' : (y β p : ℕ) → s.base y ≡ Some β → Open t s.final y → t.parent y ≡ Some p → Dec (y ≡ f.node) → lim' y ≤ lim' p
    nested' y β p e o h (yes z) = omega (arith, ap lim' z, lift.at, under p (ap t.parent (sym z) ∙ h), up_lim p)
    nested' y β p e o h (no z) = omega (arith, lift.off y z, facts.limits.nested y β p e o h, up_lim p)

    far' : (y β u : ℕ) (ks : List ℕ) → s.base y ≡ Some β → In t u y → s.final u ≡ None → Route g src ks u → Dec (y ≡ f.node) → count' y * width t y ≤ sum g ks
    far' y β u ks e i h p (yes z) = rw z (omega (arith, raised, next_route (rw z at i) h p))
    far' y β u ks e i h p (no z) = omega (arith, same_line y z, facts.limits.far y β u ks e i h p)

    room' : (y β : ℕ) → s.base y ≡ Some β → Dec (y ≡ f.node) → count' y ≤ β + t.buckets y
    room' y β e (yes z) =
        let q : β ≡ now.start = same_some (ap s.base (sym z) ∙ e) now.based in
        omega (arith, ap count' z, set.at, ap t.buckets z, in_room fits facts f.node now.start now.based going.more)
    room' y β e (no z) = omega (arith, set.off y z, facts.limits.room y β e)

    stands' : (c : ℕ) → Standing t s fs lim c (s.shelf.bucket c) → Standing t (counted s count') fs lim' c (s.shelf.bucket c)
    stands' c (loose h e) = loose h e
    stands' c (fresh p β h b n bel) = fresh p β h b n bel
    stands' c (visiting o e) = visiting o e
    stands' c (through h a e) = through h a e
    stands' c (waiting p β γ j h b d n op l m w sl) =
        let off : c ≢ f.node = λ z. n (subst (λ a. On a c) (sym ef) (inl z)) in
        waiting p β γ j h b d n op (l ∙ sym (same_line c off)) (go (ℕ_discrete p f.node)) (lift.off c off ∙ w ∙ sym (same_line c off)) sl
      where
        go : Dec (p ≡ f.node) → count' p ≤ β + j
        go (yes z) = omega (arith, ap count' z, set.at, later {c = c} {j = j} (ap s.base (sym z) ∙ b) (rw z at m) (rw z at sl))
        go (no z) = omega (arith, set.off p z, m)

    below_top : (y : ℕ) → OnTail fs y → (count' y ≡ s.count y) × (lim' y ≡ lim y)
    below_top y o =
        let q = on_above (the_stack fits facts ef) (subst (λ a. OnTail a y) ef o) in
        let n : y ≢ f.node = λ z. above_other fits q.1 q.2 (sym z) in
        (set.off y n, lift.off y n)

    pub rise_facts : Facts g t src (counted s count') fs lim'
    rise_facts =
        record {
          delays = facts.delays;
          grown = facts.grown;
          early = facts.early;
          limits = record {
            floor = λ y β e. floor' y β e (ℕ_discrete y f.node);
            cap = λ y β e. cap' y β e (ℕ_discrete y f.node);
            later = λ y β e. omega (arith, facts.limits.later y β e, up_lim y);
            nested = λ y β p e o h. nested' y β p e o h (ℕ_discrete y f.node);
            passed = λ y β w d e o i h. omega (arith, facts.limits.passed y β w d e o i h, up_lim y);
            far = λ y β u ks e i h p. far' y β u ks e i h p (ℕ_discrete y f.node);
            room = λ y β e. room' y β e (ℕ_discrete y f.node);
          };
          stands = λ c. stands' c (facts.stands c);
          stack = restack (λ y e. e) below_top facts.stack;
          top = λ f' fs' e. let z : f' ≡ f = cc ef in rw z top';
        }

pub rise_step : {g : Network} {t : Tree} (fits : Fits g t) {src : ℕ} {s : State} {f : Frame} {fs : List Frame} {k : ℕ} {count' : ℕ → ℕ}
    → Inv g t src s → s.frames ≡ f ∷ fs → Going t s.core f → Now s.core f.node k → ((c : ℕ) → s.core.shelf.bucket c ≢ Some (t.first f.node + k))
    → Changed s.core.count f.node (suc (s.core.count f.node)) count' → Inv g t src (record { core = counted s.core count'; frames = s.frames })
rise_step {g} {t} fits {src} {s} {f} {fs} {k} {count'} i ef going now bare set = go (t.parent f.node) refl
  where
    at : ℕ
    at = line t s.core.count f.node + width t f.node

    finish : (new : ℕ) (c : Change i.lim f.node new) → line t s.core.count f.node + width t f.node ≤ new
        → new ≤ line t s.core.count f.node + width t f.node + width t f.node
        → ((p : ℕ) → t.parent f.node ≡ Some p → new ≤ i.lim p) → Top t count' c.to f
        → Inv g t src (record { core = counted s.core count'; frames = s.frames })
    finish new c a b u tp =
        record { lim = c.to; facts = rise_facts fits i.facts i.looked ef going now bare set c.set a b u tp; looked = i.looked; over = i.over }

    raise : count' f.node * width t f.node ≡ line t s.core.count f.node + width t f.node
    raise = ap (λ a. a * width t f.node) set.at ∙ suc_line (s.core.count f.node) (width t f.node)

    high : Change i.lim f.node (line t s.core.count f.node + width t f.node + width t f.node)
    high = change i.lim f.node (line t s.core.count f.node + width t f.node + width t f.node)

    low : Change i.lim f.node (line t s.core.count f.node + width t f.node)
    low = change i.lim f.node (line t s.core.count f.node + width t f.node)

    go : (o : Option ℕ) → t.parent f.node ≡ o → Inv g t src (record { core = counted s.core count'; frames = s.frames })
    go None n =
        finish (line t s.core.count f.node + width t f.node + width t f.node) high (omega arith) (omega arith) (λ p h. absurd (some_none h n))
        (record { same = λ h. omega (arith, high.set.at, raise); risen = λ p h. absurd (some_none h n) })
    go (Some p) n = pick (ℕ_discrete (coarse t f.node p (count' f.node)) f.began)
      where
        bg : (f.began ≡ s.core.count p) × (i.lim p ≡ line t s.core.count p + width t p)
        bg = began_at (the_stack fits i.facts ef) n

        began_line : f.began * width t p ≡ line t s.core.count p
        began_line = ap (λ a. a * width t p) bg.0

        pick : Dec (coarse t f.node p (count' f.node) ≡ f.began) → Inv g t src (record { core = counted s.core count'; frames = s.frames })
        -- the counter is still in the parent's bucket
        pick (yes e) =
            let inn = i.facts.grown.inner f.node now.start now.based in
            let top_line = coarse_high fits n inn (count' f.node) f.began e in
            finish (line t s.core.count f.node + width t f.node + width t f.node) high (omega arith) (omega arith)
            (λ p' h. let z : p' ≡ p = same_some h n in omega (arith, ap i.lim z, bg.1, began_line, top_line, raise))
            (record { same = λ h. omega (arith, high.set.at, raise); risen = λ p' h m. absurd (m (let z : p' ≡ p = same_some h n in rw z e)) })
        -- it has left it
        pick (no e) =
            let inn = i.facts.grown.inner f.node now.start now.based in
            let past_line = coarse_past fits n inn (s.core.count f.node) f.began (going.same p n) (λ z. e (ap (coarse t f.node p) set.at ∙ z)) in
            finish (line t s.core.count f.node + width t f.node) low (omega arith) (omega arith)
            (λ p' h. let z : p' ≡ p = same_some h n in omega (arith, ap i.lim z, bg.1, began_line, past_line))
            (record {
              same = λ h. absurd (e (h p n));
              risen = λ p' h m.
                  (low.set.at ∙ sym raise, last_line p' h (low.set.off p' (λ a. above_other fits h self (sym a))) past_line);
            })
          where
            last_line : (p' : ℕ) → t.parent f.node ≡ Some p' → low.to p' ≡ i.lim p'
                → line t s.core.count f.node + width t f.node ≡ f.began * width t p + width t p → low.to f.node ≡ low.to p'
            last_line p' h q e = let z : p' ≡ p = same_some h n in omega (arith, low.set.at, ap i.lim z, bg.1, began_line)
