-- The steps that end a visit keep the invariant.
use Rattle.std.proofs.Common.{◌≡◌, ℕ, suc, ◌+◌, ◌*◌, ◌/◌, ◌≤◌, ◌≢◌, List, [], ◌∷◌, Some, None, Option, sym, refl, ap, ◌∙◌, subst, inl, inr, arith}
use native.Mathlib.Decide.{ℕ_discrete}
use Rattle.network.specs.Network.{Network}
use Rattle.tree.specs.Tree.{Tree, Below, Fits, width}
use Rattle.tree.proofs.Nodes.{root_same, above_other}
use Rattle.tree.proofs.Routes.{wider}
use Rattle.tree.proofs.Words.{some_none, same_some}
use Rattle.walk.specs.declared.frame.Frame.{Frame}
use Rattle.walk.specs.State.{Shelf, Core, State, Changed, shelved}
use Rattle.walk.specs.Rules.{Lowest, Belongs, falls, unknown, Placed}
use Rattle.walk.specs.Steps.{Open, Ended, coarse, left}
use Rattle.walk.specs.Steps as steps
use Rattle.walk.proofs.Lines.{suc_line, bucket_is, width_pos}
use Rattle.walk.proofs.Invariant.{On, Expanded, line, Standing, loose, fresh, visiting, through, waiting, Stack, empty, bottom, above, Top, Facts, Looked, Inv}
use Rattle.walk.proofs.Keep.{cons_nil, slot_at, belongs_at, on_above, top_expanded, began_at, the_stack}
use Rattle.walk.proofs.Pass.{known_far}
use Rattle.walk.proofs.Take.{due}

module _ {t : Tree} {src : ℕ} {base : ℕ → Option ℕ} {count lim : ℕ → ℕ} where
  pop : {f : Frame} {fs : List Frame} → Stack t src base count lim (f ∷ fs) → Stack t src base count lim fs
  pop (bottom f e n b) = empty
  pop (above f h fs e p m a l r) = r

  -- the visit below the top goes on
  next_top : {f h : Frame} {fs gs : List Frame} → Stack t src base count lim (f ∷ fs) → fs ≡ h ∷ gs → Top t count lim h
  next_top (bottom f e n b) z = absurd (cons_nil z refl)
  next_top {h = h} (above f k fs e p m a l r) z = let q : k ≡ h = cc in subst (λ (j : Frame). Top t count lim j) q
      (record { same = λ h. l; risen = λ p h n. absurd (n (a p h)) })

  last_one : {f : Frame} {fs : List Frame} → Stack t src base count lim (f ∷ fs) → fs ≡ [] → (t.parent f.node ≡ None) × Below t src f.node
  last_one (bottom f e n b) z = (n, b)
  last_one (above f h fs e p m a l r) z = absurd (cons_nil refl z)

module _ {g : Network} {t : Tree} (fits : Fits g t) {src : ℕ} {s : Core} {fs : List Frame} {lim : ℕ → ℕ} (facts : Facts g t src s fs lim)
    (looked : Looked g s.final s.so_far)
    {f : Frame} {gs : List Frame} (ef : fs ≡ f ∷ gs) (ended : Ended t s f) where
  stack : Stack t src s.base s.count lim (f ∷ gs)
  stack = the_stack fits facts ef

  expanded : Expanded s.base f.node
  expanded = top_expanded stack

  -- a node with a least: its visit ended by the counter, which stands at the next line of the parent p, and there its least belongs
  pub record NextLine (p d : ℕ) : Type 0 where
    pub spot : d / width t p ≡ suc (s.count p)
    pub limit : lim f.node ≡ line t s.count f.node
    pub meets : line t s.count p + width t p ≡ line t s.count f.node

  pub next_line : {p d : ℕ} → t.parent f.node ≡ Some p → Lowest t s.so_far f.node d → NextLine p d
  next_line {p} {d} up_p l = go ended
    where
      opn : Open t s.final f.node
      opn = record { u = l.at; inside = l.inside; unvisited = (facts.delays.found l.at d l.known).unvisited }

      go : Ended t s f → NextLine p d
      go (steps.through a) = absurd (a opn)
      go (steps.risen q h n) =
          let z : q ≡ p = same_some h up_p in
          let tp = (facts.top f gs ef).risen p up_p (subst (λ (a : ℕ). coarse t f.node a (s.count f.node) ≢ f.began) z n) in
          let e : line t s.count p + width t p ≡ line t s.count f.node = omega (arith, tp.0, tp.1, (began_at stack up_p).1) in
          let r = due fits facts looked f.node expanded.start expanded.based opn in
          let low : line t s.count f.node ≤ d = known_far fits facts expanded l.inside.below l.known in
          let high : d ≤ r.y = l.least r.u r.y r.inside r.known in
          record {
            spot = bucket_is d (width t p) (suc (s.count p)) (width_pos t p) (omega (arith, suc_line (s.count p) (width t p)))
                (omega (arith, suc_line (s.count p) (width t p), r.near, tp.0, wider fits up_p));
            limit = tp.0;
            meets = e;
          }

  module _ (h' : Shelf) where
    -- x, whose visit has ended, stands where it belongs
    again : {p : ℕ} {b b' : Option ℕ} → t.parent f.node ≡ Some p → b' ≡ b → Belongs t s.so_far s.base f.node b
        → Standing t (shelved s h') gs lim f.node b'
    again up_p z (unknown a e) =
        through expanded (λ o. let r = due fits facts looked f.node expanded.start expanded.based o in some_none r.known (a r.u r.inside)) (z ∙ e)
    again {p} up_p z (falls x k l sl) =
        let same : x ≡ p = same_some l.parent up_p in
        let r = next_line up_p l.lowest in
        let m : l.start + k ≡ suc (s.count p) = sym l.spot ∙ ap (λ a. l.least / width t a) same ∙ r.spot in
        waiting p l.start expanded.start k up_p (ap s.base (sym same) ∙ l.based) expanded.based off
        (record { u = l.lowest.at; inside = l.lowest.inside; unvisited = (facts.delays.found l.lowest.at l.least l.lowest.known).unvisited })
        (ap (λ a. a * width t p) m ∙ suc_line (s.count p) (width t p) ∙ r.meets) (omega arith) r.limit (rw same at (slot_at z sl))
      where
        off : ¬ On gs f.node
        off o = let q = on_above stack o in above_other fits q.1 q.2 refl

    -- the others stand as they did
    others : {b b' : Option ℕ} (c : ℕ) → c ≢ f.node → b' ≡ b → Standing t s fs lim c b → Standing t (shelved s h') gs lim c b'
    others c n z (loose h e) = loose h (z ∙ e)
    others c n z (fresh p β h b m bel) = fresh p β h b m (belongs_at z bel)
    others c n z (visiting o e) = visiting (elim (subst (λ a. On a c) ef o) [ inl q ↦ absurd (n q) | inr q ↦ q ]) (z ∙ e)
    others c n z (through h a e) = through h a (z ∙ e)
    others c n z (waiting p β γ j h b d m op l k w sl) = waiting p β γ j h b d (λ o. m (subst (λ a. On a c) (sym ef) (inr o))) op l k w (slot_at z sl)

    pub left_facts : ((c : ℕ) → Standing t (shelved s h') gs lim c (h'.bucket c)) → Facts g t src (shelved s h') gs lim
    left_facts stands' =
        record {
          delays = facts.delays;
          grown = facts.grown;
          early = facts.early;
          limits = facts.limits;
          stands = stands';
          stack = pop stack;
          top = λ h hs e. next_top stack e;
        }

    pub leave_facts : {p : ℕ} {b : Option ℕ} → t.parent f.node ≡ Some p → Belongs t s.so_far s.base f.node b
        → Changed s.shelf.bucket f.node b h'.bucket
        → Facts g t src (shelved s h') gs lim
    leave_facts up_p bel set = left_facts (λ c. stands' c (ℕ_discrete c f.node))
      where
        stands' : (c : ℕ) → Dec (c ≡ f.node) → Standing t (shelved s h') gs lim c (h'.bucket c)
        stands' c (yes z) = rw z (again up_p set.at bel)
        stands' c (no z) = others c z (set.off c z) (facts.stands c)

pub leave_step : {g : Network} {t : Tree} (fits : Fits g t) {src : ℕ} {s : State} {f : Frame} {fs : List Frame} {p : ℕ} {b : Option ℕ} {h' : Shelf}
    → Inv g t src s → s.frames ≡ f ∷ fs → Ended t s.core f → t.parent f.node ≡ Some p
    → Belongs t s.core.so_far s.core.base f.node b → Placed t f.node b s.core.shelf h' → Inv g t src (left s h' fs)
leave_step fits {h' = h'} i ef ended up_p bel put =
    record {
      lim = i.lim;
      facts = leave_facts fits i.facts i.looked ef ended h' up_p bel put.set;
      looked = i.looked;
      over = λ e. absurd (some_none up_p (last_one (the_stack fits i.facts ef) e).0);
    }

pub end_step : {g : Network} {t : Tree} (fits : Fits g t) {src : ℕ} {s : State} {f : Frame} {fs : List Frame}
    → Inv g t src s → s.frames ≡ f ∷ fs → Ended t s.core f → t.parent f.node ≡ None → Inv g t src (left s s.core.shelf fs)
end_step {g} {t} fits {src} {s} {f} {fs} i ef ended h =
    record {
      lim = i.lim;
      facts = left_facts fits i.facts i.looked ef ended s.core.shelf (λ c. stands' c (ℕ_discrete c f.node));
      looked = i.looked;
      over = λ e r n b o. all ended (record {
        u = o.u;
        inside = rw (root_same n h b (last_one (the_stack fits i.facts ef) e).1) at o.inside;
        unvisited = o.unvisited;
      });
    }
  where
    all : Ended t s.core f → ¬ Open t s.core.final f.node
    all (steps.through a) = a
    all (steps.risen p e n) = absurd (some_none e h)

    nowhere : Standing t s.core s.frames i.lim f.node (s.core.shelf.bucket f.node) → s.core.shelf.bucket f.node ≡ None
    nowhere (loose k e) = e
    nowhere (fresh p β k q n bel) = absurd (some_none k h)
    nowhere (visiting o e) = e
    nowhere (through k a e) = e
    nowhere (waiting p β γ j k q d n op l m w sl) = absurd (some_none k h)

    stands' : (c : ℕ) → Dec (c ≡ f.node) → Standing t (shelved s.core s.core.shelf) fs i.lim c (s.core.shelf.bucket c)
    stands' c (yes z) = rw z (loose (λ p e. absurd (some_none e h)) (nowhere (i.facts.stands f.node)))
    stands' c (no z) = others fits i.facts i.looked ef ended s.core.shelf c z refl (i.facts.stands c)
