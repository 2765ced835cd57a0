-- Every step stays within the credit, and so a walk's moves are few.
use Rattle.std.proofs.Common.{◌≡◌, ℕ, suc, ◌+◌, ◌-◌, ◌^◌, ◌<◌, ◌≤◌, ◌≢◌, ◌⊎◌, List, ◌∷◌, length, Some, None, Option, sym, refl, ap, ◌∙◌, subst, inl, inr, arith}
use native.Mathlib.Decide.{ℕ_discrete}
use lib.Pow.{shr_mono}
use Rattle.network.specs.Network.{Network}
use Rattle.tree.specs.Totals.{total}
use Rattle.tree.specs.Tree.{Tree, Fits, Among, Distinct}
use Rattle.tree.proofs.Nodes.{node_of, above_other}
use Rattle.tree.proofs.Totals.{total_changed}
use Rattle.tree.proofs.Words.{some_none, same_some}
use Rattle.walk.specs.declared.frame.Frame.{Frame}
use Rattle.walk.specs.State.{Shelf, Core, State, Changed, called, grown, counted, shelved}
use Rattle.walk.specs.Rules.{Belongs, falls, unknown, Counted, nothing, one, Links, Call, Puts, done, put, Expand}
use Rattle.walk.specs.Steps.{Ended, Visiting, Blank, Begin, alone, root, Step, visit, expand, again, rise, leave, end, Walk, begin, then, coarse}
use Rattle.walk.specs.Laws.{Given, EveryWalkMovesLittle, most_moves}
use Rattle.walk.proofs.Lines.{suc_line, coarse_line}
use Rattle.walk.proofs.Invariant.{On, Stack, Inv}
use Rattle.walk.proofs.Keep.{Change, change, on_above, top_expanded, began_at, the_stack, child_off}
use Rattle.walk.proofs.Take.{New, Again, item}
use Rattle.walk.proofs.Leave.{next_line}
use Rattle.walk.proofs.Visit.{visiting_looking}
use Rattle.walk.proofs.Start.{alone_looking}
use Rattle.walk.proofs.Credit.{Has, has_on, Credit, credit_most, children_room, unpaid, credit_links, credit_any, credit_call}
use Rattle.walk.proofs.Settle.{walk_inv}

module _ {g : Network} {t : Tree} (fits : Fits g t) {src : ℕ} {s : State} (i : Inv g t src s) {v k : ℕ} (c : Credit g t s.core s.frames v k) where
  -- the top's counter rises
  credit_rise : {y : ℕ} {count' : ℕ → ℕ} → Changed s.core.count y (suc (s.core.count y)) count' → Credit g t (counted s.core count') s.frames v k
  credit_rise {y} {count'} set =
      record {
        first = c.first;
        more = c.more;
        paid = c.paid;
        puts = c.puts;
        firsts = c.firsts;
        pays = c.pays;
        mores = record {
          shut = c.mores.shut;
          root = c.mores.root;
          on = c.mores.on;
          most = λ x β p e h. omega (arith, c.mores.most x β p e h, shr_mono {a = s.core.count x} {b = count' x} (t.level p - t.level x) (up_count x));
        };
      }
    where
      up_count : (x : ℕ) → s.core.count x ≤ count' x
      up_count x = elim (ℕ_discrete x y) [ yes z ↦ omega (arith, ap s.core.count z, ap count' z, set.at) | no z ↦ omega (arith, set.off x z) ]

  -- a visit ends
  credit_left : {f : Frame} {fs : List Frame} {h' : Shelf} → s.frames ≡ f ∷ fs → h'.puts ≡ s.core.shelf.puts → Credit g t (shelved s.core h') fs v k
  credit_left {f} {fs} ef e =
      record {
        first = c.first;
        more = c.more;
        paid = c.paid;
        puts = omega (arith, c.puts, e);
        firsts = c.firsts;
        pays = c.pays;
        mores = record { shut = c.mores.shut; root = c.mores.root; most = c.mores.most; on = λ h a. c.mores.on h (subst (λ z. Has z h) (sym ef) (inr a)) };
      }

  -- and the node is put again: its counter has just passed a line of its parent's
  credit_leave : {f : Frame} {fs : List Frame} {p : ℕ} {b : Option ℕ} {h' : Shelf} → s.frames ≡ f ∷ fs → Ended t s.core f → t.parent f.node ≡ Some p
      → Belongs t s.core.so_far s.core.base f.node b → Counted t f.node b s.core.shelf.puts h'.puts → Credit g t (shelved s.core h') fs v k
  credit_leave ef ended h bel (nothing a e) = credit_left ef e
  credit_leave ef ended h (unknown q z) (one b' a gr e) = absurd (some_none a z)
  credit_leave {f} {fs} {p} {b} {h'} ef ended h (falls x j l sl) (one b' a gr e) =
      record {
        first = c.first;
        more = m.to;
        paid = c.paid;
        firsts = c.firsts;
        pays = c.pays;
        puts = omega (arith, c.puts, e, total_changed c.more m.to f.node t.nodes (node_of fits h) m.set.off, m.set.at);
        mores = record {
          shut = λ y n. m.set.off y (λ r. some_none (top_expanded stack).based (ap s.core.base (sym r) ∙ n)) ∙ c.mores.shut y n;
          root = λ y n. m.set.off y (λ r. some_none h (ap t.parent (sym r) ∙ n)) ∙ c.mores.root y n;
          most = λ y β q e h. most' y β q e h (ℕ_discrete y f.node);
          on = λ k a β q e h. omega (arith, c.mores.on k (subst (λ z. Has z k) (sym ef) (inr a)) β q e h, m.set.off k.node (below k a));
        };
      }
    where
      m : Change c.more f.node (suc (c.more f.node))
      m = change c.more f.node (suc (c.more f.node))

      stack : Stack t src s.core.base s.core.count i.lim (f ∷ fs)
      stack = the_stack fits i.facts ef

      below : (k : Frame) → Has fs k → k.node ≢ f.node
      below k a r = let o = on_above stack (subst (λ z. On fs z) r (has_on fs k a)) in above_other fits o.1 o.2 refl

      passed : coarse t f.node p (s.core.count f.node) ≡ suc (s.core.count p)
      passed =
          coarse_line fits h (i.facts.grown.inner f.node (top_expanded stack).start (top_expanded stack).based) (s.core.count f.node)
          (suc (s.core.count p))
          (sym (next_line fits i.facts i.looked ef ended h l.lowest).meets ∙ sym (suc_line (s.core.count p) (2 ^ (t.level p - 1))))

      most' : (y β q : ℕ) → s.core.base y ≡ Some β → t.parent y ≡ Some q → Dec (y ≡ f.node) → m.to y + coarse t y q β ≤ coarse t y q (s.core.count y)
      most' y β q e h' (no r) = omega (arith, m.set.off y r, c.mores.most y β q e h')
      most' y β q e h' (yes r) =
          let z : p ≡ q = same_some h (ap t.parent (sym r) ∙ h') in
          let on : c.more f.node + coarse t f.node p β ≤ f.began =
          c.mores.on f (subst (λ z. Has z f) (sym ef) (inl refl)) β p (ap s.core.base (sym r) ∙ e) h in
          rw (r, ← z) (omega (arith, m.set.at, on, passed, (began_at stack h).0))

  -- a node is visited again
  credit_again : {x y : ℕ} {h' : Shelf} → t.parent y ≡ Some x → h'.puts ≡ s.core.shelf.puts
      → Credit g t (shelved s.core h') (record { node = y; began = coarse t y x (s.core.count y) } ∷ s.frames) v k
  credit_again {x} {y} h e =
      record {
        first = c.first;
        more = c.more;
        paid = c.paid;
        puts = omega (arith, c.puts, e);
        firsts = c.firsts;
        pays = c.pays;
        mores = record { shut = c.mores.shut; root = c.mores.root; most = c.mores.most; on = λ m. elim [ inl e ↦ new m e | inr a ↦ c.mores.on m a ] };
      }
    where
      new : (m : Frame) → m ≡ record { node = y; began = coarse t y x (s.core.count y) } → (β p : ℕ) → s.core.base m.node ≡ Some β
          → t.parent m.node ≡ Some p
          → c.more m.node + coarse t m.node p β ≤ m.began
      new m e β p b q =
          let e' : m.node ≡ y = ap (λ (a : Frame). a.node) e in
          let z : p ≡ x = same_some (ap t.parent (sym e') ∙ q) h in
          subst (λ (a : Frame). c.more a.node + coarse t a.node p β ≤ a.began) (sym e)
          (subst (λ a. c.more y + coarse t y p β ≤ coarse t y a (s.core.count y)) z
          (c.mores.most y β p (ap s.core.base (sym e') ∙ b) (ap t.parent (sym e') ∙ q)))

-- the children of an expanded node pay once
record Charged (n : ℕ) (cs : List ℕ) (first : ℕ → ℕ) (puts puts' : ℕ) : Type 0 where
  pub to : ℕ → ℕ
  pub paid : puts' + total first n ≤ puts + total to n
  pub one : (y : ℕ) → to y ≤ 1
  pub off : (y : ℕ) → ¬ Among y cs → to y ≡ first y

charge : {t : Tree} {so_far base : ℕ → Option ℕ} {cs : List ℕ} {h h' : Shelf} (n : ℕ) (first : ℕ → ℕ) → Distinct cs → ((y : ℕ) → first y ≤ 1)
    → ((y : ℕ) → Among y cs → (first y ≡ 0) × (y < n)) → Puts t so_far base cs h h' → Charged n cs first h.puts h'.puts
charge n first d o a done = record { to = first; paid = omega arith; one = o; off = λ y a. refl }
charge {t} {h' = h'} n first d o a (put {c = c} {cs = cs} {h = h} {h₁ = h₁} b bel p r) = go p.counted (λ f o a. charge n f d.1 o a r)
  where
    same : h₁.puts ≡ h.puts → Charged n cs first h₁.puts h'.puts → Charged n (c ∷ cs) first h.puts h'.puts
    same e z = record { to = z.to; paid = omega (arith, z.paid, e); one = z.one; off = λ y a. z.off y (λ q. a (inr q)) }

    go : Counted t c b h.puts h₁.puts → ((f : ℕ → ℕ) → ((y : ℕ) → f y ≤ 1) → ((y : ℕ) → Among y cs → (f y ≡ 0) × (y < n))
        → Charged n cs f h₁.puts h'.puts) → Charged n (c ∷ cs) first h.puts h'.puts
    go (nothing q e) later = same e (later first o (λ y q. a y (inr q)))
    go (one b' q gr e) later =
        let f = change first c 1 in
        let z = later f.to (λ y. elim (ℕ_discrete y c) [ yes q ↦ omega (arith, ap f.to q, f.set.at) | no q ↦ omega (arith, f.set.off y q, o y) ])
        (λ y q. (f.set.off y (λ w. d.0 (subst (λ u. Among u cs) w q)) ∙ (a y (inr q)).0, (a y (inr q)).1)) in
        record {
          to = z.to;
          paid = omega (
            arith,
            z.paid,
            e,
            total_changed first f.to c n (a c (inl refl)).1 f.set.off,
            f.set.at,
            (a c (inl refl)).0,
          );
          one = z.one;
          off = λ y q. z.off y (λ w. q (inr w)) ∙ f.set.off y (λ w. q (inl w));
        }

module _ {g : Network} {t : Tree} (fits : Fits g t) {s : State} {v k : ℕ} (c : Credit g t s.core s.frames v k) (x : ℕ) (shut : s.core.base x ≡ None) where
  -- a node is expanded
  credit_expand : {d b : ℕ} {h h' : Shelf} {base' : ℕ → Option ℕ} {count' : ℕ → ℕ} → h.puts ≡ s.core.shelf.puts → ¬ On s.frames x
      → ((p : ℕ) → t.parent x ≡ Some p → coarse t x p (count' x) ≡ b) → Expand t s.core x d h base' count' h'
      → Credit g t (grown s.core base' count' h') (record { node = x; began = b } ∷ s.frames) v k
  credit_expand {d} {b} {h} {h'} {base'} {count'} eh off began ex =
      record {
        first = z.to;
        more = c.more;
        paid = c.paid;
        puts = omega (arith, c.puts, z.paid, eh);
        pays = c.pays;
        firsts =
            record { one = z.one; none = λ y q. z.off y (λ a. some_none ex.base.at (q x (fits.child x y a))) ∙ c.firsts.none y (λ p e. was p (q p e)) };
        mores = record {
          shut = λ y n. c.mores.shut y (was y n);
          root = c.mores.root;
          most = λ y β p e q. most' y β p e q (ℕ_discrete y x);
          on = λ m. elim [
            | inl e ↦ new m e
            | inr a ↦ (λ β p e q. c.mores.on m a β p
                (sym (ex.base.off m.node (λ r. off (subst (λ u. On s.frames u) r (has_on s.frames m a)))) ∙ e) q)
          ];
        };
      }
    where
      z : Charged t.nodes (t.children x) c.first h.puts h'.puts
      z = charge t.nodes c.first (fits.once x) c.firsts.one (unpaid fits c x shut) ex.puts

      was : (p : ℕ) → base' p ≡ None → s.core.base p ≡ None
      was p e = sym (ex.base.off p (λ q. some_none ex.base.at (ap base' (sym q) ∙ e))) ∙ e

      start : (y β : ℕ) → base' y ≡ Some β → y ≡ x → count' x ≡ β
      start y β e q = ex.count.at ∙ same_some ex.base.at (ap base' (sym q) ∙ e)

      most' : (y β p : ℕ) → base' y ≡ Some β → t.parent y ≡ Some p → Dec (y ≡ x) → c.more y + coarse t y p β ≤ coarse t y p (count' y)
      most' y β p e q (yes r) = omega (arith, c.mores.shut y (ap s.core.base r ∙ shut), ap (coarse t y p) (ap count' r ∙ start y β e r))
      most' y β p e q (no r) = omega (arith, c.mores.most y β p (sym (ex.base.off y r) ∙ e) q, ap (coarse t y p) (ex.count.off y r))

      new : (m : Frame) → m ≡ record { node = x; began = b } → (β p : ℕ) → base' m.node ≡ Some β → t.parent m.node ≡ Some p
          → c.more m.node + coarse t m.node p β ≤ m.began
      new m q β p e r =
          let q' : m.node ≡ x = ap (λ (a : Frame). a.node) q in
          subst (λ (a : Frame). c.more a.node + coarse t a.node p β ≤ a.began) (sym q)
          (omega (arith, c.mores.shut x shut, ap (coarse t x p) (start m.node β e q'), began p (ap t.parent (sym q') ∙ r)))

blank_credit : {g : Network} {t : Tree} {src : ℕ} {s : State} → Blank src s → Credit g t s.core s.frames 0 (length g.rows)
blank_credit blank =
    record {
      first = λ x. 0;
      more = λ x. 0;
      paid = λ x. 0;
      puts = omega (arith, blank.puts);
      firsts = record { one = λ x. omega arith; none = λ x h. refl };
      mores =
          record {
            shut = λ x h. refl;
            root = λ x h. refl;
            most = λ x β p e. absurd (some_none e (blank.base x));
            on = λ f a β p e. absurd (some_none e (blank.base f.node));
          };
      pays = record { one = λ e. omega arith; seen = λ e. inl refl };
    }

begin_credit : {g : Network} {t : Tree} → Fits g t → {src : ℕ} {s s₁ : State} → Begin g t src s s₁ → Credit g t s₁.core s₁.frames 0 (length g.rows)
begin_credit fits {src} (alone final' so_far' s₁ blank h call links) =
    credit_any (credit_links call.final.at (credit_call (blank.final src) refl (blank_credit blank) call) links)
begin_credit fits (root r d base' count' h' blank big below h ex) =
    credit_expand fits (blank_credit blank) r (blank.base r) refl (subst (λ z. ¬ On z r) (sym blank.frames) (λ a. a)) (λ p q. absurd (some_none q h)) ex

-- in the midst of the links of a visited station
pub visiting_credit : {g : Network} {t : Tree} {src : ℕ} {s : State} {v d k : ℕ} {s₁ : Core} → Inv g t src s
    → Credit g t s.core s.frames 0 (length g.rows) → Visiting g t s v d k s₁ → Credit g t s₁ s.frames v k
visiting_credit {v = v} {d = d} i c vis = credit_links vis.call.final.at
    (credit_call (i.facts.delays.found v d vis.call.known).unvisited vis.taken.puts c vis.call) vis.links

step_credit : {g : Network} {t : Tree} (fits : Fits g t) {src : ℕ} {s s₁ : State} → Inv g t src s
    → Credit g t s.core s.frames 0 (length g.rows) → Step g t s s₁ → Credit g t s₁.core s₁.frames 0 (length g.rows)
step_credit fits i c (visit v d s₁ vis) = credit_any (visiting_credit i c vis)
step_credit {g} {t} fits {src} {s} i c (expand f fs x d h base' count' h' ef going tk big shut ex) = go (item fits i.facts going.more tk)
  where
    go : New t s.core f.node x ⊎ Again t s.core s.frames i.lim f.node x
        → Credit g t (grown s.core base' count' h') (record { node = x; began = coarse t x f.node (count' x) } ∷ s.frames) 0 (length g.rows)
    go (inl a) =
        credit_expand fits c x shut tk.puts (child_off fits i.facts ef a.parent) (λ p h. ap (λ z. coarse t x z (count' x)) (same_some h a.parent)) ex
    go (inr a) = absurd (some_none a.expanded.based shut)
step_credit {g} {t} fits {src} {s} i c (again f fs x β h ef going tk big based) = go (item fits i.facts going.more tk)
  where
    go : New t s.core f.node x ⊎ Again t s.core s.frames i.lim f.node x
        → Credit g t (shelved s.core h) (record { node = x; began = coarse t x f.node (s.core.count x) } ∷ s.frames) 0 (length g.rows)
    go (inl a) = absurd (some_none based a.shut)
    go (inr a) = credit_again fits i c a.parent tk.puts
step_credit fits i c (rise f fs k count' ef going now bare set) = credit_rise fits i c set
step_credit fits i c (leave f fs p b h' ef ended h bel placed) = credit_leave fits i c ef ended h bel placed.counted
step_credit fits i c (end f fs ef ended h) = credit_left fits i c ef refl

pub walk_credit : {g : Network} {t : Tree} (fits : Fits g t) {src : ℕ} → src < t.stations → {k : ℕ} {s : State} → Walk g t src k s
    → Credit g t s.core s.frames 0 (length g.rows)
walk_credit fits n (begin b) = begin_credit fits b
walk_credit fits n (then w p) = step_credit fits (walk_inv fits n w) (walk_credit fits n w) p

pub moves_little : EveryWalkMovesLittle
moves_little g t src k s given w =
    let i = walk_inv given.fits given.station w in
    let c = walk_credit given.fits given.station w in
    record {
      here = credit_most given.sized i.facts.limits.room c;
      between = λ v d j s₁ vis. credit_most given.sized (visiting_looking given.fits i vis).facts.limits.room (visiting_credit i c vis);
    }

-- as an unexpanded node is expanded there is room for all its children
pub children_few : {g : Network} {t : Tree} {src : ℕ} → Given g t src → {k : ℕ} {s : State} → Walk g t src k s → (x : ℕ) → s.core.base x ≡ None
    → s.core.shelf.puts + length (t.children x) ≤ most_moves g t
children_few given w =
    children_room given.sized (walk_inv given.fits given.station w).facts.limits.room (walk_credit given.fits given.station w) given.fits

-- so at the start
module _ {g : Network} {t : Tree} {src : ℕ} (given : Given g t src) {s : State} (blank : Blank src s) where
  pub blank_children : (x : ℕ) → s.core.shelf.puts + length (t.children x) ≤ most_moves g t
  blank_children x = children_room given.sized (λ x β e. absurd (some_none e (blank.base x))) (blank_credit blank) given.fits x (blank.base x)

  pub alone_few : {final' so_far' : ℕ → Option ℕ} {k : ℕ} {s₁ : Core} → t.parent src ≡ None → Call s.core src 0 final' so_far'
      → Links g t src 0 (called s.core final' so_far' s.core.shelf) k s₁ → s₁.shelf.puts ≤ most_moves g t
  alone_few h call links =
      credit_most given.sized (alone_looking given.fits given.station blank h call links).facts.limits.room
      (credit_links call.final.at (credit_call (blank.final src) refl (blank_credit blank) call) links)
