-- What is taken was put before: so a walk has put as often as it has visited stations, and it ends.
use Rattle.std.proofs.Common.{◌≡◌, ℕ, suc, ◌+◌, ◌<◌, ◌≤◌, ◌≢◌, List, ◌∷◌, length, Some, None, Option, sym, refl, ap, ◌∙◌, subst, inl, inr, arith}
use native.Mathlib.Decide.{ℕ_discrete}
use Rattle.network.specs.Network.{Network}
use Rattle.tree.specs.Totals.{total}
use Rattle.tree.specs.Tree.{Tree, self, Fits}
use Rattle.network.proofs.Routes.{turn}
use Rattle.tree.proofs.Nodes.{node_of, station_only}
use Rattle.tree.proofs.Routes.{stay}
use Rattle.tree.proofs.Totals.{total_mono, total_zero, total_longer, total_changed}
use Rattle.tree.proofs.Words.{some_none, same_some}
use Rattle.walk.specs.declared.frame.Frame.{Frame}
use Rattle.walk.specs.State.{Shelf, Core, State, Changed, called, counted}
use Rattle.walk.specs.Rules.{Counted, nothing, one, Moved, there, moved, Link, skip, keep, lower, Links, begun, next, Call, Puts, done, put, Expand}
use Rattle.walk.specs.Steps.{Going, Now, Taken, Blank, Begin, alone, root, Step, visit, expand, again, rise, leave, end, Walk, begin, then, entered, left}
use Rattle.walk.specs.Laws.{EveryWalkEnds, EveryWalkMovesEnough, reached}
use Rattle.walk.specs.Laws as laws
use Rattle.walk.proofs.Invariant.{Inv}
use Rattle.walk.proofs.Keep.{Change, change}
use Rattle.walk.proofs.Look.{Alike, links_alike}
use Rattle.walk.proofs.Take.{item}
use Rattle.walk.proofs.Settle.{walk_inv}
use Rattle.walk.proofs.Moves.{moves_little}

-- how often each item was put and taken: what stands on the shelf was put once more
pub record Stock (t : Tree) (h : Shelf) (puts takes : ℕ → ℕ) : Type 0 where
  pub few : total puts t.nodes ≤ h.puts
  pub paid : (c : ℕ) → takes c ≤ puts c
  pub here : (c b : ℕ) → h.bucket c ≡ Some b → takes c < puts c

-- how often the counter of each node rose
pub record Rises (base : ℕ → Option ℕ) (count : ℕ → ℕ) (rises : ℕ → ℕ) : Type 0 where
  pub shut : (x : ℕ) → base x ≡ None → rises x ≡ 0
  pub most : (x β : ℕ) → base x ≡ Some β → rises x + β ≤ count x

-- each step is a take, a rise or the end of a visit, and each visit of an inner node but the first began with a take
pub record Ledger (t : Tree) (s : State) (k : ℕ) : Type 0 where
  pub puts : ℕ → ℕ
  pub takes : ℕ → ℕ
  pub rises : ℕ → ℕ
  pub stock : Stock t s.core.shelf puts takes
  pub risen : Rises s.core.base s.core.count rises
  pub seen : (v d p : ℕ) → s.core.final v ≡ Some d → t.parent v ≡ Some p → 1 ≤ takes v
  pub steps : k + length s.frames ≤ 1 + total takes t.nodes + total takes t.nodes + total rises t.nodes

-- the shelf changes
pub record Stocked (t : Tree) (h : Shelf) (takes : ℕ → ℕ) : Type 0 where
  pub puts : ℕ → ℕ
  pub stock : Stock t h puts takes

module _ {t : Tree} {takes : ℕ → ℕ} where
  set_stock : {c : ℕ} {b : Option ℕ} {h h' : Shelf} → Changed h.bucket c b h'.bucket → Counted t c b h.puts h'.puts → Stocked t h takes
      → Stocked t h' takes
  set_stock {c} {b} {h} {h'} set (nothing n e) l =
      record {
        puts = l.puts;
        stock = record {
          few = omega (arith, l.stock.few, e);
          paid = l.stock.paid;
          here = λ y a q. elim (ℕ_discrete y c) [
            | yes z ↦ absurd (some_none q (ap h'.bucket z ∙ set.at ∙ n))
            | no z ↦ l.stock.here y a (sym (set.off y z) ∙ q)
          ];
        };
      }
  set_stock {c} {b} {h} {h'} set (one k n gr e) l =
      record {
        puts = p.to;
        stock = record {
          few = omega (arith, l.stock.few, e, total_changed l.puts p.to c t.nodes gr.item p.set.off, p.set.at);
          paid = λ y. elim (ℕ_discrete y c) [
            | yes z ↦ omega (arith, ap p.to z, p.set.at, ap takes z, l.stock.paid c)
            | no z ↦ omega (arith, p.set.off y z, l.stock.paid y)
          ];
          here = λ y a q. elim (ℕ_discrete y c) [
            | yes z ↦ omega (arith, ap p.to z, p.set.at, ap takes z, l.stock.paid c)
            | no z ↦ omega (arith, p.set.off y z, l.stock.here y a (sym (set.off y z) ∙ q))
          ];
        };
      }
    where
      p : Change l.puts c (suc (l.puts c))
      p = change l.puts c (suc (l.puts c))

  move_stock : {c : ℕ} {b : Option ℕ} {h h' : Shelf} → Moved t c b h h' → Stocked t h takes → Stocked t h' takes
  move_stock (there a e) l = subst (λ (z : Shelf). Stocked t z takes) (sym e) l
  move_stock (moved n set k) l = set_stock set k l

  puts_stock : {so_far base : ℕ → Option ℕ} {cs : List ℕ} {h h' : Shelf} → Puts t so_far base cs h h' → Stocked t h takes → Stocked t h' takes
  puts_stock done l = l
  puts_stock (put b bel p r) l = puts_stock r (set_stock p.set p.counted l)

  links_stock : {g : Network} {v d : ℕ} {s : Core} {k : ℕ} {s₁ : Core} → Links g t v d s k s₁ → Stocked t s.shelf takes → Stocked t s₁.shelf takes
  links_stock begun l = l
  links_stock {g} {v} {d} (next r p) l = go p (links_stock r l)
    where
      go : {k : ℕ} {s s₁ : Core} → Link g t v d k s s₁ → Stocked t s.shelf takes → Stocked t s₁.shelf takes
      go (skip h) l = l
      go (keep u y j n e h) l = l
      go (lower u c b so_far' h' j n nearer low front bel move) l = move_stock move l

-- an item is taken
module _ {t : Tree} {s : State} {k : ℕ} (l : Ledger t s k) {x c : ℕ} {h' : Shelf} (tk : Taken t s.core x c h') (small : c < t.nodes) where
  took : Change l.takes c (suc (l.takes c))
  took = change l.takes c (suc (l.takes c))

  more_takes : total took.to t.nodes ≡ suc (total l.takes t.nodes)
  more_takes = omega (arith, total_changed l.takes took.to c t.nodes small took.set.off, took.set.at)

  take_stock : Stocked t h' took.to
  take_stock =
      record {
        puts = l.puts;
        stock = record {
          few = omega (arith, l.stock.few, tk.puts);
          paid = λ y. elim (ℕ_discrete y c) [
            | yes z ↦ omega (
              arith,
              ap took.to z,
              took.set.at,
              ap l.puts z,
              l.stock.here c (t.first x + tk.k) tk.item,
            )
            | no z ↦ omega (arith, took.set.off y z, l.stock.paid y)
          ];
          here = λ y b q.
              let z : y ≢ c = λ z. some_none q (ap h'.bucket z ∙ tk.off.at) in
              omega (arith, took.set.off y z, l.stock.here y b (sym (tk.off.off y z) ∙ q));
        };
      }

  -- an inner node is visited
  enter_ledger : {began : ℕ} {base' : ℕ → Option ℕ} {count' : ℕ → ℕ} {h₁ : Shelf} → Stocked t h₁ took.to → Rises base' count' l.rises
      → Ledger t (entered s c began base' count' h₁) (suc k)
  enter_ledger st r =
      record {
        puts = st.puts;
        takes = took.to;
        rises = l.rises;
        stock = st.stock;
        risen = r;
        seen = λ v d p e h. elim (ℕ_discrete v c) [
          | yes z ↦ omega (arith, ap took.to z, took.set.at)
          | no z ↦ omega (arith, took.set.off v z, l.seen v d p e h)
        ];
        steps = omega (arith, l.steps, more_takes);
      }

  -- a station is visited, and its links followed
  visit_ledger : {g : Network} {d : ℕ} {final' so_far' : ℕ → Option ℕ} {s₁ : Core} → Call s.core c d final' so_far'
      → Links g t c d (called s.core final' so_far' h') (length g.rows) s₁
      → Ledger t (record { core = s₁; frames = s.frames }) (suc k)
  visit_ledger {g} {d} {final'} {so_far'} {s₁} call links =
      record {
        puts = st.puts;
        takes = took.to;
        rises = l.rises;
        stock = st.stock;
        risen =
            subst (λ (b : ℕ → Option ℕ). Rises b s₁.count l.rises) (sym q.base)
            (subst (λ (n : ℕ → ℕ). Rises s.core.base n l.rises) (sym q.count) l.risen);
        seen = λ v e p a h. seen' v e p (ap (λ (f : ℕ → Option ℕ). f v) (sym q.final) ∙ a) h (ℕ_discrete v c);
        steps = omega (arith, l.steps, more_takes);
      }
    where
      st : Stocked t s₁.shelf took.to
      st = links_stock links take_stock

      q : Alike (called s.core final' so_far' h') s₁
      q = links_alike links

      seen' : (v e p : ℕ) → final' v ≡ Some e → t.parent v ≡ Some p → Dec (v ≡ c) → 1 ≤ took.to v
      seen' v e p a h (yes z) = omega (arith, ap took.to z, took.set.at)
      seen' v e p a h (no z) = omega (arith, took.set.off v z, l.seen v e p (sym (call.final.off v z) ∙ a) h)

-- a node is expanded: its counter is at its base
expand_rises : {t : Tree} {s : Core} {x d : ℕ} {h h' : Shelf} {base' : ℕ → Option ℕ} {count' rises : ℕ → ℕ} → s.base x ≡ None
    → Expand t s x d h base' count' h' → Rises s.base s.count rises → Rises base' count' rises
expand_rises {s = s} {x = x} {base' = base'} {count' = count'} {rises = rises} shut ex r =
    record {
      shut = λ y n. r.shut y (sym (ex.base.off y (λ z. some_none ex.base.at (ap base' (sym z) ∙ n))) ∙ n);
      most = λ y β e. elim (ℕ_discrete y x) [
        | yes z ↦ (let q = same_some ex.base.at (ap base' (sym z) ∙ e) in omega (arith, q, ap rises z, r.shut x shut, ap count' z, ex.count.at))
        | no z ↦ omega (arith, ex.count.off y z, r.most y β (sym (ex.base.off y z) ∙ e))
      ];
    }

-- the counter of x rises
rise_ledger : {t : Tree} {s : State} {k x j : ℕ} {count' : ℕ → ℕ} → x < t.nodes → Now s.core x j
    → Changed s.core.count x (suc (s.core.count x)) count' → Ledger t s k → Ledger t (record { core = counted s.core count'; frames = s.frames }) (suc k)
rise_ledger {t} {s} {k} {x} {j} {count'} small now set l =
    record {
      puts = l.puts;
      takes = l.takes;
      rises = r.to;
      stock = l.stock;
      seen = l.seen;
      risen = record {
        shut = λ y n. r.set.off y (λ z. some_none now.based (ap s.core.base (sym z) ∙ n)) ∙ l.risen.shut y n;
        most = λ y β e. elim (ℕ_discrete y x) [
          | yes z ↦ omega (arith, ap count' z, ap s.core.count z, ap r.to z, ap l.rises z, set.at, r.set.at, l.risen.most y β e)
          | no z ↦ omega (arith, set.off y z, r.set.off y z, l.risen.most y β e)
        ];
      };
      steps = omega (arith, l.steps, total_changed l.rises r.to x t.nodes small r.set.off, r.set.at);
    }
  where
    r : Change l.rises x (suc (l.rises x))
    r = change l.rises x (suc (l.rises x))

-- a visit ends
left_ledger : {t : Tree} {s : State} {k : ℕ} {f : Frame} {fs : List Frame} {h' : Shelf} → s.frames ≡ f ∷ fs → (l : Ledger t s k)
    → Stocked t h' l.takes → Ledger t (left s h' fs) (suc k)
left_ledger ef l st =
    record {
      puts = st.puts;
      takes = l.takes;
      rises = l.rises;
      stock = st.stock;
      risen = l.risen;
      seen = l.seen;
      steps = omega (arith, l.steps, ap length ef);
    }

step_ledger : {g : Network} {t : Tree} (fits : Fits g t) {src k : ℕ} {s s₁ : State} → Inv g t src s → Ledger t s k → Step g t s s₁ → Ledger t s₁ (suc k)
step_ledger {g} {t} fits {k = k} {s = s} i l p = go p
  where
    node : {f : Frame} {c : ℕ} {h : Shelf} → Going t s.core f → Taken t s.core f.node c h → c < t.nodes
    node going tk = elim (item fits i.facts going.more tk) [ inl a ↦ node_of fits a.parent | inr a ↦ node_of fits a.parent ]

    go : {s₁ : State} → Step g t s s₁ → Ledger t s₁ (suc k)
    go (visit v d s₁ vis) = visit_ledger l vis.taken (node vis.going vis.taken) vis.call vis.links
    go (expand f fs c d h base' count' h' ef going tk big shut ex) =
        enter_ledger l tk (node going tk) (puts_stock ex.puts (take_stock l tk (node going tk))) (expand_rises shut ex l.risen)
    go (again f fs c β h ef going tk big based) = enter_ledger l tk (node going tk) (take_stock l tk (node going tk)) l.risen
    go (rise f fs j count' ef going now bare set) = rise_ledger (i.facts.grown.inner f.node now.start now.based).below now set l
    go (leave f fs q b h' ef ended h bel placed) = left_ledger ef l (set_stock placed.set placed.counted (record { puts = l.puts; stock = l.stock }))
    go (end f fs ef ended h) = left_ledger ef l (record { puts = l.puts; stock = l.stock })

begin_ledger : {g : Network} {t : Tree} {src : ℕ} {s s₁ : State} → Begin g t src s s₁ → Ledger t s₁ 0
begin_ledger {g} {t} {src} {s} b = go b
  where
    none : Blank src s → Stocked t s.core.shelf (λ x. 0)
    none blank =
        record {
          puts = λ x. 0;
          stock = record {
            few = omega (arith, total_zero t.nodes);
            paid = λ c. omega arith;
            here = λ c b e. absurd (some_none e (blank.bucket c));
          };
        }

    still : (blank : Blank src s) → Rises s.core.base s.core.count (λ x. 0)
    still blank = record { shut = λ x e. refl; most = λ x β e. absurd (some_none e (blank.base x)) }

    go : {s₁ : State} → Begin g t src s s₁ → Ledger t s₁ 0
    go (alone final' so_far' s₁ blank h call links) =
        let q = links_alike links in
        let st = links_stock links (none blank) in
        record {
          puts = st.puts;
          takes = λ x. 0;
          rises = λ x. 0;
          stock = st.stock;
          risen = record { shut = λ x e. refl; most = λ x β e. absurd (some_none (ap (λ (f : ℕ → Option ℕ). f x) (sym q.base) ∙ e) (blank.base x)) };
          seen = λ v d p e r. elim (ℕ_discrete v src) [
            | yes z ↦ absurd (some_none r (ap t.parent z ∙ h))
            | no z ↦ absurd (some_none (ap (λ (f : ℕ → Option ℕ). f v) (sym q.final) ∙ e) (call.final.off v z ∙ blank.final v))
          ];
          steps = omega (arith, ap length blank.frames);
        }
    go (root r d base' count' h' blank big below h ex) =
        let st = puts_stock ex.puts (none blank) in
        record {
          puts = st.puts;
          takes = λ x. 0;
          rises = λ x. 0;
          stock = st.stock;
          risen = expand_rises (blank.base r) ex (still blank);
          seen = λ v d p e. absurd (some_none e (blank.final v));
          steps = omega (arith, ap length blank.frames);
        }

walk_ledger : {g : Network} {t : Tree} (fits : Fits g t) {src : ℕ} → src < t.stations → {k : ℕ} {s : State} → Walk g t src k s → Ledger t s k
walk_ledger fits n (begin b) = begin_ledger b
walk_ledger fits n (then w p) = step_ledger fits (walk_inv fits n w) (walk_ledger fits n w) p

pub ends : EveryWalkEnds
ends g t src k s given w =
    omega (
      arith,
      l.steps,
      total_mono l.takes l.puts t.nodes (λ x h. l.stock.paid x),
      l.stock.few,
      (moves_little g t src k s given w).here,
      total_mono l.rises t.buckets t.nodes (λ x h. few x (s.core.base x) refl),
      given.sized.buckets,
    )
  where
    l : Ledger t s k
    l = walk_ledger given.fits given.station w

    few : (x : ℕ) (b : Option ℕ) → s.core.base x ≡ b → l.rises x ≤ t.buckets x
    few x None e = omega (arith, l.risen.shut x e)
    few x (Some β) e = omega (arith, l.risen.most x β e, (walk_inv given.fits given.station w).facts.limits.room x β e)

pub moves_enough : EveryWalkMovesEnough
moves_enough g t src k s given w two = go (t.parent src) refl
  where
    l : Ledger t s k
    l = walk_ledger given.fits given.station w

    i : Inv g t src s
    i = walk_inv given.fits given.station w

    -- a visited station without a parent is the source
    lone : (v d : ℕ) → v < t.stations → s.core.final v ≡ Some d → t.parent v ≡ None → src ≡ v
    lone v d m e z = station_only given.fits m (stay given.fits z self (turn (i.facts.delays.exact v d e).attained.route))

    -- a source without a parent is alone
    sole : t.parent src ≡ None → (v d : ℕ) → s.core.final v ≡ Some d → v ≡ src
    sole h v d e = station_only given.fits given.station (stay given.fits h self (i.facts.delays.exact v d e).attained.route)

    each : (p : ℕ) → t.parent src ≡ Some p → (v : ℕ) → v < t.stations → (o q : Option ℕ) → s.core.final v ≡ o → t.parent v ≡ q → laws.one_if o ≤ l.takes v
    each p h v m None q e z = omega arith
    each p h v m (Some d) (Some q) e z = l.seen v d q e z
    each p h v m (Some d) None e z = absurd (some_none h (ap t.parent (lone v d m e z) ∙ z))

    only : Change {A = ℕ} (λ x. 0) src 1
    only = change {A = ℕ} (λ x. 0) src 1

    one_only : t.parent src ≡ None → (v : ℕ) → (o : Option ℕ) → s.core.final v ≡ o → Dec (v ≡ src) → laws.one_if o ≤ only.to v
    one_only h v None e z = omega arith
    one_only h v (Some d) e (yes z) = omega (arith, ap only.to z, only.set.at)
    one_only h v (Some d) e (no z) = absurd (z (sole h v d e))

    go : (o : Option ℕ) → t.parent src ≡ o → reached t s ≤ s.core.shelf.puts
    go (Some p) h =
        omega (
          arith,
          total_mono (λ v. laws.one_if (s.core.final v)) l.takes t.stations (λ v m. each p h v m (s.core.final v) (t.parent v) refl refl),
          total_longer l.takes t.stations t.nodes (omega (arith, (given.fits.inner src p h).above, (given.fits.inner src p h).below)),
          total_mono l.takes l.puts t.nodes (λ x q. l.stock.paid x),
          l.stock.few,
        )
    go None h =
        absurd (omega (
          arith,
          total_mono (λ v. laws.one_if (s.core.final v)) only.to t.stations
              (λ v m. one_only h v (s.core.final v) refl (ℕ_discrete v src)),
          total_changed (λ x. 0) only.to src t.stations given.station only.set.off,
          only.set.at,
          total_zero t.stations,
        ))
