-- From every source a walk begins, and goes on until it ends.
use Rattle.std.proofs.Common.{◌≡◌, ℕ, zero, suc, ◌+◌, ◌*◌, ◌<◌, ◌≤◌, ◌⊎◌, [], length, Some, None, Option, refl, ap, ◌∙◌, inl, inr, arith}
use Rattle.network.specs.Network.{Network}
use Rattle.tree.specs.Tree.{Tree}
use Rattle.tree.proofs.Nodes.{rooted, through, Through, Rooted}
use Rattle.tree.proofs.Words.{some_none}
use Rattle.walk.specs.State.{Core, State, called}
use Rattle.walk.specs.Rules.{Lowest, Nothing, Call, Links, begun, next}
use Rattle.walk.specs.Steps.{Blank, Begin, alone, root, Walk, begin, then}
use Rattle.walk.specs.Laws.{Given, Next, RunsTo, EverySourceHasARun, most_moves, in_service}
use Rattle.walk.proofs.Keep.{Change, change}
use Rattle.walk.proofs.Start.{alone_looking}
use Rattle.walk.proofs.Moves.{blank_children, alone_few}
use Rattle.walk.proofs.Ledger.{ends}
use Rattle.walk.proofs.Ready.{least_of}
use Rattle.walk.proofs.Follow.{Expands, expands, follow}
use Rattle.walk.proofs.Progress.{goes_on}

-- a walk can begin
record Begins (g : Network) (t : Tree) (src : ℕ) : Type 0 where
  pub state : State
  pub walk : Walk g t src 0 state

begun_by : {g : Network} {t : Tree} {src : ℕ} {s s₁ : State} → Begin g t src s s₁ → Begins g t src
begun_by {s₁ = s₁} b = record { state = s₁; walk = begin b }

begins : {g : Network} {t : Tree} (src : ℕ) → Given g t src → most_moves g t < 65535 → Begins g t src
begins {g} {t} src given limit = go (through r.below)
  where
    r : Rooted t src
    r = rooted given.fits src

    a : Change {A = Option ℕ} (λ (u : ℕ). None) src (Some 0)
    a = change {A = Option ℕ} (λ (u : ℕ). None) src (Some 0)

    s : State
    s = record { core = record { final = λ u. None; so_far = a.to; base = λ x. None; count = λ x. 0; shelf = record { bucket = λ c. None; puts = 0 } }; frames = [] }

    blank : Blank src s
    blank = record { final = λ u. refl; so_far = a.set; base = λ x. refl; count = λ x. refl; bucket = λ c. refl; puts = refl; frames = refl }

    go : (src ≡ r.root) ⊎ Through t src r.root → Begins g t src
    go (inl e) = let l = all (length g.rows) (omega arith) in begun_by (alone nf.to ns.to l.0 blank lone call l.1)
      where
        lone : t.parent src ≡ None
        lone = ap t.parent e ∙ r.top

        nf : Change {A = Option ℕ} (λ (u : ℕ). None) src (Some 0)
        nf = change {A = Option ℕ} (λ (u : ℕ). None) src (Some 0)

        ns : Change a.to src None
        ns = change a.to src None

        call : Call s.core src 0 nf.to ns.to
        call = record { known = a.set.at; final = nf.set; so_far = ns.set }

        -- no link leads out of it, so none puts anything
        all : (k : ℕ) → k ≤ length g.rows → (s₁ : Core) × Links g t src 0 (called s.core nf.to ns.to s.core.shelf) k s₁
        all zero h = (called s.core nf.to ns.to s.core.shelf, begun)
        all (suc k) h =
            let q = all k (omega arith) in
            let z = alone_looking given.fits given.station blank lone call q.1 in
            let l =
            follow given.fits z.facts given.station (ap (λ (f : ℕ → Option ℕ). f src) z.final ∙ call.final.at) {k = k}
            (omega (arith, alone_few given blank lone call q.1)) h in
            (l.to, next q.1 l.link)
    go (inr c) = pick (least_of given.fits s.core.so_far r.root)
      where
        enter : {d : ℕ} → Expands t s.core r.root d s.core.shelf → Begins g t src
        enter {d} x =
            begun_by (root r.root d x.base' x.count' x.h' blank (given.fits.inner c.child r.root c.parent).above r.below r.top
            x.expand)

        pick : ((d : ℕ) × Lowest t s.core.so_far r.root d) ⊎ Nothing t s.core.so_far r.root → Begins g t src
        pick (inr q) = absurd (some_none a.set.at (q src (record { station = given.station; below = r.below })))
        pick (inl (d, l)) = enter (expands given.fits {s = s.core} l s.core.shelf (λ y q. refl) (omega (arith, blank_children given blank r.root)))

-- it goes on until it ends
pub has_a_run : EverySourceHasARun
has_a_run g t src given limit =
    let b = begins src given limit in
    run (suc (22 * t.stations + 2 * in_service g)) 0 b.state b.walk (omega arith)
  where
    run : (fuel k : ℕ) (s : State) → Walk g t src k s → k + fuel ≡ suc (22 * t.stations + 2 * in_service g) → RunsTo g t src
    run zero k s w e = absurd (omega (arith, ends g t src k s given w))
    run (suc fuel) k s w e = go (goes_on g t src k s given limit w).here (λ s₁ w₁. run fuel (suc k) s₁ w₁ (omega arith))
      where
        go : (s.frames ≡ []) ⊎ Next g t s → ((s₁ : State) → Walk g t src (suc k) s₁ → RunsTo g t src) → RunsTo g t src
        go (inl z) later = record { state = s; run = record { steps = k; walk = w; over = z } }
        go (inr n) later = later n.to (then w n.step)
