-- For code that walks: how it builds a walk, and what it may rely on at every state that a walk comes to.
use Rattle.std.proofs.Common.{◌≡◌, ℕ, suc, ◌+◌, ◌-◌, ◌/◌, ◌<◌, ◌≤◌, Bool, true, false, cond, ◌⊎◌, List, [], ◌∷◌, ◌++◌, length, get_or, Some, None, Option, sym, refl, ap, ◌∙◌, subst, inl, inr, mul_comm, arith}
use native.Mathlib.Decide.{ℕ_discrete, dec_lt}
use lib.Pow.{shr_mono}
use Rattle.network.specs.Network.{Network, Route, here, Hop, Attained, Least, sum, delay}
use Rattle.tree.specs.Tree.{Tree, Below, Inner, Near, Fits, width}
use Rattle.network.proofs.Routes.{join}
use Rattle.tree.proofs.Nodes.{in_parent, nest, root_top, rooted, holder, below_inner, station_only}
use Rattle.tree.proofs.Routes.{stay, route_ends}
use Rattle.tree.proofs.Totals.{total_mono, total_ones}
use Rattle.tree.proofs.Words.{some_none}
use Rattle.walk.specs.declared.frame.Frame.{Frame}
use Rattle.walk.specs.State.{Shelf, Core, State, Changed, called}
use Rattle.walk.specs.Rules.{Lowest, Counted, nothing, one, Placed, Moved, there, moved, Front, Links, Call, Puts, done, put}
use Rattle.walk.specs.Steps.{Open, Going, Taken, Visiting, Blank, Walk}
use Rattle.walk.specs.Laws.{Given, most_moves, EveryWalkIsAble}
use Rattle.walk.specs.Able.{Ready, Apt, Safe, Able, DueNow}
use Rattle.walk.proofs.Lines.{line_mono, suc_line, width_pos}
use Rattle.walk.proofs.Invariant.{Expanded, Stack, bottom, above, Facts, Inv}
use Rattle.walk.proofs.Keep.{change, top_expanded, the_stack}
use Rattle.walk.proofs.Look.{found'}
use Rattle.walk.proofs.Take.{early_route, in_room, due, New, Again, item}
use Rattle.walk.proofs.Visit.{visiting_looking}
use Rattle.walk.proofs.Start.{alone_looking}
use Rattle.walk.proofs.Settle.{walk_inv}
use Rattle.walk.proofs.Moves.{moves_little, children_few, alone_few}
use Rattle.walk.proofs.Ready.{base_le, start_le, least_above, top_free, child_free, station_shut, front_of}

-- Building a walk. (Its constructors are begin and then, those of Step, and Visit.next_link for one link more.)

-- moving an item that stands nowhere is placing it: so one function may serve rules 2, 4 and 6
pub placed_moved : {t : Tree} {c : ℕ} {b : Option ℕ} {h h' : Shelf} → h.bucket c ≡ None → Moved t c b h h' → Placed t c b h h'
placed_moved {c = c} free (there a e) =
    record {
      free = free;
      set = record { at = ap (λ (k : Shelf). k.bucket c) e ∙ a; off = λ u n. ap (λ (k : Shelf). k.bucket u) e };
      counted = nothing (sym a ∙ free) (ap (λ (k : Shelf). k.puts) e);
    }
placed_moved free (moved n set k) = record { free = free; set = set; counted = k }

-- first some children, then others
pub puts_then : {t : Tree} {so_far base : ℕ → Option ℕ} {cs ds : List ℕ} {h h₁ h₂ : Shelf} → Puts t so_far base cs h h₁ → Puts t so_far base ds h₁ h₂
    → Puts t so_far base (cs ++ ds) h h₂
puts_then done q = q
puts_then (put b bel p r) q = put b bel p (puts_then r q)

-- each child adds at most one to the count, and moves itself alone (Keep.puts_off)
pub puts_few : {t : Tree} {so_far base : ℕ → Option ℕ} {cs : List ℕ} {h h₁ : Shelf} → Puts t so_far base cs h h₁ → h₁.puts ≤ h.puts + length cs
puts_few done = omega arith
puts_few (put b bel p r) = omega (arith, puts_few r, add_few p.counted)
  where
    add_few : {t : Tree} {c puts puts' : ℕ} {b : Option ℕ} → Counted t c b puts puts' → puts' ≤ suc puts
    add_few (nothing n e) = omega arith
    add_few (one k n gr e) = omega arith

-- at an expansion it can be told where each child belongs
pub child_ready : {t : Tree} {so_far base base' : ℕ → Option ℕ} {x c d : ℕ} → Lowest t so_far x d → Changed base x (Some (d / width t x)) base'
    → t.parent c ≡ Some x → Ready t so_far base' c
child_ready {t} {x = x} {d = d} l set h =
    record {
      x = x;
      parent = h;
      start = d / width t x;
      based = set.at;
      above = λ e k. shr_mono {a = d} {b = e} (t.level x - 1)
          (l.least k.at e (in_parent h k.inside) k.known);
    }

-- Reading off a walk what holds.

-- a book is small enough for the shelf's count
pub small_enough : (g : Network) (t : Tree) → t.stations ≤ 512 → length g.rows ≤ 2048 → most_moves g t < 65535
small_enough g t n m =
    omega (arith, total_mono (λ k. cond (get_or g.service k false) 1 0) (λ k. 1) (length g.rows) (λ k h. at_most (get_or g.service k false)), total_ones (length g.rows))
  where
    at_most : (b : Bool) → cond b 1 0 ≤ 1
    at_most true = omega arith
    at_most false = omega arith

-- following a link, in the midst of the links of a visited station
module _ {g : Network} {t : Tree} (fits : Fits g t) {src : ℕ} {s : Core} {fs : List Frame} {lim : ℕ → ℕ} (facts : Facts g t src s fs lim)
    {v d : ℕ} (station : v < t.stations) (seen : s.final v ≡ Some d) (few : s.shelf.puts < 65535) where
  apt_from : (k : ℕ) → Apt g t s v d k
  apt_from k =
      record { visited = seen; few = few; shut = λ u n. station_shut fits facts n; front = λ u j n. front_of fits facts station seen n j; ready = ready }
    where
      ready : (u c : ℕ) (so_far' : ℕ → Option ℕ) → Hop g k v u → s.final u ≡ None → Changed s.so_far u (Some (d + delay g k)) so_far'
          → Front t s.base u c → Ready t so_far' s.base c
      ready u c so_far' j n low front =
          record {
            x = front.x;
            parent = front.parent;
            start = front.start;
            based = front.based;
            above = λ e l. let f = found' fits facts seen j n low l.at e l.known (ℕ_discrete l.at u) in
                start_le fits facts (record { start = front.start; based = front.based }) (in_parent front.parent l.inside)
                f.unvisited f.attained;
          }

module _ {g : Network} {t : Tree} {src : ℕ} (given : Given g t src) (limit : most_moves g t < 65535) where
  -- the lone source at the start
  alone_apt : {s : State} {final' so_far' : ℕ → Option ℕ} {k : ℕ} {s₁ : Core} → Blank src s → t.parent src ≡ None → Call s.core src 0 final' so_far'
      → Links g t src 0 (called s.core final' so_far' s.core.shelf) k s₁ → Apt g t s₁ src 0 k
  alone_apt {k = k} blank h call links =
      let z = alone_looking given.fits given.station blank h call links in
      apt_from given.fits z.facts given.station (ap (λ (f : ℕ → Option ℕ). f src) z.final ∙ call.final.at)
      (omega (arith, alone_few given blank h call links)) k

  pub alone_safe : {s : State} {final' so_far' : ℕ → Option ℕ} → Blank src s → t.parent src ≡ None → Call s.core src 0 final' so_far'
      → Safe g t (called s.core final' so_far' s.core.shelf) src 0
  alone_safe blank h call k s₁ links = alone_apt blank h call links

  module _ {n : ℕ} {s : State} (w : Walk g t src n s) where
    i : Inv g t src s
    i = walk_inv given.fits given.station w

    -- a station that take handed over
    pub visiting_apt : {v d k : ℕ} {s₁ : Core} → Visiting g t s v d k s₁ → Apt g t s₁ v d k
    visiting_apt {v} {d} {k} {s₁} vis =
        let z = visiting_looking given.fits i vis in
        apt_from given.fits z.facts vis.station (ap (λ (f : ℕ → Option ℕ). f v) z.final ∙ vis.call.final.at)
        (omega (arith, (moves_little g t src n s given w).between v d k s₁ vis)) k

    pub visit_safe : {f : Frame} {fs : List Frame} {v d : ℕ} {h : Shelf} {final' so_far' : ℕ → Option ℕ} → s.frames ≡ f ∷ fs → Going t s.core f
        → Taken t s.core f.node v h → v < t.stations → Call s.core v d final' so_far' → Safe g t (called s.core final' so_far' h) v d
    visit_safe {f} {fs} {h = h} {final' = final'} {so_far' = so_far'} ef going tk small call k s₁ links =
        visiting_apt (record { f = f; fs = fs; top = ef; going = going; h' = h; taken = tk; station = small; final' = final'; so_far' = so_far'; call = call; links = links })

    -- a step
    pub able : {f : Frame} {fs : List Frame} → s.frames ≡ f ∷ fs → Able t s.core f
    able {f} {fs} ef =
        record {
          inner = facts.grown.inner f.node on.start on.based;
          start = on.start;
          based = on.based;
          fresh = λ u y e. (facts.delays.found u y e).unvisited;
          done = λ a o. let r = due given.fits facts i.looked f.node on.start on.based o in some_none r.known (a r.u r.inside);
          from = base_le given.fits facts f.node on.start on.based;
          within = in_room given.fits facts f.node on.start on.based;
          free = top_free given.fits facts ef;
          ready = λ p h. let e = facts.grown.upward f.node on.start p on.based h in
              record { x = p; parent = h; start = e.start; based = e.based; above = least_above given.fits facts h e };
          few = omega (arith, (moves_little g t src n s given w).here);
          child = λ c o d. elim (new_or_again o d) [ inl a ↦ a.parent | inr a ↦ a.parent ];
          known = λ c o d a. elim (new_or_again o d) [
            | inl q ↦ some_none q.lowest.known (a q.lowest.at q.lowest.inside)
            | inr q ↦ (let r = due given.fits facts i.looked c q.expanded.start q.expanded.based (waits_open q o) in some_none
                r.known (a r.u r.inside))
          ];
          kids_free = λ x c e h. child_free given.fits facts h e;
          kids_few = λ x e. omega (arith, children_few given w x e);
        }
      where
        facts : Facts g t src s.core s.frames i.lim
        facts = i.facts

        on : Expanded s.core.base f.node
        on = top_expanded (the_stack given.fits i.facts ef)

        new_or_again : {c : ℕ} → Open t s.core.final f.node → DueNow t s.core f.node c
            → New t s.core f.node c ⊎ Again t s.core s.frames i.lim f.node c
        new_or_again {c} o d =
            let b = change s.core.shelf.bucket c None in
            item given.fits i.facts {h' = record { bucket = b.to; puts = s.core.shelf.puts }} o
            (record { k = d.k; now = d.now; item = d.item; off = b.set; puts = refl })

        waits_open : {c : ℕ} → Again t s.core s.frames i.lim f.node c → Open t s.core.final f.node → Open t s.core.final c
        waits_open a o = a.more

    -- no delay, and no counter of a node that is not through, is above the largest spread
    module _ (m : ℕ) (spreads : (x : ℕ) → Inner t x → t.spread x ≤ m) where
      -- a route of the tree leads to every station of an inner root
      near_root : {u d : ℕ} → t.stations ≤ (rooted given.fits src).root → Attained g src u d → Near g t (rooted given.fits src).root src u
      near_root {u} big a =
          let r = rooted given.fits src in
          fits.near r.root src u (holder given.fits given.station big r.below) (record { station = given.station; below = r.below })
          (record { station = route_ends given.fits given.station a.route; below = stay given.fits r.top r.below a.route })
        where
          fits : Fits g t
          fits = given.fits

      root_short : t.stations ≤ (rooted given.fits src).root → t.spread (rooted given.fits src).root ≤ m
      root_short big = let r = rooted given.fits src in spreads r.root (holder given.fits given.station big r.below)

      -- a least delay from the source is no longer than the spread of its root
      pub least_short : (v d : ℕ) → Least g src v d → d ≤ m
      least_short v d l = go (dec_lt (rooted given.fits src).root t.stations)
        where
          go : Dec ((rooted given.fits src).root < t.stations) → d ≤ m
          go (no big) = let n = near_root (omega arith) l.attained in omega (arith, l.least n.links n.route, n.short, root_short (omega arith))
          go (yes small) =
              let r = rooted given.fits src in
              let q : v ≡ src =
              station_only given.fits small (stay given.fits r.top r.below l.attained.route) ∙ sym
              (station_only given.fits small r.below) in
              omega (arith, l.least [] (subst (λ u. Route g src [] u) (sym q) here))

      pub delays_short : (v d : ℕ) → s.core.final v ≡ Some d → d ≤ m
      delays_short v d e = least_short v d (i.facts.delays.exact v d e)

      -- nor is the delay of a station that is visited now
      pub visiting_short : {v d k : ℕ} {s₁ : Core} → Visiting g t s v d k s₁ → d ≤ m
      visiting_short {v} {d} vis =
          let z = visiting_looking given.fits i vis in
          least_short v d (z.facts.delays.exact v d (ap (λ (f : ℕ → Option ℕ). f v) z.final ∙ vis.call.final.at))

      pub counters_short : (x β : ℕ) → s.core.base x ≡ Some β → Open t s.core.final x → s.core.count x ≤ m
      counters_short x β e o =
          let r = i.facts.early x β e in
          let n = given.fits.near x r.at o.u inn r.inside o.inside in
          let a = early_route given.fits i.facts r in
          let b : Attained g src o.u (sum g (a.links ++ n.links)) = record { links = a.links ++ n.links; route = join a.route n.route; total = refl } in
          let k = near_root (big r.inside.below (stay given.fits (rooted given.fits src).top (rooted given.fits src).below a.route)) b in
          omega (
            arith,
            i.facts.limits.far x β o.u k.links e o.inside o.unvisited k.route,
            k.short,
            root_short (big r.inside.below (stay given.fits (rooted given.fits src).top (rooted given.fits src).below a.route)),
            line_mono 1 (width t x) (s.core.count x) (width_pos t x),
            mul_comm (s.core.count x) (width t x),
            suc_line 0 (s.core.count x),
          )
        where
          inn : Inner t x
          inn = i.facts.grown.inner x β e

          big : {u : ℕ} → Below t u x → Below t u (rooted given.fits src).root → t.stations ≤ (rooted given.fits src).root
          big p q = elim (nest p q) [
            | inl h ↦ below_inner given.fits inn.above h
            | inr h ↦ (let z = root_top (rooted given.fits src).top h in omega (arith, z, inn.above))
          ]

    -- the visits under way are no more than there are levels
    pub depth : (h : ℕ) → ((x : ℕ) → t.level x ≤ h) → length s.frames ≤ h
    depth h levels = go s.frames i.facts.stack
      where
        deep : {f : Frame} {fs : List Frame} → Stack t src s.core.base s.core.count i.lim (f ∷ fs) → length (f ∷ fs) + t.level f.node ≤ suc h
        deep (bottom f e n b) = omega (arith, levels f.node)
        deep (above f k fs e p m a l r) = omega (arith, deep r, given.fits.rising f.node k.node p)

        go : (fs : List Frame) → Stack t src s.core.base s.core.count i.lim fs → length fs ≤ h
        go [] st = omega arith
        go (f ∷ fs) st =
            let e = top_expanded st in
            omega (arith, deep st, given.fits.positive f.node (i.facts.grown.inner f.node e.start e.based))

pub is_able : EveryWalkIsAble
is_able g t src k s given limit w = record { able = λ f fs ef. able given limit w ef; apt = λ v d j s₁ vis. visiting_apt given limit w vis }
