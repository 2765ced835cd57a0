-- What the bucket of the counter hands over. A station that it hands over is at its least delay.
use Rattle.std.proofs.Common.{◌≡◌, ℕ, ◌+◌, ◌*◌, ◌/◌, ◌^◌, ◌<◌, ◌≤◌, ◌⊎◌, List, ◌∷◌, ◌++◌, Some, None, Option, sym, refl, ap, ◌∙◌, inl, inr, add-mul, arith, pow_pos}
use Rattle.network.specs.Network.{Network, Route, here, step, Hop, Attained, Least, Each, and, Small, sum}
use Rattle.tree.specs.Tree.{Tree, Below, self, In, Inner, Fits, width}
use Rattle.network.proofs.Routes.{flip, join, join_sum}
use Rattle.tree.proofs.Nodes.{station_only, separate}
use Rattle.tree.proofs.Routes.{ends}
use Rattle.tree.proofs.Routes as routes
use Rattle.tree.proofs.Words.{some_none, same_some}
use Rattle.walk.specs.declared.frame.Frame.{Frame}
use Rattle.walk.specs.State.{Shelf, Core}
use Rattle.walk.specs.Rules.{Lowest, falls, unknown, Slot, within, past}
use Rattle.walk.specs.Steps.{Open, Going, Taken}
use Rattle.walk.proofs.Lines.{line_lt, bucket_high, width_pos}
use Rattle.walk.proofs.Pass.{pass}
use Rattle.walk.proofs.Invariant.{On, Expanded, line, Early, Standing, loose, fresh, visiting, through, waiting, Facts, Looked}

-- a small link of x from a visited station to an unvisited one
record Edge (g : Network) (t : Tree) (final : ℕ → Option ℕ) (x : ℕ) : Type 0 where
  pub w : ℕ
  pub d : ℕ
  pub link : ℕ
  pub u : ℕ
  pub inside_w : Below t w x
  pub inside_u : Below t u x
  pub seen : final w ≡ Some d
  pub unseen : final u ≡ None
  pub over : Hop g link w u
  pub small : Small g (t.level x) link

edge : {g : Network} {t : Tree} (fits : Fits g t) {x a b d : ℕ} {ks : List ℕ} (final : ℕ → Option ℕ) → Below t a x → final a ≡ Some d → final b ≡ None
    → Route g a ks b → Each (Small g (t.level x)) ks → Edge g t final x
edge fits final i h n here s = absurd (some_none h n)
edge {g} {t} fits {x} {a} {b} {d} final i h n (step {b = m} {k = k} {ks = ks} j p) (and s r) = go (final m) refl (λ e i h. edge fits final i h n p r)
  where
    below : Below t m x
    below = routes.inside fits i j s

    go : (o : Option ℕ) → final m ≡ o → ((e : ℕ) → Below t m x → final m ≡ Some e → Edge g t final x) → Edge g t final x
    go (Some e) q later = later e below q
    go None q later = record { w = a; d = d; link = k; u = m; inside_w = i; inside_u = below; seen = h; unseen = q; over = j; small = s }

-- an item of the bucket at which the counter of x stands: a child that is not expanded ..
pub record New (t : Tree) (s : Core) (x c : ℕ) : Type 0 where
  pub parent : t.parent c ≡ Some x
  pub shut : s.base c ≡ None
  pub least : ℕ
  pub lowest : Lowest t s.so_far c least
  pub here : least / width t x ≡ s.count x

-- .. or one that waits at the line of x
pub record Again (t : Tree) (s : Core) (fs : List Frame) (lim : ℕ → ℕ) (x c : ℕ) : Type 0 where
  pub parent : t.parent c ≡ Some x
  pub expanded : Expanded s.base c
  pub off : ¬ On fs c
  pub more : Open t s.final c
  pub level : line t s.count c ≡ line t s.count x
  pub limit : lim c ≡ line t s.count c

-- x has a least, not far past its limit
pub record Due (t : Tree) (so_far : ℕ → Option ℕ) (lim : ℕ → ℕ) (x : ℕ) : Type 0 where
  pub u : ℕ
  pub inside : In t u x
  pub y : ℕ
  pub known : so_far u ≡ Some y
  pub near : y < lim x + 2 ^ t.level x

module _ {g : Network} {t : Tree} (fits : Fits g t) {src : ℕ} {s : Core} {fs : List Frame} {lim : ℕ → ℕ} (facts : Facts g t src s fs lim) where
  pub early_route : {x β : ℕ} (r : Early t s.final s.so_far x β) → Attained g src r.at r.d
  early_route r = elim r.seen [ inl h ↦ (facts.delays.exact r.at r.d h).attained | inr h ↦ (facts.delays.found r.at r.d h).attained ]

  -- while x is open, its counter has not passed its last bucket
  pub in_room : (x β : ℕ) → s.base x ≡ Some β → Open t s.final x → s.count x < β + t.buckets x
  in_room x β e o =
      let r = facts.early x β e in
      let i = facts.grown.inner x β e in
      let n = fits.near x r.at o.u i r.inside o.inside in
      let a = early_route r in
      let f = facts.limits.far x β o.u (a.links ++ n.links) e o.inside o.unvisited (join a.route n.route) in
      line_lt (s.count x) (β + t.buckets x) (width t x)
      (omega (arith, f, join_sum g a.links n.links, a.total, n.short, r.early, fits.room x i, add-mul β (t.buckets x) (width t x)))

  -- an expanded node that is open has a least
  pub due : Looked g s.final s.so_far → (x β : ℕ) → s.base x ≡ Some β → Open t s.final x → Due t s.so_far lim x
  due looked x β e o = go (facts.early x β e) (facts.early x β e).seen
    where
      go : (r : Early t s.final s.so_far x β) → (s.final r.at ≡ Some r.d) ⊎ (s.so_far r.at ≡ Some r.d) → Due t s.so_far lim x
      go r (inr h) = record { u = r.at; inside = r.inside; y = r.d; known = h; near = omega (arith, r.early, facts.limits.later x β e, pow_pos (t.level x)) }
      go r (inl h) =
          let n = fits.near x r.at o.u (facts.grown.inner x β e) r.inside o.inside in
          let l = edge fits s.final r.inside.below h o.unvisited n.route n.small in
          let k = looked l.w l.d l.u l.link l.seen l.unseen l.over in
          let i : In t l.w x = record { station = ends fits (flip l.over); below = l.inside_w } in
          record {
            u = l.u;
            inside = record { station = ends fits l.over; below = l.inside_u };
            y = k.y;
            known = k.known;
            near = omega (arith, k.near, l.small.under, facts.limits.passed x β l.w l.d e o i l.seen);
          }

  pub item : {x c : ℕ} {h' : Shelf} → Open t s.final x → Taken t s x c h' → New t s x c ⊎ Again t s fs lim x c
  item {x} {c} o tk = go (facts.stands c)
    where
      β : ℕ
      β = tk.now.start

      inn : Inner t x
      inn = facts.grown.inner x tk.now.start tk.now.based

      slot : (x' k' : ℕ) → Inner t x' → Slot t x' k' (s.shelf.bucket c) → (x' ≡ x) × (k' ≡ tk.k)
      slot x' k' i (past l e) = absurd (some_none tk.item e)
      slot x' k' i (within l e) =
          let room : tk.k < t.buckets x = omega (arith, in_room x tk.now.start tk.now.based o, tk.now.spot) in
          let same : t.first x' + k' ≡ t.first x + tk.k = same_some e tk.item in
          let q : x' ≡ x = separate fits k' tk.k i inn l room same in
          (q, omega (arith, same, ap t.first q))

      go : Standing t s fs lim c (s.shelf.bucket c) → New t s x c ⊎ Again t s fs lim x c
      go (loose h e) = absurd (some_none tk.item e)
      go (visiting h e) = absurd (some_none tk.item e)
      go (through h a e) = absurd (some_none tk.item e)
      go (fresh p γ h b n (unknown a e)) = absurd (some_none tk.item e)
      go (fresh p γ h b n (falls x' k' f l)) =
          let q = slot x' k' (fits.inner c x' f.parent) l in
          let z : f.start ≡ tk.now.start = same_some f.based (ap s.base q.0 ∙ tk.now.based) in
          inl (record {
            parent = f.parent ∙ ap Some q.0;
            shut = n;
            least = f.least;
            lowest = f.lowest;
            here = ap (λ y. f.least / width t y) (sym q.0) ∙ f.spot ∙ omega (arith, z, q.1, tk.now.spot);
          })
      go (waiting p β' γ k' h b d n op l m w sl) =
          let q = slot p k' (fits.inner c p h) sl in
          let z : β' ≡ tk.now.start = same_some b (ap s.base q.0 ∙ tk.now.based) in
          let a : β' + k' ≡ s.count x = omega (arith, z, q.1, tk.now.spot) in
          inr (record {
            parent = h ∙ ap Some q.0;
            expanded = record { start = γ; based = d };
            off = n;
            more = op;
            level = sym l ∙ ap (λ y. (β' + k') * width t y) q.0 ∙ ap (λ y. y * width t x) a;
            limit = w;
          })

  -- a station that is handed over is at its least delay
  pub record Ripe (x v d : ℕ) : Type 0 where
    pub new : New t s x v
    pub short : d < lim x
    pub least : Least g src v d

  pub ripe : Looked g s.final s.so_far → {f : Frame} {gs : List Frame} {h' : Shelf} {v d : ℕ} → fs ≡ f ∷ gs → Going t s f → Taken t s f.node v h'
      → v < t.stations → s.so_far v ≡ Some d → Ripe f.node v d
  ripe looked {f} {gs} {h'} {v} {d} ef going tk n e = go (item going.more tk)
    where
      go : New t s f.node v ⊎ Again t s fs lim f.node v → Ripe f.node v d
      go (inr a) = absurd (omega (arith, (facts.grown.inner v a.expanded.start a.expanded.based).above))
      go (inl a) = record { new = a; short = short; least = record { attained = (facts.delays.found v d e).attained; least = all } }
        where
          same : a.least ≡ d
          same = same_some (ap s.so_far (sym (station_only fits n a.lowest.inside.below)) ∙ a.lowest.known) e

          short : d < lim f.node
          short =
              omega (
                arith,
                (facts.top f gs ef).same going.same,
                same,
                bucket_high a.least (width t f.node) (s.count f.node) (width_pos t f.node) a.here,
              )

          ups : (p : ℕ) → t.parent v ≡ Some p → Expanded s.base p
          ups p h = let z : p ≡ f.node = same_some h a.parent in record { start = tk.now.start; based = ap s.base z ∙ tk.now.based }

          all : (ks : List ℕ) → Route g src ks v → d ≤ sum g ks
          all ks p = elim (pass fits facts looked ups (record { station = n; below = self }) (facts.delays.found v d e).unvisited p) [
            | inl b ↦ (let z : b.y ≡ d = same_some (ap s.so_far (sym (station_only fits n b.inside.below)) ∙ b.known) e in omega (arith, b.near))
            | inr b ↦ (let z : b.p ≡ f.node = same_some b.parent a.parent in omega (arith, b.long, short, ap lim z))
          ]
