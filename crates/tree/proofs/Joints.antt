-- The stations of a node are a group; and the smallest node with two stations has their joint level.
use Rattle.std.proofs.Common.{◌≡◌, ℕ, zero, suc, ◌+◌, ◌<◌, ◌≤◌, ◌⊎◌, List, Some, None, Option, refl, subst, inl, inr, arith}
use native.Mathlib.Decide.{dec_le}
use Rattle.network.specs.Network.{Network, Route, NoRoute, Under, Group, Joint}
use Rattle.network.proofs.Levels.{joined_symmetric, joined_transitive, under_grows}
use Rattle.network.proofs.Groups.{under?, joint_of}
use Rattle.tree.specs.Components.{Components, Above}
use Rattle.tree.specs.Laws.{Smallest, Whole}
use Rattle.tree.specs.Tree.{Tree, Below, self, In, Inner}
use Rattle.tree.proofs.Nodes.{nest, below_level}
use Rattle.tree.proofs.Holding.{low, same_node, holds_in, in_holds, in_node, above_later, above_inner, within_level}
use Rattle.tree.proofs.Common.{Common, common, over}
use Rattle.tree.proofs.Fit.{fits}

module _ {g : Network} {t : Tree} (c : Components g t) where
  pub together : {x a b : ℕ} → In t a x → In t b x → Under g (t.level x) a b
  together i j = joined_transitive (joined_symmetric (in_holds c i)) (in_holds c j)

  pub node_group : (x : ℕ) → x < t.nodes → Group g (t.level x) (λ u. In t u x)
  node_group x h =
      record {
        member = t.lowest x;
        inhabited = holds_in c h (low g t x);
        stations = λ a i. omega (arith, i.station, c.stations);
        connected = λ a b i j. together i j;
        largest = λ a b i s u. holds_in c h (joined_transitive (in_holds c i) u);
      }

  pub no_lower_group : (x j : ℕ) → Inner t x → j < t.level x → ¬ Group g j (λ u. In t u x)
  no_lower_group x j i l q =
      let f = c.forms x i in
      omega (arith, f.joint.smallest j (q.connected (t.lowest x) f.other (holds_in c i.below (low g t x)) (holds_in c i.below f.joint.joined)))

  -- the largest node of level i or less above x, which holds a
  pub top_of : (fuel i a x : ℕ) → t.nodes ≤ fuel + x → x < t.nodes → t.level x ≤ i → In t a x → Whole g t i a
  top_of zero i a x m n l h = absurd (omega arith)
  top_of (suc fuel) i a x m n l h = go (t.parent x) refl (λ p k np lp hp. top_of fuel i a p k np lp hp)
    where
      -- what level i joins with a is in x, or in its parent, whose level is then i or less
      whole : ((y : ℕ) → Above g t x y → ¬ (t.level y ≤ i)) → Whole g t i a
      whole f =
          record {
            node = x;
            below = n;
            level = l;
            inside = λ u k. under_grows l (together h k);
            every = λ u k. elim (under? c.proper (t.level x) (t.lowest x) u) [
              | yes q ↦ holds_in c n q
              | no q ↦ (let o = over c i h.station (in_holds c h) k q in absurd (f o.node o.above o.level))
            ];
          }

      go : (o : Option ℕ) → t.parent x ≡ o → ((p : ℕ) → t.nodes ≤ fuel + p → p < t.nodes → t.level p ≤ i → In t a p → Whole g t i a) → Whole g t i a
      go None e later = whole (λ y b k. c.root x y e n b)
      go (Some p) e later = pick (dec_le (t.level p) i)
        where
          pick : Dec (t.level p ≤ i) → Whole g t i a
          pick (yes k) =
              let q = c.parent x p e in
              later p (omega (arith, above_later c n q.above)) q.above.node k (holds_in c q.above.node (q.above.holds a (in_holds c h)))
          pick (no k) = whole (λ y b z. let q = c.parent x p e in omega (arith, within_level c (above_inner c q.above) (q.smallest y b)))

  pub group_node : (i a : ℕ) → a < t.stations → Whole g t i a
  group_node i a h =
      top_of t.nodes i a a (omega arith) (omega (arith, c.all_stations)) (omega (arith, c.station_level a h)) (record { station = h; below = self })

  pub joint_level : (a b y : ℕ) → Smallest t a b y → Joint g a b (t.level y)
  joint_level a b y s = record { joined = together s.one s.other; smallest = λ j u. go j u (joint_of c.proper u.route) }
    where
      go : (j : ℕ) → Under g j a b → (i : ℕ) × Joint g a b i → t.level y ≤ j
      go j u p =
          let m = common c p.0 s.one.station p.1 in
          omega (arith, below_level (fits c) (s.least m.node (holds_in c m.below m.one) (holds_in c m.below m.other)), m.level, p.1.smallest j u)

  pub smallest_of : (a b : ℕ) (ks : List ℕ) → a < t.stations → Route g a ks b → (y : ℕ) × Smallest t a b y
  smallest_of a b ks h r = go (joint_of c.proper r)
    where
      go : (i : ℕ) × Joint g a b i → (y : ℕ) × Smallest t a b y
      go p = (m.node, record { one = ia; other = holds_in c m.below m.other; least = least })
        where
          m : Common c a b p.0
          m = common c p.0 h p.1

          ia : In t a m.node
          ia = holds_in c m.below m.one

          least : (z : ℕ) → In t a z → In t b z → Below t m.node z
          least z i j = pick (nest ia.below i.below)
            where
              pick : Below t m.node z ⊎ Below t z m.node → Below t m.node z
              pick (inl q) = q
              pick (inr q) =
                  let e : t.level m.node ≡ t.level z = omega (arith, below_level (fits c) q, m.level, p.1.smallest (t.level z) (together i j)) in
                  subst (Below t m.node) (same_node c m.below (in_node c i) e m.one (in_holds c i)) self

  pub none_together : (a b : ℕ) → NoRoute g a b → (y : ℕ) → In t a y → ¬ In t b y
  none_together a b n y i j = let u = together i j in n u.links u.route

  pub together_none : (a b : ℕ) → a < t.stations → ((y : ℕ) → In t a y → ¬ In t b y) → NoRoute g a b
  together_none a b h f ks r = let z = smallest_of a b ks h r in f z.0 z.1.one z.1.other
