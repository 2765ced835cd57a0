-- The node that two stations have in common at their joint level.
use mathlib.Core.Path.{◌≡◌, sym, subst}
use Prim.Native.Nat.{ℕ, zero, suc, ◌≤◌, ◌<◌}
use native.Mathlib.Omega.{arith}
use native.Mathlib.Decide.{dec_lt, dec_le}
use Rattle.network.specs.Network.{Network, Under, Joint}
use Rattle.network.proofs.Levels.{joined_self, joined_symmetric, joined_transitive, under_grows}
use Rattle.network.proofs.Groups.{under_zero, under?, joint_of, joint_apart}
use Rattle.network.proofs.Search.{First, first_of, first_least}
use Rattle.tree.specs.Components.{Components, Forms, Holds, Above}
use Rattle.tree.specs.Tree.{Tree}
use Rattle.tree.proofs.Holding.{share, not_station, above_of, station_holds}

-- joined at level m + 1 and not at level m: nor at any lower level
first_joint : {g : Network} {m a b : ℕ} → ¬ Under g m a b → Under g (suc m) a b → Joint g a b (suc m)
first_joint {g} {m} {a} {b} n u = record { joined = u; smallest = λ j v. elim (dec_le j m) [ yes l ↦ absurd (n (under_grows l v)) | no l ↦ omega arith ] }

module _ {g : Network} {t : Tree} (c : Components g t) where
  -- where a and b first join, a group forms; s is its lowest station
  forms : {m a b : ℕ} → a < g.stations → Joint g a b (suc m) → (f : First (λ w. Under g (suc m) a w) (suc a)) → Forms g (suc m) f.at
  forms {m} {a} {b} h j f = go (under? c.proper m f.at a)
    where
      go : Dec (Under g m f.at a) → Forms g (suc m) f.at
      go (no n) =
          record {
            station = omega (arith, f.under);
            lowest = λ u k. first_least f u (joined_transitive f.has k);
            other = a;
            two = λ e. n (subst (Under g m f.at) (sym e) (joined_self f.at));
            joint = first_joint n (joined_symmetric f.has);
          }
      go (yes k) =
          let n : ¬ Under g m f.at b = λ u. joint_apart j (joined_transitive (joined_symmetric k) u) in
          record {
            station = omega (arith, f.under);
            lowest = λ u k. first_least f u (joined_transitive f.has k);
            other = b;
            two = λ e. n (subst (Under g m f.at) (sym e) (joined_self f.at));
            joint = first_joint n (joined_transitive (joined_symmetric f.has) j.joined);
          }

  -- a node of level i that holds both
  pub record Common (a b i : ℕ) : Type 0 where
    pub node : ℕ
    pub below : node < t.nodes
    pub level : t.level node ≡ i
    pub one : Holds g t node a
    pub other : Holds g t node b

  -- two stations have one at their joint level
  pub common : {a b : ℕ} (i : ℕ) → a < t.stations → Joint g a b i → Common a b i
  common {a} {b} zero h j =
      record {
        node = a;
        below = omega (arith, c.all_stations);
        level = c.station_level a h;
        one = station_holds c h;
        other = subst (Holds g t a) (under_zero c.proper j.joined) (station_holds c h);
      }
  common {a} {b} (suc m) h j =
      let f = first_of (λ w. Under g (suc m) a w) (under? c.proper (suc m) a) (suc a) a (omega arith) (joined_self a) in
      let l = c.every (suc m) f.at (forms (omega (arith, c.stations)) j f) in
      let u : Under g (suc m) f.at a = joined_symmetric f.has in
      record {
        node = l.node;
        below = l.inner.below;
        level = l.level;
        one = rw (l.level, l.lowest) u;
        other = rw (l.level, l.lowest) (joined_transitive u j.joined);
      }

  -- where level j joins a station of x with one that is not of x, a node of level j or less properly holds x
  pub record Over (x j : ℕ) : Type 0 where
    pub node : ℕ
    pub above : Above g t x node
    pub level : t.level node ≤ j

  pub over : {x s b : ℕ} (j : ℕ) → s < t.stations → Holds g t x s → Under g j s b → ¬ Holds g t x b → Over x j
  over {x} {s} {b} j h hs u n = go (joint_of c.proper u.route)
    where
      go : (i : ℕ) × Joint g s b i → Over x j
      go p =
          let m = common p.0 h p.1 in
          let l : t.level x < t.level m.node = higher m (dec_lt (t.level x) (t.level m.node)) in
          record {
            node = m.node;
            above = above_of c (not_station c m.below (omega arith)) l hs m.one;
            level = omega (arith, m.level, p.1.smallest j u);
          }
        where
          higher : (m : Common s b p.0) → Dec (t.level x < t.level m.node) → t.level x < t.level m.node
          higher m (yes l) = l
          higher m (no l) = let k : t.level m.node ≤ t.level x = omega arith in absurd (n (share t m.node x k m.one hs b m.other))
