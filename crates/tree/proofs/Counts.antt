-- How many nodes and buckets the component tree has: the own links of all nodes are joining links, none of them counted twice, and over all nodes the halves
-- of the buckets cancel; so the buckets are at most 6 times the joining links, which are fewer than the stations.
use Rattle.std.proofs.Common.{◌≡◌, ℕ, zero, suc, ◌+◌, ◌-◌, ◌*◌, ◌^◌, ◌<◌, ◌≤◌, List, [], ◌++◌, length, inl, inr, arith, pow_mono}
use native.Mathlib.Decide.{dec_lt, dec_le}
use Rattle.network.specs.Lists.{Among, Distinct}
use Rattle.network.specs.Network.{Network, delay}
use Rattle.network.proofs.Lists.{once, among_join}
use Rattle.tree.specs.Components.{Components}
use Rattle.tree.specs.Totals.{total}
use Rattle.tree.specs.Tree.{Tree, Inner, Sized}
use Rattle.tree.proofs.Words.{same_some}
use Rattle.tree.proofs.Totals.{total_longer}
use Rattle.tree.proofs.Sums.{tally, tally_below, length_join, distinct_join, gather}
use Rattle.tree.proofs.Forest.{forest, few_joining}
use Rattle.tree.proofs.Holding.{positive, same_node}
use Rattle.tree.proofs.Fit.{rising_once}
use Rattle.tree.proofs.Own.{half, Owns, Own, own}

module _ {g : Network} {t : Tree} (c : Components g t) where
  -- the own links of the nodes below n
  record Owned (n k : ℕ) : Type 0 where
    node : ℕ
    below : node < n
    inner : Inner t node
    owns : Owns c node k

  record Upto (n : ℕ) : Type 0 where
    links : List ℕ
    once : Distinct links
    each : (k : ℕ) → Among k links → Owned n k
    few : total t.buckets n + 2 * total (half c) n ≤ 2 * total (λ x. tally (half c) (t.children x)) n + 6 * length links
    nodes : n ≤ t.stations + length links

  later : {n k : ℕ} → Owned n k → Owned (suc n) k
  later z = record { node = z.node; below = omega (arith, z.below); inner = z.inner; owns = z.owns }

  level_most : (a b d : ℕ) → 1 ≤ b → 2 ^ (b - 1) ≤ d → d < 2 ^ a → b ≤ a
  level_most a b d p q l = elim (dec_le b a) [ yes m ↦ m | no m ↦ absurd (let e : a ≤ b - 1 = omega arith in omega (arith, pow_mono e)) ]

  -- a link is one node's own
  one_owner : {x y k : ℕ} → Inner t x → Inner t y → Owns c x k → Owns c y k → x ≡ y
  one_owner {x} {y} {k} i j p q =
      let e : t.level x ≡ t.level y =
      omega (arith, level_most (t.level x) (t.level y) (delay g k) (positive c y j) q.wide p.small, level_most (t.level y) (t.level x) (delay g k) (positive c x i) p.wide q.small) in
      same_node c i.below j.below e p.from q.from

  upto : (n : ℕ) → n ≤ t.nodes → Upto n
  upto zero h = record { links = []; once = tt; each = λ k a. elim a [ ]; few = omega arith; nodes = omega arith }
  upto (suc n) h = go (upto n (omega arith)) (dec_lt n t.stations)
    where
      go : Upto n → Dec (n < t.stations) → Upto (suc n)
      go r (yes s) =
          record { links = r.links; once = r.once; each = λ k a. later (r.each k a); few = omega (arith, r.few, c.no_buckets n s); nodes = omega (arith, s) }
      go r (no s) =
          record {
            links = o.links ++ r.links;
            once = distinct_join o.links r.links o.once r.once apart;
            each = λ k a.
                elim (among_join k o.links r.links a) [
                  | inl b ↦ record { node = n; below = omega arith; inner = i; owns = o.each k b }
                  | inr b ↦ later (r.each k b)
                ];
            few = omega (arith, r.few, o.few, length_join o.links r.links);
            nodes = omega (arith, r.nodes, o.some, length_join o.links r.links);
          }
        where
          i : Inner t n
          i = record { above = omega arith; below = omega arith }

          o : Own c n
          o = own c n i

          apart : (k : ℕ) → Among k o.links → Among k r.links → ⊥
          apart k a b = let z = r.each k b in omega (arith, z.below, one_owner i z.inner (o.each k a) z.owns)

  level_below : (x n : ℕ) → x < n → t.level x ≤ total t.level n
  level_below x n h = omega (arith, total_longer t.level (suc x) n h)

  -- a child is counted under one node
  children_total : total (λ x. tally (half c) (t.children x)) t.nodes ≤ total (half c) t.nodes
  children_total =
      let r = gather t.children (half c) (λ x. rising_once t (t.children x) (c.rising x)) (λ x y k a b. same_some ((c.children x k).0 a) ((c.children y k).0 b)) t.nodes in
      omega (arith, r.add, tally_below (half c) t.nodes r.all r.once (λ k a. let z = r.among k a in (c.parent k z.0 ((c.children z.0 k).0 z.2)).node))

  pub sized : 1 ≤ t.stations → Sized t
  sized h =
      record {
        nodes = omega (arith, u.nodes, fewer, few_joining g c.proper top (omega (arith, c.stations)), c.stations);
        buckets = omega (arith, u.few, fewer, few_joining g c.proper top (omega (arith, c.stations)), c.stations, children_total);
      }
    where
      u : Upto t.nodes
      u = upto t.nodes (omega arith)

      top : ℕ
      top = total t.level t.nodes

      fewer : length u.links ≤ length (forest {g = g} c.proper top).joins
      fewer =
          (once g u.links (forest {g = g} c.proper top).joins u.once
          (λ k a.
          let z = u.each k a in
          (forest {g = g} c.proper top).grouped.every k (record { under = omega (arith, z.owns.small, pow_mono (level_below z.node t.nodes z.below)) }) z.owns.joining)).1
