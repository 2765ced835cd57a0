-- The steps of the links, for the groups in memory.
use Rattle.std.proofs.Common.{◌≡◌, ℕ, suc, ◌*◌, ◌<◌, ◌≤◌, ◌≢◌, ◌⊎◌, List, [], ◌∷◌, length, sym, refl, ap, ◌∙◌, subst, inl, inr, arith}
use native.Mathlib.Decide.{ℕ_discrete}
use Rattle.network.specs.Laws.{Bounded}
use Rattle.network.specs.Levels.{IsLevel}
use Rattle.network.specs.Lists.{Among}
use Rattle.network.specs.Network.{Network, Hop, Small, row, delay, sum}
use Rattle.network.proofs.Levels.{small_grows}
use Rattle.network.proofs.Lists.{pigeonhole}
use Rattle.tree.proofs.Growing.{skipped, inside, joins_two}
use Rattle.tree.proofs.Making.{Part, part_join, part_stays}
use Rattle.tree.proofs.Marks.{Merged, merged_self}
use Rattle.tree.proofs.Ranks.{Past, before_past, past_before}
use Rattle.making.specs.declared.groups.Member.{Member}
use Rattle.making.specs.Joins.{Fit, Grown, TakenIn}
use Rattle.making.specs.Members.{label_of, sum_of}

-- another set of links is looked at, with the same links in service in it
pub grown_skipped :
    {g : Network} {seen seen' : ℕ → Type 0} {members : List Member} → Grown g seen members → ((j : ℕ) → seen j → seen' j)
    → ((j a b : ℕ) → Hop g j a b → seen' j → seen j) → Grown g seen' members
grown_skipped w more only =
    record {
      all = w.all;
      joins = w.joins;
      grouped = skipped w.grouped more only;
      low = w.low;
      self = w.self;
      part = w.part;
    }

more_past : {g : Network} {i k : ℕ} (j : ℕ) → Past g i k j → Past g i (suc k) j
more_past j = elim [ inl h ↦ inl h | inr h ↦ inr (h.0, omega (arith, h.1)) ]

only_past : {g : Network} {i k : ℕ} (j : ℕ) → Past g i (suc k) j → Past g i k j ⊎ (j ≡ k)
only_past j (inl h) = inl (inl h)
only_past {k = k} j (inr h) = elim (ℕ_discrete j k) [ yes e ↦ inr e | no n ↦ inl (inr (h.0, omega (arith, h.1))) ]

-- the link k is no link of level i + 1 in service
pub link_skipped :
    {g : Network} {i k : ℕ} {members : List Member} → Grown g (Past g i k) members → ((a b : ℕ) → Hop g k a b → Small g (suc i) k → Small g i k)
    → Grown g (Past g i (suc k)) members
link_skipped {g} {i} {k} w no_hop = grown_skipped w (more_past {g = g}) only
  where
    only : (j a b : ℕ) → Hop g j a b → Past g i (suc k) j → Past g i k j
    only j a b h (inl s) = inl s
    only j a b h (inr s) = elim (ℕ_discrete j k) [ yes e ↦ inl (rw (sym e) at (no_hop a b (rw e at h) (rw e at s.0))) | no n ↦ inr (s.0, omega (arith, s.1)) ]

-- the link k of level i + 1, from a to b
module _ {g : Network} {i k a b : ℕ} {members : List Member} (fit : Fit g) (w : Grown g (Past g i k) members) (level : IsLevel (delay g k) (suc i)) (over : Hop g k a b) where
  pub link_inside : label_of members a ≡ label_of members b → Grown g (Past g i (suc k)) members
  link_inside e =
      record {
        all = w.all;
        joins = w.joins;
        grouped = inside w.grouped (more_past {g = g}) (only_past {g = g}) (past_before fit.proper level) (before_past level) over e;
        low = w.low;
        self = w.self;
        part = w.part;
      }

  -- its ends are in the groups lo and hi, the lower one of which takes in the other
  module _ {members' : List Member} (lo hi : ℕ) (at_a : label_of members a ≡ lo) (at_b : label_of members b ≡ hi) (l : lo < hi) (t : TakenIn members lo hi (delay g k) members') where
    apart : lo ≢ hi
    apart e = omega arith

    differ : label_of members a ≢ label_of members b
    differ e = omega arith

    own_lo : label_of members lo ≡ lo
    own_lo = subst (λ z. label_of members z ≡ z) at_a (w.self a)

    own_hi : label_of members hi ≡ hi
    own_hi = subst (λ z. label_of members z ≡ z) at_b (w.self b)

    new : ¬ Among k w.joins
    new h = differ (w.grouped.closed k a b (w.grouped.sound k h).0 over)

    side : (label_of members (row g k).from ≡ lo) ⊎ (label_of members (row g k).from ≡ hi)
    side = elim over.ends [ inl p ↦ inl (ap (label_of members) p.0 ∙ at_a) | inr p ↦ inr (ap (label_of members) p.0 ∙ at_b) ]

    turned : Merged (label_of members) (label_of members b) (label_of members a) (label_of members')
    turned = record { at = λ u e. t.merged.at u (e ∙ at_b) ∙ sym at_a; off = λ u n. t.merged.off u (λ e. n (e ∙ sym at_b)) }

    part_of : (s : ℕ) → label_of members' s ≡ s → Part g (label_of members') (k ∷ w.joins) s (sum_of members' s)
    part_of s own = go (ℕ_discrete s lo) (ℕ_discrete (label_of members s) hi)
      where
        go : Dec (s ≡ lo) → Dec (label_of members s ≡ hi) → Part g (label_of members') (k ∷ w.joins) s (sum_of members' s)
        go (yes e) d = rw e (rw t.sum (part_join k apart new t.merged side (w.part lo own_lo) (w.part hi own_hi)))
        go (no n) (yes e) = absurd (n (sym own ∙ t.merged.at s e))
        go (no n) (no d) =
            rw (t.others s n) (part_stays k apart new t.merged side n (λ e. d (ap (label_of members) e ∙ own_hi)) (w.part s (sym (t.merged.off s d) ∙ own)))

    pub link_joins : Grown g (Past g i (suc k)) members'
    link_joins =
        record {
          all = t.size ∙ w.all;
          joins = k ∷ w.joins;
          grouped =
              joins_two w.grouped (more_past {g = g}) (only_past {g = g}) (past_before fit.proper level) (before_past level) over
              (inr (record { under = level.under }, omega arith)) differ turned;
          low = λ u. elim (ℕ_discrete (label_of members u) hi) [ yes e ↦ omega (arith, t.merged.at u e, w.low u) | no d ↦ omega (arith, t.merged.off u d, w.low u) ];
          self = merged_self t.merged w.self apart own_lo;
          part = part_of;
        }

-- links that are listed, so many of them, take no longer than so many times the longest
sum_most : (g : Network) → Bounded g → (ks : List ℕ) → ((k : ℕ) → Among k ks → k < length g.rows) → sum g ks ≤ length ks * 4294967295
sum_most g most [] h = omega arith
sum_most g most (k ∷ ks) h = omega (arith, most k (h k (inl refl)), sum_most g most ks (λ j a. h j (inr a)))

-- so the sum of a label fits by far
pub sum_fits : {g : Network} {seen : ℕ → Type 0} {members : List Member} (s : ℕ) → Fit g → Grown g seen members → label_of members s ≡ s → sum_of members s ≤ 2048 * 4294967295
sum_fits {g} {seen} {members} s fit w own =
    let p = w.part s own in
    let listed : (k : ℕ) → Among k p.links → k < length g.rows = λ k a. (w.grouped.sound k ((p.each k).0 a).0).1.listed in
    omega (arith, p.total, sum_most g fit.bounded p.links listed, pigeonhole g (length g.rows) p.links p.once listed, fit.few)

-- a level begins where those before it are done, and is done where all its links have been looked at
pub level_begins : {g : Network} {i : ℕ} {members : List Member} → Grown g (Small g i) members → Grown g (Past g i 0) members
level_begins w = grown_skipped w (λ j s. inl s) (λ j a b h. elim [ inl s ↦ s | inr s ↦ absurd (omega (arith, s.1)) ])

pub level_done :
    {g : Network} {i : ℕ} {members : List Member} (k : ℕ) → length g.rows ≤ k → Grown g (Past g i k) members → Grown g (Small g (suc i)) members
level_done {g} {i} k all w =
    let l : i ≤ suc i = omega arith in
    grown_skipped w (λ j. elim [ inl s ↦ small_grows l j s | inr s ↦ s.0 ]) (λ j a b h s. inr (s, omega (arith, h.listed)))
