-- The groups before the first level.
use Rattle.std.proofs.Common.{◌≡◌, ℕ, ◌^◌, List, [], length, get_or, sym, refl, ap, ◌∙◌, subst, arith}
use Rattle.network.specs.Lists.{Among}
use Rattle.network.specs.Network.{Network, Proper, Hop, Joined, Small}
use Rattle.network.proofs.Levels.{joined_self}
use Rattle.network.proofs.Routes.{hop_delay}
use Rattle.tree.proofs.Ranks.{hop_of}
use Rattle.making.specs.declared.groups.Member.{Member}
use Rattle.making.specs.Joins.{Grown}
use Rattle.making.specs.Members.{alone, label_of, sum_of}

pub begun :
    {g : Network} (members : List Member) → Proper g → length members ≡ g.stations → ((u : ℕ) → get_or members u (alone u) ≡ alone u)
    → Grown g (Small g 0) members
begun {g} members proper all each =
    record {
      all = all;
      joins = [];
      grouped =
          record {
            joined = λ u v e. subst (Joined g (λ j. Among j []) u) (sym (own u) ∙ e ∙ own v) (joined_self u);
            closed = λ j a b p h. absurd (nothing p h);
            sound = λ j h. elim h [ ];
            every = λ j p l. absurd (nothing p (hop_of l));
            once = tt;
          };
      low = λ u. omega (arith, own u);
      self = λ u. own (label_of members u);
      part = λ s h. record { links = []; once = tt; each = λ k. (λ a. elim a [ ], λ a. elim a.0 [ ]); total = sym (zero_at s) };
    }
  where
    own : (u : ℕ) → label_of members u ≡ u
    own u = ap (λ (m : Member). m.label) (each u)

    zero_at : (u : ℕ) → sum_of members u ≡ 0
    zero_at u = ap (λ (m : Member). m.sum) (each u)

    nothing : {j a b : ℕ} → Small g 0 j → Hop g j a b → ⊥
    nothing s h = let one : 2 ^ 0 ≡ 1 = refl in omega (arith, s.under, hop_delay proper h)
