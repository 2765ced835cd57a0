-- From labels to nodes, for the code that makes the tree level by level: the labels of two levels in turn say which groups form, and the sums
-- kept per label are the spreads of the nodes.
use Rattle.std.proofs.Common.{◌≡◌, ℕ, suc, ◌+◌, ◌<◌, ◌≤◌, ◌≢◌, ◌⊎◌, ◌↔◌, List, ◌∷◌, ◌++◌, sym, ap, ◌∙◌, subst, inl, inr, arith}
use native.Mathlib.Decide.{ℕ_discrete, dec_le}
use Rattle.network.specs.Lists.{Among, Distinct}
use Rattle.network.specs.Network.{Network, Proper, Small, Under, row, delay, sum}
use Rattle.network.proofs.Routes.{join_sum}
use Rattle.network.proofs.Levels.{joined_symmetric, joined_transitive, joined_map, under_grows}
use Rattle.network.proofs.Lists.{among_join}
use Rattle.tree.specs.Components.{Forms, Inside, Spread}
use Rattle.tree.specs.Tree.{Tree}
use Rattle.tree.proofs.Growing.{Grouped, one_label}
use Rattle.tree.proofs.Marks.{Merged, stays}
use Rattle.tree.proofs.Ranks.{hop_of, joining_small}
use Rattle.tree.proofs.Sums.{among_left, among_right, distinct_join}

-- once all links of level i or less have been looked at: the label of a station is the lowest station of its group
pub record Labels (g : Network) (i : ℕ) (label : ℕ → ℕ) : Type 0 where
  pub joined : (u v : ℕ) → label u ≡ label v → Under g i u v
  pub same : (u v : ℕ) → Under g i u v → label u ≡ label v
  pub low : (u : ℕ) → label u ≤ u
  pub self : (u : ℕ) → label (label u) ≡ label u

pub labels : {g : Network} {label : ℕ → ℕ} {joins : List ℕ} (i : ℕ) → Grouped g (Small g i) label joins → ((u : ℕ) → label u ≤ u) → ((u : ℕ) → label (label u) ≡ label u) → Labels g i label
labels i now low self =
    record { joined = λ u v e. joined_map (λ j a. (now.sound j a).0) (now.joined u v e); same = λ u v h. one_label now h; low = low; self = self }

-- r was a label at level i, and has s as its label now
pub record JoinsIn (old label : ℕ → ℕ) (s r : ℕ) : Type 0 where
  pub was : old r ≡ r
  pub other : r ≢ s
  pub now : label r ≡ s

-- a group forms at level i + 1 with s as its lowest station exactly if s is still a label and another label has become s
module _ {g : Network} {i : ℕ} {old label : ℕ → ℕ} (was : Labels g i old) (now : Labels g (suc i) label) where
  pub made_forms : {s r : ℕ} → s < g.stations → label s ≡ s → JoinsIn old label s r → Forms g (suc i) s
  made_forms {s} {r} h e j =
      record {
        station = h;
        lowest = λ u k. omega (arith, now.same s u k, now.low u);
        other = r;
        two = j.other;
        joint = record { joined = now.joined s r (e ∙ sym j.now); smallest = smallest };
      }
    where
      -- a label of level i + 1 was one of level i
      before : old s ≡ s
      before = let l : i ≤ suc i = omega arith in omega (arith, was.low s, now.low (old s), now.same s (old s) (under_grows l (was.joined s (old s) (sym (was.self s)))))

      smallest : (k : ℕ) → Under g k s r → suc i ≤ k
      smallest k u = elim (dec_le k i) [ yes l ↦ absurd (j.other (sym j.was ∙ sym (was.same s r (under_grows l u)) ∙ before)) | no l ↦ omega arith ]

  pub forms_label : {s : ℕ} → Forms g (suc i) s → label s ≡ s
  forms_label {s} f = omega (arith, now.low s, f.lowest (label s) (now.joined s (label s) (sym (now.self s))))

  pub forms_made : {s : ℕ} (f : Forms g (suc i) s) → JoinsIn old label s (old f.other)
  forms_made {s} f =
      record {
        was = was.self f.other;
        other = λ e. omega (arith, f.joint.smallest i (joined_symmetric (subst (Under g i f.other) e up)));
        now = now.same (old f.other) f.other (joined_symmetric (under_grows l up)) ∙ sym (now.same s f.other f.joint.joined) ∙ forms_label f;
      }
    where
      l : i ≤ suc i
      l = omega arith

      up : Under g i f.other (old f.other)
      up = was.joined f.other (old f.other) (sym (was.self f.other))

-- the joining links so far inside the group with the label s take x together
pub record Part (g : Network) (label : ℕ → ℕ) (joins : List ℕ) (s x : ℕ) : Type 0 where
  pub links : List ℕ
  pub once : Distinct links
  pub each : (k : ℕ) → Among k links ↔ Among k joins × (label (row g k).from ≡ s)
  pub total : sum g links ≡ x

-- at the end of a level they are the spread of the node with the lowest station s
pub part_spread :
    {g : Network} {label : ℕ → ℕ} {joins : List ℕ} {s y : ℕ} (t : Tree) (x : ℕ) → Proper g → Grouped g (Small g (t.level x)) label joins
    → label (t.lowest x) ≡ s → Part g label joins s y → Spread g t x y
part_spread {g} {label} {joins} {s} t x proper now e p =
    record { links = p.links; once = p.once; each = λ k. (λ a. inside k ((p.each k).0 a), λ i. (p.each k).1 (counted k i)); total = p.total }
  where
    under : {u v : ℕ} → label u ≡ label v → Under g (t.level x) u v
    under {u} {v} h = joined_map (λ j a. (now.sound j a).0) (now.joined u v h)

    inside : (k : ℕ) → Among k joins × (label (row g k).from ≡ s) → Inside g t x k
    inside k a =
        let j = now.sound k a.0 in
        record {
          joining = j.1;
          from = under (e ∙ sym a.1);
          to = under (e ∙ sym a.1 ∙ now.closed k (row g k).from (row g k).to j.0 (hop_of j.1));
        }

    counted : (k : ℕ) → Inside g t x k → Among k joins × (label (row g k).from ≡ s)
    counted k i =
        let small = joining_small proper (t.level x) k i.joining (joined_transitive (joined_symmetric i.from) i.to) in
        (now.every k small i.joining, sym (one_label now i.from) ∙ e)

-- a joining link k makes one group of lo and hi: their sums and the link are the sum of lo then, and the other sums stay
module _ {g : Network} {label label' : ℕ → ℕ} {joins : List ℕ} {lo hi : ℕ} (k : ℕ) (apart : lo ≢ hi) (new : ¬ Among k joins) (m : Merged label hi lo label')
    (side : (label (row g k).from ≡ lo) ⊎ (label (row g k).from ≡ hi)) where
  pub part_join : {x y : ℕ} → Part g label joins lo x → Part g label joins hi y → Part g label' (k ∷ joins) lo (delay g k + (x + y))
  part_join p q =
      record {
        links = k ∷ (p.links ++ q.links);
        once = (
          λ a. elim (among_join k p.links q.links a) [ inl b ↦ new ((p.each k).0 b).0 | inr b ↦ new ((q.each k).0 b).0 ],
          distinct_join p.links q.links p.once q.once (λ j a b. apart (sym ((p.each j).0 a).1 ∙ ((q.each j).0 b).1)),
        );
        each = λ j. (sound j, λ a. every j a.0 a.1);
        total = omega (arith, join_sum g p.links q.links, p.total, q.total);
      }
    where
      sound : (j : ℕ) → Among j (k ∷ (p.links ++ q.links)) → Among j (k ∷ joins) × (label' (row g j).from ≡ lo)
      sound j (inl e) = (inl e, rw e (elim side [ inl h ↦ stays m (row g k).from apart h | inr h ↦ m.at (row g k).from h ]))
      sound j (inr a) =
          elim (among_join j p.links q.links a) [
            | inl b ↦ (let z = (p.each j).0 b in (inr z.0, stays m (row g j).from apart z.1))
            | inr b ↦ (let z = (q.each j).0 b in (inr z.0, m.at (row g j).from z.1))
          ]

      pick : (j : ℕ) → Among j joins → label' (row g j).from ≡ lo → Dec (label (row g j).from ≡ hi) → Among j (p.links ++ q.links)
      pick j b h (yes e) = among_right j p.links q.links ((q.each j).1 (b, e))
      pick j b h (no e) = among_left j p.links q.links ((p.each j).1 (b, sym (m.off (row g j).from e) ∙ h))

      every : (j : ℕ) → Among j (k ∷ joins) → label' (row g j).from ≡ lo → Among j (k ∷ (p.links ++ q.links))
      every j (inl e) h = inl e
      every j (inr b) h = inr (pick j b h (ℕ_discrete (label (row g j).from) hi))

  pub part_stays : {s x : ℕ} → s ≢ lo → s ≢ hi → Part g label joins s x → Part g label' (k ∷ joins) s x
  part_stays {s} n d p =
      record {
        links = p.links;
        once = p.once;
        each = λ j. (λ a. let z = (p.each j).0 a in (inr z.0, stays m (row g j).from d z.1), λ a. every j a.0 a.1);
        total = p.total;
      }
    where
      back : (u : ℕ) → label' u ≡ s → label u ≡ s
      back u e = elim (ℕ_discrete (label u) hi) [ yes h ↦ absurd (n (sym e ∙ m.at u h)) | no h ↦ sym (m.off u h) ∙ e ]

      mine : label' (row g k).from ≡ lo
      mine = elim side [ inl h ↦ stays m (row g k).from apart h | inr h ↦ m.at (row g k).from h ]

      every : (j : ℕ) → Among j (k ∷ joins) → label' (row g j).from ≡ s → Among j p.links
      every j (inl e) h = absurd (n (sym h ∙ ap (λ z. label' (row g z).from) e ∙ mine))
      every j (inr b) h = (p.each j).1 (b, back (row g j).from h)
