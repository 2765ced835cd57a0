-- Groups get their numbers: one station after the other, one level after the other.
use Rattle.std.proofs.Common.{◌≡◌, ℕ, suc, ◌+◌, ◌^◌, ◌<◌, ◌≤◌, List, [], ◌∷◌, ◌++◌, length, sym, refl, ap, ◌∙◌, subst, inl, inr, arith, length-append}
use native.Mathlib.Decide.{ℕ_discrete, dec_le}
use Rattle.std.proofs.lemmas.List.{get_or_append_left}
use Rattle.std.proofs.Math.Seq.{get_or-append_seam}
use Rattle.network.specs.Network.{Network, Proper, Route, here, step, Each, and, Small, Under}
use Rattle.network.proofs.Routes.{hop_delay}
use Rattle.tree.specs.Components.{Forms}
use Rattle.tree.specs.Joining.{Earlier}
use Rattle.making.specs.declared.nodes.Node.{Node}
use Rattle.making.specs.Numbers.{StationsFirst, Passed, Placed, Numbered, no_node, level_of, lowest_of}

more : {i s : ℕ} (j r : ℕ) → Passed i s j r → Passed i (suc s) j r
more j r = elim [ inl h ↦ inl h | inr h ↦ inr (h.0, omega (arith, h.1)) ]

-- no group forms with s as its lowest station
pub none_here : {g : Network} {i s : ℕ} {nodes : List Node} → Numbered g i s nodes → ¬ Forms g (suc i) s → Numbered g i (s + 1) nodes
none_here {g} {i} {s} {nodes} w no_group =
    let n : suc s ≡ s + 1 = omega arith in
    subst (λ z. Numbered g i z nodes) n
    (record { stations = w.stations; forms = w.forms; past = λ x a b. more (level_of nodes x) (lowest_of nodes x) (w.past x a b); every = every; order = w.order })
  where
    every : (j r : ℕ) → Passed i (suc s) j r → Forms g j r → Placed g nodes j r
    every j r (inl h) f = w.every j r (inl h) f
    every j r (inr h) f =
        elim (ℕ_discrete r s) [
          | yes e ↦ absurd (no_group (subst (λ z. Forms g z s) h.0 (subst (Forms g j) e f)))
          | no d ↦ w.every j r (inr (h.0, omega (arith, h.1))) f
        ]

-- the next node is the group that forms with s as its lowest station
module _ {g : Network} {i s : ℕ} {nodes : List Node} (w : Numbered g i s nodes) (f : Forms g (suc i) s) (m : Node) (is_level : m.level ≡ suc i) (is_lowest : m.lowest ≡ s) where
  abbrev nodes' : List Node
  nodes' = nodes ++ m ∷ []

  abbrev n : ℕ
  n = length nodes

  longer : length nodes' ≡ suc n
  longer = omega (arith, length-append nodes (m ∷ []))

  other_level : (x : ℕ) → x < n → level_of nodes' x ≡ level_of nodes x
  other_level x h = ap (λ (node : Node). node.level) (get_or_append_left nodes (m ∷ []) no_node x h)

  other_lowest : (x : ℕ) → x < n → lowest_of nodes' x ≡ lowest_of nodes x
  other_lowest x h = ap (λ (node : Node). node.lowest) (get_or_append_left nodes (m ∷ []) no_node x h)

  here_level : level_of nodes' n ≡ suc i
  here_level = ap (λ (node : Node). node.level) (get_or-append_seam nodes m [] no_node) ∙ is_level

  here_lowest : lowest_of nodes' n ≡ s
  here_lowest = ap (λ (node : Node). node.lowest) (get_or-append_seam nodes m [] no_node) ∙ is_lowest

  forms' : (x : ℕ) → g.stations ≤ x → x < length nodes' → Forms g (level_of nodes' x) (lowest_of nodes' x)
  forms' x a b =
      elim (ℕ_discrete x n) [
        | yes e ↦ rw e (rw here_level (rw here_lowest f))
        | no d ↦ let l : x < n = omega (arith, longer) in rw (other_level x l) (rw (other_lowest x l) (w.forms x a l))
      ]

  past' : (x : ℕ) → g.stations ≤ x → x < length nodes' → Passed i (suc s) (level_of nodes' x) (lowest_of nodes' x)
  past' x a b =
      elim (ℕ_discrete x n) [
        | yes e ↦ rw e (inr (here_level, omega (arith, here_lowest)))
        | no d ↦ let l : x < n = omega (arith, longer) in
            rw (other_level x l) (rw (other_lowest x l) (more (level_of nodes x) (lowest_of nodes x) (w.past x a l)))
      ]

  kept : (j r : ℕ) → Placed g nodes j r → Placed g nodes' j r
  kept j r p =
      record {
        node = p.node;
        above = p.above;
        below = omega (arith, longer, p.below);
        is_level = other_level p.node p.below ∙ p.is_level;
        is_lowest = other_lowest p.node p.below ∙ p.is_lowest;
      }

  every' : (j r : ℕ) → Passed i (suc s) j r → Forms g j r → Placed g nodes' j r
  every' j r (inl h) k = kept j r (w.every j r (inl h) k)
  every' j r (inr h) k =
      elim (ℕ_discrete r s) [
        | yes e ↦ record { node = n; above = w.stations; below = omega (arith, longer); is_level = here_level ∙ sym h.0; is_lowest = here_lowest ∙ sym e }
        | no d ↦ kept j r (w.every j r (inr (h.0, omega (arith, h.1))) k)
      ]

  last : (x : ℕ) → Passed i s (level_of nodes x) (lowest_of nodes x) → Earlier (level_of nodes x) (lowest_of nodes x) (suc i) s
  last x (inl h) = inl (omega arith)
  last x (inr h) = inr h

  order' : (x y : ℕ) → g.stations ≤ x → x < y → y < length nodes' → Earlier (level_of nodes' x) (lowest_of nodes' x) (level_of nodes' y) (lowest_of nodes' y)
  order' x y a b k =
      let l : x < n = omega (arith, longer) in
      rw (other_level x l) (rw (other_lowest x l) (elim (ℕ_discrete y n) [
        | yes e ↦ rw e (rw here_level (rw here_lowest (last x (w.past x a l))))
        | no d ↦ let z : y < n = omega (arith, longer) in rw (other_level y z) (rw (other_lowest y z) (w.order x y a b z))
      ]))

  pub one_more : Numbered g i (s + 1) (nodes ++ m ∷ [])
  one_more =
      let e : suc s ≡ s + 1 = omega arith in
      subst (λ z. Numbered g i z (nodes ++ m ∷ [])) e (record { stations = omega (arith, longer, w.stations); forms = forms'; past = past'; every = every'; order = order' })

-- what is added stands after the stations
pub first_more : {n : ℕ} (nodes : List Node) (m : Node) → n ≤ length nodes → StationsFirst n nodes → StationsFirst n (nodes ++ m ∷ [])
first_more {n} nodes m all first x h = get_or_append_left nodes (m ∷ []) no_node x (omega arith) ∙ first x h

-- all stations have been gone through: the next level begins
pub level_numbered : {g : Network} {i : ℕ} {nodes : List Node} (s : ℕ) → g.stations ≤ s → Numbered g i s nodes → Numbered g (suc i) 0 nodes
level_numbered {g} {i} {nodes} s all w =
    record { stations = w.stations; forms = w.forms; past = λ x a b. inl (top (w.past x a b)); every = every; order = w.order }
  where
    top : {j r : ℕ} → Passed i s j r → j ≤ suc i
    top (inl h) = omega arith
    top (inr h) = omega (arith, h.0)

    every : (j r : ℕ) → Passed (suc i) 0 j r → Forms g j r → Placed g nodes j r
    every j r (inl h) f = elim (dec_le j i) [ yes l ↦ w.every j r (inl l) f | no l ↦ w.every j r (inr (omega arith, omega (arith, f.station))) f ]
    every j r (inr h) f = absurd (omega (arith, h.1))

-- before the first level there are the stations alone: links under 1 ns lead nowhere
pub stations_numbered : {g : Network} → Proper g → (nodes : List Node) → length nodes ≡ g.stations → Numbered g 0 0 nodes
stations_numbered {g} proper nodes all =
    record {
      stations = omega arith;
      forms = λ x a b. absurd (omega arith);
      past = λ x a b. absurd (omega arith);
      every = λ j r. elim [ inl h ↦ (λ f. absurd (no_group j r h f)) | inr h ↦ (λ f. absurd (omega (arith, h.1))) ];
      order = λ x y a b k. absurd (omega arith);
    }
  where
    stay : {u v : ℕ} {ks : List ℕ} → Route g u ks v → Each (Small g 0) ks → u ≡ v
    stay here e = refl
    stay (step h p) (and s e) = absurd (let one : 2 ^ 0 ≡ 1 = refl in omega (arith, s.under, hop_delay proper h))

    no_group : (j r : ℕ) → j ≤ 0 → Forms g j r → ⊥
    no_group j r h f =
        let z : j ≡ 0 = omega arith in
        let u : Under g 0 r f.other = subst (λ i. Under g i r f.other) z f.joint.joined in
        f.two (sym (stay u.route u.each))
