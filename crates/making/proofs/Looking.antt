-- A link is looked at.
use Rattle.std.proofs.Common.{◌≡◌, ℕ, suc, ◌+◌, ◌<◌, true, false, ◌≢◌, List, sym, refl, ap, ◌∙◌, subst, inl, arith}
use native.Mathlib.Decide.{dec_lt}
use Rattle.network.specs.declared.entry.Entry.{Entry}
use Rattle.network.specs.declared.row.Row.{Row}
use Rattle.network.specs.declared.scheme.Scheme.{Scheme}
use Rattle.network.specs.Entries.{is_in}
use Rattle.network.specs.Levels.{IsLevel}
use Rattle.network.specs.Network.{Hop, delay}
use Rattle.network.specs.Rows.{Sound}
use Rattle.network.specs.Schemes.{network_of}
use Rattle.network.proofs.Levels.{level_of_small, small_of_level}
use Rattle.network.proofs.Routes.{flip}
use Rattle.tree.proofs.Ranks.{Past}
use Rattle.making.specs.declared.groups.Member.{Member}
use Rattle.making.specs.Joins.{Grown, TakenIn, Linked}
use Rattle.making.specs.Members.{label_of, before_of, sum_of}
use Rattle.making.proofs.Fitting.{Stands, fit_of}
use Rattle.making.proofs.Linking.{link_skipped, link_inside, link_joins, sum_fits}

-- the link k of the scheme is e
module _ {s : Scheme} {i k : ℕ} {e : Entry} {members : List Member} (w : Grown (network_of s) (Past (network_of s) i k) members) (at : Stands s k e) where
  pub sound_row : Sound s.stations e.row
  sound_row = subst (Sound s.stations) at.row ((fit_of s).proper k at.listed)

  pub sums_fit : e.row.ns + (sum_of members (label_of members e.row.from) + sum_of members (label_of members e.row.to)) < 18446744073709551616
  sums_fit =
      omega (
        arith,
        ap (λ (r : Row). r.ns) at.row,
        (fit_of s).bounded k at.listed,
        sum_fits (label_of members e.row.from) (fit_of s) w (w.self e.row.from),
        sum_fits (label_of members e.row.to) (fit_of s) w (w.self e.row.to),
      )

  next : {members' : List Member} → Grown (network_of s) (Past (network_of s) i (suc k)) members' → Grown (network_of s) (Past (network_of s) i (k + 1)) members'
  next {members'} v = let n : suc k ≡ k + 1 = omega arith in subst (λ m. Grown (network_of s) (Past (network_of s) i m) members') n v

  level_is : {j : ℕ} → IsLevel e.row.ns j → IsLevel (delay (network_of s) k) j
  level_is {j} l = subst (λ (r : Row). IsLevel r.ns j) (sym at.row) l

  pub look_withdrawn : is_in e.standing ≡ false → Grown (network_of s) (Past (network_of s) i (k + 1)) members
  look_withdrawn n = next (link_skipped w (λ a b h l. absurd (let up : is_in e.standing ≡ true = sym at.up ∙ h.up in cc)))

  pub look_other : (j : ℕ) → IsLevel e.row.ns j → j ≢ i + 1 → Grown (network_of s) (Past (network_of s) i (k + 1)) members
  look_other j l n =
      next (link_skipped w (λ a b h m. small_of_level {g = network_of s} {k = k} (level_is l) (omega (arith, level_of_small {g = network_of s} {k = k} (level_is l) m, low))))
    where
      low : j ≢ suc i
      low d = n (omega arith)

  pub look_joins :
      {members' : List Member} (j : ℕ) → is_in e.standing ≡ true → IsLevel e.row.ns j → j ≡ i + 1 → Linked members e.row members'
      → Grown (network_of s) (Past (network_of s) i (k + 1)) members'
  look_joins {members'} j up l is linked = next (go (dec_lt (label_of members e.row.from) (label_of members e.row.to)) (dec_lt (label_of members e.row.to) (label_of members e.row.from)))
    where
      level : IsLevel (delay (network_of s) k) (suc i)
      level = let n : j ≡ suc i = omega arith in subst (IsLevel (delay (network_of s) k)) n (level_is l)

      over : Hop (network_of s) k e.row.from e.row.to
      over = record { listed = at.listed; up = at.up ∙ up; ends = inl (ap (λ (r : Row). r.from) at.row, ap (λ (r : Row). r.to) at.row) }

      go : Dec (label_of members e.row.from < label_of members e.row.to) → Dec (label_of members e.row.to < label_of members e.row.from) → Grown (network_of s) (Past (network_of s) i (suc k)) members'
      go (yes h) d = link_joins (fit_of s) w level over _ _ refl refl h (subst (λ (r : Row). TakenIn members (label_of members e.row.from) (label_of members e.row.to) r.ns members') (sym at.row) (linked.onward h))
      go (no n) (yes h) = link_joins (fit_of s) w level (flip over) _ _ refl refl h (subst (λ (r : Row). TakenIn members (label_of members e.row.to) (label_of members e.row.from) r.ns members') (sym at.row) (linked.back h))
      go (no n) (no m) =
          let same : label_of members e.row.from ≡ label_of members e.row.to = omega arith in
          subst (Grown (network_of s) (Past (network_of s) i (suc k))) (sym (linked.inside same)) (link_inside (fit_of s) w level over same)

-- the labels before are as they were
pub linked_before : {members members' : List Member} {r : Row} → Linked members r members' → (u : ℕ) → before_of members' u ≡ before_of members u
linked_before {members} {members'} {r} linked u = go (dec_lt (label_of members r.from) (label_of members r.to)) (dec_lt (label_of members r.to) (label_of members r.from))
  where
    go : Dec (label_of members r.from < label_of members r.to) → Dec (label_of members r.to < label_of members r.from) → before_of members' u ≡ before_of members u
    go (yes l) d = (linked.onward l).before u
    go (no n) (yes l) = (linked.back l).before u
    go (no n) (no m) = ap (λ ms. before_of ms u) (linked.inside (omega arith))
