-- The network of a scheme: its rules are in the scheme's type, and its links stand in the scheme's list.
use Rattle.std.proofs.Common.{◌≡◌, ℕ, ◌<◌, ◌≤◌, List, false, length, get_or, sym, refl, ap, ◌∙◌, subst, arith}
use Rattle.std.proofs.lemmas.List.{get_or-map, length-map}
use denote.Enum.Bare.{sameb}
use Rattle.network.specs.declared.entry.Entry.{Entry}
use Rattle.network.specs.declared.entry.Standing.{Standing}
use Rattle.network.specs.declared.entry.Standing.TheVariants.{In, Out, Struck}
use Rattle.network.specs.contracts.entry.Standing.{the_type}
use Rattle.network.specs.declared.row.Row.{Row}
use Rattle.network.specs.declared.scheme.Scheme.{Scheme}
use Rattle.network.specs.Entries.{is_in, no_entry}
use Rattle.network.specs.Network.{row, no_row}
use Rattle.network.specs.Rows.{Sound}
use Rattle.network.specs.Schemes.{network_of}
use Rattle.making.specs.Joins.{Fit}

-- the link k of the scheme is e
pub record Stands (s : Scheme) (k : ℕ) (e : Entry) : Type 0 where
  pub listed : k < length (network_of s).rows
  pub row : row (network_of s) k ≡ e.row
  pub up : get_or (network_of s).service k false ≡ is_in e.standing

pub rows_listed : (s : Scheme) {entries : List Entry} {k : ℕ} → length entries ≤ k → entries ≡ s.links.items → length (network_of s).rows ≤ k
rows_listed s {entries} {k} h all = omega (arith, length-map s.links.items (λ (e : Entry). e.row), ap length all)

pub stands : (s : Scheme) {entries : List Entry} (k : ℕ) (d : Entry) → k < length entries → entries ≡ s.links.items → Stands s k (get_or entries k d)
stands s {entries} k d h all =
    subst (λ (es : List Entry). Stands s k (get_or es k d)) (sym all)
    (record {
      listed = omega (arith, length-map s.links.items (λ (e : Entry). e.row), ap length all);
      row = get_or-map (λ (e : Entry). e.row) s.links.items k d no_row (omega (arith, ap length all));
      up = get_or-map (λ (e : Entry). is_in e.standing) s.links.items k d false (omega (arith, ap length all));
    })

pub fit_of : (s : Scheme) → Fit (network_of s)
fit_of s =
    record {
      proper = λ k h. let l : k < s.links.len = within k h in subst (Sound s.stations) (sym (at k l)) (s.sound k l);
      bounded = λ k h. let l : k < s.links.len = within k h in omega (arith, ap (λ (r : Row). r.ns) (at k l), s.bounded k l);
      few = omega (arith, length-map s.links.items (λ (e : Entry). e.row), s.links.ok.0, s.few);
      marked = length-map s.links.items (λ (e : Entry). is_in e.standing) ∙ sym (length-map s.links.items (λ (e : Entry). e.row));
    }
  where
    within : (k : ℕ) → k < length (network_of s).rows → k < s.links.len
    within k h = omega (arith, length-map s.links.items (λ (e : Entry). e.row), s.links.ok.0)

    at : (k : ℕ) → k < s.links.len → row (network_of s) k ≡ (get_or s.links.items k no_entry).row
    at k l = get_or-map (λ (e : Entry). e.row) s.links.items k no_entry no_row (omega (arith, s.links.ok.0))

-- what the code's test says
pub in_told : (s : Standing) → sameb the_type s In ≡ is_in s
in_told In = refl
in_told Out = refl
in_told Struck = refl
