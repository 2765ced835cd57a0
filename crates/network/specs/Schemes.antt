-- The network that a scheme describes, and which of its links are struck.
use Rattle.std.specs.Prelude.{◌≡◌, ℕ, ◌≤◌, Bool, List, length, map, vec_items, slice_set}
use Rattle.network.specs.Network.{Network}
use Rattle.network.specs.Entries.{is_in, is_struck}
use Rattle.network.specs.declared.entry.Standing.{Standing}
use Rattle.network.specs.declared.scheme.Scheme.{Scheme}

abbrev pub network_of : Scheme → Network
network_of s =
    record {
      stations = s.stations;
      rows = map (λ e. e.row) (vec_items s.links);
      service = map (λ e. is_in e.standing) (vec_items s.links);
    }

abbrev pub struck_of : Scheme → List Bool
struck_of s = map (λ e. is_struck e.standing) (vec_items s.links)

-- the same network but for the link k: in service or not
abbrev pub served : Network → ℕ → Bool → Network
served g k up = record { stations = g.stations; rows = g.rows; service = slice_set g.service k up }

-- the link k stands so, and all else is as it was; past the last link nothing changed
pub record Stood (s : Scheme) (k : ℕ) (standing : Standing) (s' : Scheme) : Type 0 where
  pub network : network_of s' ≡ served (network_of s) k (is_in standing)
  pub struck : struck_of s' ≡ slice_set (struck_of s) k (is_struck standing)
  pub same : length (network_of s).rows ≤ k → s' ≡ s
