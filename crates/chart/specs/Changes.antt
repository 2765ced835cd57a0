-- How a chart changes.
use Rattle.std.specs.Prelude.{◌≡◌, ℕ, ◌<◌, ◌≤◌, Bool, false, [], length, slice_set}
use Rattle.network.specs.Network.{Network}
use Rattle.network.specs.Schemes.{network_of, served, struck_of}
use Rattle.chart.specs.declared.chart.Chart.{Chart}

-- a network of one station and no link
abbrev pub one_station : Network
one_station = record { stations = 1; rows = []; service = [] }

-- the link k was put into service or taken out of it, and not for good; which others are struck stayed, and no map stands; past the
-- last link nothing changed
pub record Served (c : Chart) (k : ℕ) (up : Bool) (c' : Chart) : Type 0 where
  pub network : network_of c'.scheme ≡ served (network_of c.scheme) k up
  pub struck : struck_of c'.scheme ≡ slice_set (struck_of c.scheme) k false
  pub stands : k < length (network_of c.scheme).rows → c'.stands ≡ false
  pub same : length (network_of c.scheme).rows ≤ k → c' ≡ c
