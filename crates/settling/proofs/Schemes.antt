-- How many links a scheme has.
use Rattle.std.proofs.Common.{◌≡◌, ◌≤◌, length, vec_items, vec_len, arith}
use Rattle.std.proofs.lemmas.List.{length-map}
use Rattle.network.specs.declared.entry.Entry.{Entry}
use Rattle.network.specs.declared.scheme.Scheme.{Scheme}
use Rattle.network.specs.Schemes.{network_of}

pub links_of : (s : Scheme) → length (network_of s).rows ≡ vec_len s.links
links_of s = let e : length (network_of s).rows ≡ length (vec_items s.links) = length-map (vec_items s.links) (λ (e : Entry). e.row) in omega (arith, s.links.ok.0)

pub few_links : (s : Scheme) → length (network_of s).rows ≤ 2048
few_links s = omega (arith, links_of s, s.few)
