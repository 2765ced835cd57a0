-- What code has to know of a tree alone follows from its fitting a network.
use Rattle.std.proofs.Common.{suc, arith}
use Rattle.network.specs.declared.scheme.Scheme.{Scheme}
use Rattle.tree.proofs.Totals.{total_longer}
use Rattle.map.specs.declared.map.Map.{Map}
use Rattle.map.specs.Means.{tree_of}
use Rattle.settling.specs.Asks.{Charted, Walkable}

pub walkable : {s : Scheme} {m : Map} → Charted s m → Walkable (tree_of m)
walkable {m = m} ch =
    record {
      later = ch.fits.later;
      listed = λ x p h. (ch.fits.inner x p h).below;
      within = λ x p h. let t = tree_of m in let i = ch.fits.inner x p h in omega (arith, ch.fits.numbered p i, total_longer t.buckets (suc p) t.nodes i.below);
      runs = ch.runs;
    }
