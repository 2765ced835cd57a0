use Rattle.std.proofs.Common.{rules, arith, ◌≡◌, ◌<◌, Bool, List, length, map, slice_index_or, ap, ◌∙◌}
use Rattle.std.proofs.lemmas.List.{map-set, length-map}
use Rattle.std.proofs.Math.Seq.{map-set_same}
use Rattle.network.specs.declared.row.Row.{Row}
use Rattle.network.specs.declared.entry.Entry.{Entry}
use Rattle.network.specs.Entries.{is_in, is_struck, no_entry}
use Rattle.network.proofs.scheme.Scheme.stand.Goals as goal

pub returns-in-Some : goal.returns-in-Some
returns-in-Some c =
    let s = c.args.self.now in
    let xs : List Entry = s.links.items in
    let e : Entry = record { row = c.in-Some.entry.now.row; standing = c.args.standing } in
    let within : c.args.link < length xs = search rules in
    let at : c.in-Some.entry.now ≡ slice_index_or xs c.args.link no_entry = search rules in
    let kept = map-set_same (λ (x : Entry). x.row) xs c.args.link e no_entry (ap (λ (x : Entry). x.row) at) in
    let service = map-set (λ (x : Entry). is_in x.standing) xs c.args.link e in
    record {
      network = ap (λ (rows : List Row). record { stations = s.stations; rows = rows; service = map (λ (x : Entry). is_in x.standing) (Rattle.std.proofs.Math.ListN.set xs c.args.link e) }) kept ∙ ap (λ (up : List Bool). record { stations = s.stations; rows = map (λ (x : Entry). x.row) xs; service = up }) service;
      struck = map-set (λ (x : Entry). is_struck x.standing) xs c.args.link e;
      same = λ past. absurd (omega (arith, length-map xs (λ (x : Entry). x.row), past, within));
    }
