-- A map that holds nothing yet.
use Rattle.std.specs.Prelude.{◌≡◌, [], vec_items, vec_len, vec_capacity}
use Rattle.map.specs.declared.map.Map.{Map}

-- it has no station and no node, nothing stands in its memory, and that is enough for 512 stations, and 1,024 nodes with as many children
pub record Blank (m : Map) : Type 0 where
  pub stations : vec_len m.place ≡ 0
  pub nodes : vec_len m.nodes ≡ 0
  pub node_items : vec_items m.nodes ≡ []
  pub child_items : vec_items m.children ≡ []
  pub place_items : vec_items m.place ≡ []
  pub node_room : vec_capacity m.nodes ≡ 1024
  pub child_room : vec_capacity m.children ≡ 1024
  pub place_room : vec_capacity m.place ≡ 512
