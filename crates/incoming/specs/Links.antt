-- The edges into a slot of the table, as its I string says them. Assumes nothing.
use Rattle.std.specs.Prelude.{List, map, ℕ, ◌*◌}
use Rattle.fields.specs.Fields.{part}
use Rattle.model.specs.Numbers.{Bytes, H, joined}
use Rattle.model.specs.Graph.{InEdge}
use Rattle.model.specs.Digest.{Link, link, edge_part, incoming_string}
use Rattle.graph.specs.Table.{slot_width, node_in}

-- an edge into slot i, with the incoming digest of its start
unfoldable pub in_link : Bytes → ℕ → InEdge → Link
in_link work i e = link e (node_in work e.start) (node_in work i) (part work (slot_width * e.start) 32)

-- the edges into slot i
unfoldable pub in_links : Bytes → ℕ → List Link
in_links work i = map (in_link work i) (node_in work i).in_edges

-- some edges into slot i, as its I string says them
unfoldable pub in_parts : Bytes → ℕ → List InEdge → Bytes
in_parts work i es = joined (map edge_part (map (in_link work i) es))

-- the incoming digest of slot i, by those of the slots where its edges start
unfoldable pub incoming_of : Bytes → ℕ → Bytes
incoming_of work i = H (incoming_string (in_links work i))
