-- Held ranges as nodes of a pool.
use Rattle.std.specs.Prelude.{◌≡◌, List, length, map}
use Rattle.idx_links.specs.parts.Nodes.{Node, Nodes}
use Rattle.placement.specs.declared.extents.Extent.{Extent}
use Rattle.placement.specs.declared.item.Held.{Held}
use Rattle.placement.specs.parts.Rising.{AreRising}

abbrev pub range_of : Node Extent → Held
range_of node = record { owner = node.owner; start = node.value.start; len = node.value.len }

-- the ranges of all nodes, in order
abbrev pub ranges_of : Nodes Extent → List Held
ranges_of nodes = map range_of nodes.order

-- what is so of the nodes of held ranges
pub record AreKept (nodes : Nodes Extent) : Type 0 where
  pub owners : length nodes.chains ≡ 512
  pub rising : AreRising (ranges_of nodes)
