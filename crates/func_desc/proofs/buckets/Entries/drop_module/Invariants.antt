use Rattle.std.proofs.Common.{◌≡◌, length}
use Rattle.idx_links.proofs.Walked.{from_node}
use Rattle.func_desc.specs.parts.Buckets.{AreBucketed}
use Rattle.func_desc.proofs.Leaving.{IsLeft}
use Rattle.func_desc.proofs.buckets.Entries.drop_module.Given as goal

abbrev pub invariant-loop-at : goal.invariant-loop-at
invariant-loop-at l = record {
  left : IsLeft l.number l.slots.base l.initial.self-inside.nodes l.self-inside.nodes l.slots.marks l.at;
  bucketed : AreBucketed l.self-inside.buckets l.self-inside.nodes;
  stays : l.slots ≡ record l.initial.slots { marks = l.slots.marks };
  count : length l.slots.marks ≡ length l.initial.slots.marks;
}

abbrev pub decreases-loop-at : goal.decreases-loop-at
decreases-loop-at l = length (from_node l.at l.self-inside.nodes.order)
