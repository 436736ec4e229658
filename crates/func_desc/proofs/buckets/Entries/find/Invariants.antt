use Rattle.std.proofs.Common.{length}
use Rattle.func_desc.specs.parts.Buckets.{bucket_of, in_bucket}
use Rattle.func_desc.proofs.Looked.{IsLooked}
use Rattle.idx_links.proofs.Walked.{from_node}
use Rattle.func_desc.proofs.buckets.Entries.find.Given as goal

abbrev pub invariant-loop-at : goal.invariant-loop-at
invariant-loop-at l = IsLooked l.self-inside.buckets l.self-inside.nodes l.f l.at

abbrev pub decreases-loop-at : goal.decreases-loop-at
decreases-loop-at l = length (from_node l.at (in_bucket (bucket_of l.self-inside.buckets l.f) l.self-inside.nodes.order))
