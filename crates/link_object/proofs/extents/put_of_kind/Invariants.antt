use Rattle.std.proofs.Common.{◌≡◌, ◌++◌, take}
use Rattle.std.specs.Prelude.{filter}
use Rattle.link_object.specs.parts.Arrays.{is_of_kind}
use Rattle.link_object.proofs.extents.put_of_kind.Given as goal

abbrev pub invariant-loop-head : goal.invariant-loop-head
invariant-loop-head l = l.sections ≡ l.fn.sections ++ filter (is_of_kind l.kind l.is_writable) (take l.head-index l.heads)
