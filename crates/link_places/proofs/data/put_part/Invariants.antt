use Rattle.std.proofs.Common.{◌≡◌, ◌++◌, take}
use Rattle.std.specs.Prelude.{filter}
use Rattle.link_places.specs.parts.Data.{is_of}
use Rattle.link_places.proofs.data.put_part.Given as goal

abbrev pub invariant-loop-head : goal.invariant-loop-head
invariant-loop-head l = l.data ≡ l.fn.data ++ filter (is_of l.part) (take l.head-index l.heads)
