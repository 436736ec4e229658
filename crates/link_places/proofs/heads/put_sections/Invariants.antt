use Rattle.std.proofs.Common.{◌≡◌, ◌++◌, length, take}
use Rattle.link_places.specs.parts.Heads.{heads_from, parts_of}
use Rattle.link_places.proofs.heads.put_sections.Given as goal

abbrev pub invariant-loop-n : goal.invariant-loop-n
invariant-loop-n l = l.heads ≡ l.fn.heads ++ heads_from (length l.fn.heads) (take l.n (parts_of l.fn.input l.fn.object))
