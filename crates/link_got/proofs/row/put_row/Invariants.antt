use Rattle.std.proofs.Common.{◌≡◌, ◌++◌, take}
use Rattle.link_model.specs.Segments.{words_from}
use Rattle.link_got.proofs.row.put_row.Given as goal

abbrev pub invariant-loop-n : goal.invariant-loop-n
invariant-loop-n l = l.words ≡ l.fn.words ++ words_from l.place (take l.n l.values)
