use Rattle.std.proofs.Common.{◌+◌, ◌*◌, ◌<◌, All}
use Rattle.plt_code.specs.parts.Scanned.{ListsBelow}
use Rattle.plt_code.proofs.scan.scan.Given as goal

abbrev pub invariant-loop-n : goal.invariant-loop-n
invariant-loop-n l = record {
  listed : ListsBelow l.o (4 * l.n) l.found;
  within : All (λ e. e.at < l.text.vaddr + l.text.memsz) l.found;
}
