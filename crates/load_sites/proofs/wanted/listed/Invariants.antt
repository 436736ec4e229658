use Rattle.std.proofs.Common.{◌≡◌, take}
use Rattle.elf_model.specs.declared.func.Func.{Func}
use Rattle.symbol_scope.specs.Closure.{has}
use Rattle.load_model.specs.Descriptors.{is_same_func, is_listed}
use Rattle.load_sites.proofs.wanted.listed.Given as goal

abbrev pub invariant-loop-entry : goal.invariant-loop-entry
invariant-loop-entry l = (f : Func) → has is_same_func l.funcs f ≡ is_listed (take l.entry-index l.entries) f
