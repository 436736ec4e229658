use Rattle.std.proofs.Common.{◌≡◌, take}
use Rattle.std.specs.Str.{bytes_eq}
use Rattle.symbol_scope.specs.Closure.{with_new}
use Rattle.load_process.proofs.found.add_new.Given as goal

-- the names so far are there
abbrev pub invariant-loop-name : goal.invariant-loop-name
invariant-loop-name l = l.names.keys ≡ with_new bytes_eq l.fn.names.keys (take l.name-index l.more)
