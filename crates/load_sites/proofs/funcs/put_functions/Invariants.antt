use Rattle.std.proofs.Common.{◌≡◌, map, take}
use Rattle.load_sites.specs.parts.Funcs.{func_of}
use Rattle.load_sites.proofs.funcs.put_functions.Given as goal

abbrev pub invariant-loop-key : goal.invariant-loop-key
invariant-loop-key l = l.funcs ≡ map func_of (take l.key-index l.keys)
