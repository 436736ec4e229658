use Rattle.std.proofs.Common.{◌≡◌, drop}
use Rattle.placed_code.specs.Places.{code_among}
use Rattle.placed_code.proofs.code.code_at.Given as goal

-- what is left decides
abbrev pub invariant-loop-m : goal.invariant-loop-m
invariant-loop-m l = code_among l.maps l.addr l.m (drop l.m l.process.modules) ≡ code_among l.maps l.addr 0 l.process.modules
