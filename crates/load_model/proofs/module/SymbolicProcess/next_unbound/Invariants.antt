use Rattle.std.proofs.Common.{◌≡◌, None}
use Rattle.std.specs.Prelude.{find, is_some}
use Rattle.std.specs.List.{range_with_len}
use Rattle.load_model.specs.Unbound.{first_set, unbound_of}
use Rattle.load_model.proofs.module.SymbolicProcess.next_unbound.Given as goal

-- no module so far has an unbound slot
abbrev pub invariant-loop-m : goal.invariant-loop-m
invariant-loop-m l = find (λ m. is_some (first_set (unbound_of l.self m))) (range_with_len 0 l.m) ≡ None
