use Rattle.std.proofs.Common.{◌≡◌, ◌++◌}
use Rattle.std.specs.Prelude.{codes}
use Rattle.a32_isa.specs.Text.{parted}
use Rattle.a32_isa.proofs.Parts.{is_empty, names_below}
use Rattle.a32_isa.proofs.operands.put_list.Given as goal

abbrev pub invariant-loop-register : goal.invariant-loop-register
invariant-loop-register l = record {
  so_far : l.out ≡ l.fn.out ++ (codes "{" ++ parted (names_below l.list l.register));
  none_yet : l.first ≡ is_empty (names_below l.list l.register);
}
