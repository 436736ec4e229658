use Rattle.std.proofs.Common.{◌≡◌, ◌≤◌, ◌++◌, drop, vec_len, vec_capacity}
use Rattle.func_desc.specs.parts.Slots.{unmarked}
use Rattle.func_desc.proofs.slots.list_unmarked.Given as goal

abbrev pub invariant-loop-i : goal.invariant-loop-i
invariant-loop-i l = record {
  items : l.listed.items ++ unmarked l.base l.i (drop l.i l.marks) ≡ unmarked l.base 0 l.marks;
  len : vec_len l.listed ≤ l.i;
  capacity : vec_capacity l.fn.listed ≤ vec_capacity l.listed;
}
