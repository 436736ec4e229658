use Rattle.std.proofs.Common.{◌≡◌, ◌-◌, ◌^◌, ◌+◌, ◌≤◌, true, false, refl, sym, ◌∙◌, arith, add-zero}
use Rattle.std.proofs.Math.Nat.{pow-le-pow_right}
use Rattle.a32_machine.specs.Bits.{bit_of}
use Rattle.a32_machine.proofs.Shifts.{sign_above}
use Rattle.a32_machine.proofs.shifter.sign_shifted_right.Goals as goal
use Rattle.a32_machine.proofs.shifter.sign_shifted_right.Goals.{then-bit_of, else-bit_of}

pub returns : goal.returns
returns c = elim c.if-bit_of.branch [
  | then-bit_of w ↦
      let power : 2 ^ c.args.by ≤ 2 ^ 32 = pow-le-pow_right (omega arith) {i = c.args.by} {j = 32} (omega arith) in
      let above : c.if-bit_of.above ≡ 2 ^ (32 + c.args.by) - 2 ^ 32 = omega (arith, w.above-is, sign_above c.args.by (omega arith)) in
      let sign : bit_of c.args.x 31 ≡ true = sym c.bit_of.ensures ∙ w.if-bit_of.true in
      rw (above, sign) refl
  | else-bit_of w ↦
      let sign : bit_of c.args.x 31 ≡ false = sym c.bit_of.ensures ∙ w.if-bit_of.false in
      rw (w.above-is, add-zero, sign) refl
]
