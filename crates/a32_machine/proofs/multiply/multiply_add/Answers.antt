use Rattle.std.proofs.Common.{◌≡◌, ◌+◌, ◌*◌, ◌%◌, ◌^◌, refl, ap, ◌∙◌, arith}
use Rattle.a32_machine.specs.Multiplication.{multiplied_and_added, product_kept}
use Rattle.a32_machine.proofs.multiply.multiply_add.Goals as goal

pub returns : goal.returns
unfolding multiplied_and_added
returns c =
    let once : ((c.reg.result * c.reg-2.result) % 2 ^ 32 + c.reg-3.result) % 2 ^ 32 ≡ (c.reg.result * c.reg-2.result + c.reg-3.result) % 2 ^ 32 = omega arith in
    λ mem. c.keep_product.ensures mem ∙ ap (λ p. product_kept c.args.s c.args.d p c.args.cpu.now mem) once ∙ rw (c.reg.ensures, c.reg-2.ensures, c.reg-3.ensures) refl
