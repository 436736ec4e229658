use Rattle.std.proofs.Common.{refl, ◌∙◌}
use Rattle.a32_machine.specs.Multiplication.{multiplied}
use Rattle.a32_machine.proofs.multiply.multiply.Goals as goal

pub returns : goal.returns
unfolding multiplied
returns c = λ mem. c.keep_product.ensures mem ∙ rw (c.reg.ensures, c.reg-2.ensures) refl
