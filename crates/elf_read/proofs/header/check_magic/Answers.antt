use Rattle.std.proofs.Common.{◌≡◌, None, refl}
use Rattle.std.proofs.lemmas.Result.{err_from_is_err_and}
use Rattle.elf_model.specs.Test.{first_failing}
use Rattle.elf_model.specs.Header.{ident_test, magic_tests}
use Rattle.elf_model.proofs.Tests.{below_none, below_more}
use Rattle.elf_read.specs.parts.Passes.{IsRefusal}
use Rattle.elf_read.proofs.Loops.{below_stops}
use Rattle.elf_read.proofs.header.check_magic.Goals as goal

pub loop-i-init : goal.loop-i-init
loop-i-init c = below_none (ident_test c.args.bytes.now)

pub returns-in_err-refuse : goal.returns-in_err-refuse
unfolding magic_tests
returns-in_err-refuse c =
    let p = err_from_is_err_and c.from_residual.result c.from_residual.ensures.1 in
    let here : IsRefusal c.in_err-refuse.field-0.0 (ident_test c.args.bytes.now c.loop-i.i) = rw (c.in_err-refuse.ensures.1, c.in_err-refuse.ensures.0) refl in
    rw (p.1, p.2) (below_stops c.in_err-refuse.field-0.0 (ident_test c.args.bytes.now) 7 c.loop-i.i c.loop-i-test.true c.loop-i.invariant here)

pub loop-i-preserved : goal.loop-i-preserved
loop-i-preserved c =
    let here : first_failing (ident_test c.args.bytes.now c.loop-i.i) ≡ None = rw c.in_ok-refuse.ensures refl in
    below_more (ident_test c.args.bytes.now) c.loop-i.i c.loop-i.invariant here
