use Rattle.std.proofs.Common.{◌≡◌, arith}
use Rattle.std.proofs.lemmas.Result.{err_from_is_err_and}
use Rattle.elf_model.specs.Header.{e_shnum}
use Rattle.elf_model.specs.RelSections.{section_tests, all_section_tests}
use Rattle.elf_model.proofs.Tests.{below_none, below_more}
use Rattle.elf_read.proofs.Loops.{below_stops}
use Rattle.elf_read_rel.proofs.kept.read_kept.Goals as goal

pub loop-i-init : goal.loop-i-init
loop-i-init c = record { passed = below_none (section_tests c.args.bytes.now); kept = c.new-kept.ensures c.args.bytes.now }

pub returns-in_err-take : goal.returns-in_err-take
unfolding all_section_tests
returns-in_err-take c =
    let p = err_from_is_err_and c.from_residual.result c.from_residual.ensures.1 in
    rw (p.1, p.2) (below_stops c.in_err-take.field-0.0 (section_tests c.args.bytes.now) (e_shnum c.args.bytes.now) c.loop-i.i (omega arith) c.loop-i.invariant.passed c.in_err-take.ensures.tests)

pub loop-i-preserved : goal.loop-i-preserved
loop-i-preserved c = record {
  passed = below_more (section_tests c.args.bytes.now) c.loop-i.i c.loop-i.invariant.passed c.in_ok-take.ensures.tests;
  kept = c.in_ok-take.ensures.kept;
}

pub returns : goal.returns
unfolding all_section_tests
returns c =
    let all : c.loop-i.i ≡ e_shnum c.args.bytes.now = omega arith in
    rw (← all) (c.loop-i.invariant.passed, c.loop-i.invariant.kept.numbers)
