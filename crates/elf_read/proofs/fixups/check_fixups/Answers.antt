use Rattle.std.proofs.Common.{◌++◌, map, take, append-nil, arith}
use Rattle.std.proofs.lemmas.Result.{err_from_is_err_and}
use Rattle.elf_model.specs.Relocations.{word_site}
use Rattle.elf_model.proofs.Tests.{items_none, items_more}
use Rattle.elf_read.specs.parts.Fixups.{fixup_test, fixup_tests}
use Rattle.elf_read.proofs.Filling.{has_fixups_more}
use Rattle.elf_read.proofs.Loops.{items_stop}
use Rattle.elf_read.proofs.fixups.check_fixups.Goals as goal

pub loop-k-init : goal.loop-k-init
loop-k-init c = λ sites has. record {
  passed = items_none (fixup_test c.args.loads.now sites c.args.offset c.args.fixups.now) c.args.fixups.now 0;
  has = rw append-nil has;
}

pub returns-in_err-fill : goal.returns-in_err-fill
unfolding fixup_tests
returns-in_err-fill c = λ sites has.
    let p = err_from_is_err_and c.from_residual.result c.from_residual.ensures.1 in
    let so_far = c.loop-k.invariant sites has in
    let before = sites ++ map word_site (take c.loop-k.k c.args.fixups.now) in
    rw (p.1, p.2) (items_stop c.in_err-fill.field-0.0 (fixup_test c.args.loads.now sites c.args.offset c.args.fixups.now) c.args.fixups.now c.loop-k.k _ c.loop-k-test.true so_far.passed (c.in_err-fill.ensures.tests before so_far.has))

pub loop-k-preserved : goal.loop-k-preserved
loop-k-preserved c = λ sites has.
    let so_far = c.loop-k.invariant sites has in
    let before = sites ++ map word_site (take c.loop-k.k c.args.fixups.now) in
    record {
      passed = items_more (fixup_test c.args.loads.now sites c.args.offset c.args.fixups.now) c.args.fixups.now 0 c.loop-k.k c.loop-k.k _ c.loop-k-test.true (omega arith) so_far.passed (c.in_ok-fill.ensures.tests before so_far.has);
      has = has_fixups_more sites c.args.fixups.now c.loop-k.k _ c.fill.new.self c.loop-k-test.true (c.in_ok-fill.ensures.taken before so_far.has);
    }
