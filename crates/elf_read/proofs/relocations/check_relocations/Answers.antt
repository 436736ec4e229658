use Rattle.std.proofs.Common.{[], ◌∷◌, subst, arith}
use Rattle.std.proofs.lemmas.Result.{err_from_is_err_and}
use Rattle.elf_model.specs.declared.table.Site.{Site}
use Rattle.elf_model.specs.Relocations as spec
use Rattle.elf_read.specs.parts.Taken.{Has}
use Rattle.elf_model.specs.Relocations.{all_rel_tests}
use Rattle.elf_model.proofs.Tests.{items_none, items_more}
use Rattle.elf_read.proofs.Loops.{items_stop}
use Rattle.elf_read.proofs.Filling.{has_sites_more}
use Rattle.elf_read.proofs.relocations.check_relocations.Goals as goal

pub loop-e-init : goal.loop-e-init
loop-e-init c = record {
  passed = items_none _ c.args.entries.now 0;
  has = subst (λ (s : Site). Has c.take.new.self (s ∷ [])) c.got_header.ensures (c.in_ok-take.ensures _ c.new-taken.ensures);
}

pub returns-in_err-check_entry : goal.returns-in_err-check_entry
unfolding all_rel_tests
returns-in_err-check_entry c =
    let p = err_from_is_err_and c.from_residual-in_err-check_entry.result c.from_residual-in_err-check_entry.ensures.1 in
    let before = spec.sites_before c.args.got c.args.entries.now c.loop-e.e-index in
    rw (p.1, p.2) (items_stop c.in_err-check_entry.field-0.0 _ c.args.entries.now c.loop-e.e-index _ c.loop-e-test.true c.loop-e.invariant.passed (c.in_err-check_entry.ensures.tests before c.loop-e.invariant.has))

pub loop-e-preserved : goal.loop-e-preserved
loop-e-preserved c =
    let before = spec.sites_before c.args.got c.args.entries.now c.loop-e.e-index in
    record {
      passed = items_more _ c.args.entries.now 0 c.loop-e.e-index c.loop-e.e-index _ c.loop-e-test.true (omega arith) c.loop-e.invariant.passed (c.in_ok-check_entry.ensures.tests before c.loop-e.invariant.has);
      has = has_sites_more c.args.got c.args.entries.now c.loop-e.e-index _ c.loop-e.taken c.check_entry.new.taken c.loop-e-test.true c.loop-e.invariant.has c.in_ok-check_entry.ensures.taken;
    }
