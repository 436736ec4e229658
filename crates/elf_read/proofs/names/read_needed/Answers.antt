use Rattle.std.proofs.Common.{◌∙◌, arith}
use Rattle.std.proofs.lemmas.Result.{err_from_is_err_and}
use Rattle.elf_model.specs.Test.{each_from}
use Rattle.elf_model.specs.Dynamic as spec
use Rattle.elf_model.specs.Dynamic.{needed_tests}
use Rattle.elf_model.proofs.Tests.{items_none, items_more}
use Rattle.elf_read.specs.parts.Passes.{IsRefusal}
use Rattle.elf_read.proofs.Loops.{items_stop, mapped_more}
use Rattle.elf_read.proofs.names.read_needed.Goals as goal

pub loop-k-init : goal.loop-k-init
loop-k-init c = record {
  needed = c.deref-e-items.ensures.value ∙ c.in_ok-needed.ensures;
  passed = items_none (spec.needed_entry_tests c.args.strings.now) c.deref-e-items.result.now 0;
  named = c.new-names.ensures;
}

pub returns-in_err-needed_name : goal.returns-in_err-needed_name
unfolding needed_tests
returns-in_err-needed_name c =
    let p = err_from_is_err_and c.from_residual-in_err-needed_name.result c.from_residual-in_err-needed_name.ensures.1 in
    let stop : IsRefusal c.in_err-needed_name.field-0.0 (each_from 0 (spec.needed_entry_tests c.args.strings.now) c.deref-e-items.result.now) =
    items_stop c.in_err-needed_name.field-0.0 (spec.needed_entry_tests c.args.strings.now) c.deref-e-items.result.now c.loop-k.k _ c.loop-k-test.true c.loop-k.invariant.passed c.in_err-needed_name.ensures in
    rw (p.1, p.2, ← c.loop-k.invariant.needed) stop

pub loop-k-preserved : goal.loop-k-preserved
loop-k-preserved c =
    let h = c.in_ok-needed_name.ensures in
    record {
      needed = c.loop-k.invariant.needed;
      passed = items_more (spec.needed_entry_tests c.args.strings.now) c.deref-e-items.result.now 0 c.loop-k.k c.loop-k.k _ c.loop-k-test.true (omega arith) c.loop-k.invariant.passed h.0;
      named = rw c.in_ok-push.ensures (mapped_more (spec.needed_name c.args.strings.now) c.deref-e-items.result.now c.loop-k.k _ c.loop-k.names c.in_ok-needed_name.field-0 c.loop-k-test.true c.loop-k.invariant.named h.1);
    }
