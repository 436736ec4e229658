use Rattle.std.proofs.Common.{rules}
use Rattle.load_sites.specs.parts.Linker.{linkage}
use Rattle.load_sites.proofs.SiteValues.{one_module_more, no_refusals_more, first_module_told}
use Rattle.load_sites.proofs.linker.Linker.values.Goals as goal

pub returns-in_err-values-clause-error : goal.returns-in_err-values-clause-error
returns-in_err-values-clause-error c =
    let told = first_module_told (linkage c.args.self.now) c.args.self.now.joining.now c.loop-new.new-index c.new-item.result c.in_err-values.field-0.0 c.loop-new-test.true c.new-item.is c.loop-new.invariant.none c.in_err-values.ensures.error in
    search (rules, told)

pub loop-new-preserved : goal.loop-new-preserved
loop-new-preserved c = record {
  values =
      let more = one_module_more (linkage c.args.self.now) c.args.self.now.joining.now c.loop-new.all c.loop-new.new-index c.new-item.result c.in_ok-values.values c.loop-new-test.true c.new-item.is c.loop-new.invariant.values c.in_ok-values.ensures.values in
      rw c.in_ok-push.ensures more;
  none = no_refusals_more (linkage c.args.self.now) c.args.self.now.joining.now c.loop-new.new-index c.new-item.result c.loop-new-test.true c.new-item.is c.loop-new.invariant.none c.in_ok-values.ensures.none;
}
