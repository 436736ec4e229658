use Rattle.std.proofs.Common.{◌∙◌}
use Rattle.load_process.proofs.PutModules.{next_within, rest_within, same_after, next_flags, next_count}
use Rattle.load_process.proofs.joining.put_modules.Goals as goal

pub put_module-requires : goal.put_module-requires
put_module-requires c = next_within _ _ _ _ c.in-Some.ensures.steps.0 c.loop-new.invariant.within

pub loop-new-preserved : goal.loop-new-preserved
loop-new-preserved c = record {
  same = λ lazy all.
      let before = c.loop-new.invariant.same lazy all in
      let own = next_flags lazy _ _ _ _ _ _ c.in-Some.ensures.steps.0 c.in-Some-next.ensures.items before.flags in
      record {
        flags = own.1;
        modules' = same_after _ _ _ _ lazy _ _ c.in-Some.ensures.steps.0 (c.put_module.ensures.put lazy own.0) ∙ before.modules';
      };
  within = rest_within _ _ _ _ _ c.in-Some.ensures.steps.0 c.put_module.ensures.count c.loop-new.invariant.within;
  count = next_count _ _ _ _ _ _ c.in-Some.ensures.steps.0 c.in-Some-next.ensures.items c.loop-new.invariant.count;
}
