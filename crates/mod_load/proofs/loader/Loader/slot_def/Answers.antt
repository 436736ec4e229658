use Rattle.std.proofs.Common.{ap, ◌∙◌}
use Rattle.load_state.specs.Loaded.{LoaderState}
use Rattle.load_state.specs.Slots.{slot_def}
use Rattle.mod_load.proofs.KeptTargets.{target_is}
use Rattle.mod_load.proofs.loader.Loader.slot_def.Goals as goal

pub returns : goal.returns
returns c =
    let i = c.self.inside in
    let told = rw c.as_slice.ensures.value at c.target_at.ensures in
    told ∙ target_is i.process i.targets.items c.self.invariant.targeted c.args.m c.args.k
    ∙ ap (λ (s : LoaderState). slot_def s.loaded.modules.process c.args.m c.args.k) c.self.view_is
