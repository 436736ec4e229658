use Rattle.std.proofs.Common.{map, sym, ap, subst, ◌∙◌}
use Rattle.elf_model.specs.Sound.{IsSound}
use Rattle.std.proofs.lemmas.List.{take_all}
use Rattle.fd_base.proofs.Lists.{zip-get_or}
use Rattle.load_image.specs.parts.Words.{FitSites}
use Rattle.load_model.specs.declared.module.Joining.{Joining}
use Rattle.load_state.specs.Slots.{targets_of}
use Rattle.load_plan.proofs.MadeLists.{made_more}
use Rattle.load_plan.proofs.SiteValues.{values_at}
use Rattle.load_plan.proofs.SlotTargets.{enough_values, targets_same}
use Rattle.load_plan.proofs.targets.targets.Goals as goal

pub own_targets-requires : goal.own_targets-requires
own_targets-requires c =
    let new = c.index-joining-i.result in
    let own = c.index-values-i.result in
    let fit = zip-get_or (λ j v. FitSites j.object v) c.args.joining.now c.args.values.now c.loop-i.i new own c.requires.fit c.loop-i-test.true in
    rw c.as_slice.ensures (enough_values new.object own (rw (sym c.index-joining-i.is, sym c.index-values-i.is) at fit))

pub loop-i-init : goal.loop-i-init
loop-i-init c = λ k known. c.new-all.ensures

pub loop-i-preserved : goal.loop-i-preserved
loop-i-preserved c = λ k known.
    let joining = c.args.joining.now in
    let new = c.index-joining-i.result in
    let own = c.index-values-i.result in
    let here = values_at k joining c.args.values.now c.loop-i.i new own known c.loop-i-test.true in
    let there = rw (sym c.index-joining-i.is, sym c.index-values-i.is) at here in
    let sound = subst (λ (j : Joining). IsSound j.object) (sym c.index-joining-i.is) (c.requires.sound c.loop-i.i new c.loop-i-test.true) in
    let told = rw c.as_slice.ensures at c.in_ok-own.ensures in
    made_more (λ (j : Joining). targets_of k j.number j.object) joining c.loop-i.i new c.in_ok-own.own c.loop-i.all _ c.loop-i-test.true c.index-joining-i.is
    (told ∙ targets_same k new.number new.object own there sound.slot_kinds) (c.loop-i.invariant k known) c.in_ok-push.ensures

pub returns : goal.returns
returns c = λ k known.
    c.loop-i.invariant k known ∙ ap (map (λ (j : Joining). targets_of k j.number j.object)) (take_all c.loop-i.i c.args.joining.now c.loop-i-test.false)
