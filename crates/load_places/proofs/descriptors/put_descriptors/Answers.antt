use Rattle.std.proofs.Common.{ℕ, ◌+◌, ◌≤◌, List, length, get_or, take, sym, subst, arith}
use Rattle.std.specs.FinMap.{empty}
use Rattle.std.proofs.lemmas.List.{take_all, take_more}
use Rattle.std.proofs.lemmas.List.Elements.{All-get_or}
use Rattle.elf_model.specs.declared.func.Func.{Func}
use Rattle.load_places.specs.parts.Descriptors.{DescriptorsApart, HasDescriptorsPut}
use Rattle.load_places.proofs.ModuleLists.{pairs_before}
use Rattle.load_places.proofs.PutDescriptors.{put_more, put_none}
use Rattle.load_places.proofs.descriptors.put_descriptors.Goals as goal

pub loop-entry-init : goal.loop-entry-init
loop-entry-init c = put_none c.args.process.now c.args.maps.now c.args.guest.now

pub loop-entry-preserved : goal.loop-entry-preserved
loop-entry-preserved c =
    let d : Func × ℕ = (record { «module» = 0; value = 0 }, 0) in
    let given : List (Func × ℕ) = c.args.given.now in
    let i : ℕ = c.loop-entry.entry-index in
    let e : Func × ℕ = get_or given i d in
    subst (λ done. HasDescriptorsPut c.args.process.now c.args.maps.now done c.args.guest.now c.put_descriptor.new.guest) (sym (take_more given i d c.loop-entry-test.true))
    (put_more c.args.process.now c.args.maps.now (take i given) e.0 e.1 c.args.guest.now c.loop-entry.guest c.put_descriptor.new.guest
    (λ g b listed. pairs_before DescriptorsApart given i d (g, b) c.requires.apart c.loop-entry-test.true listed)
    (All-get_or (λ (x : Func × ℕ). x.1 + 8 ≤ length c.args.guest.now.bytes) given i d c.loop-entry-test.true c.requires.inside)
    (c.put_descriptor.ensures empty) c.loop-entry.invariant)

pub returns : goal.returns
returns c =
    subst (λ done. HasDescriptorsPut c.args.process.now c.args.maps.now done c.args.guest.now c.loop-entry.guest) (take_all c.loop-entry.entry-index c.args.given.now (omega arith))
    c.loop-entry.invariant
