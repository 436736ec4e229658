use Rattle.std.proofs.Common.{◌≡◌, ◌+◌, ◌<◌, All, List, length, get_or, Err, refl, sym, subst, ◌∙◌, arith, rules}
use Rattle.std.proofs.lemmas.Grind.{common_steps}
use Rattle.std.proofs.lemmas.List.Elements.{All-push}
use Rattle.elf_model.specs.declared.relocatable.RelObject.{RelObject}
use Rattle.elf_model.specs.RelSound.{IsRelSound}
use Rattle.link_means.specs.Linked.{IsOfBytes}
use Rattle.fdpic_cmd.specs.declared.status.Failure.{Failure}
use Rattle.fdpic_cmd.specs.Ended.{Reads}
use Rattle.fdpic_cmd.specs.Link.{input_in, inputs_in}
use Rattle.fdpic_cmd.proofs.LinkedFiles.{inputs_more, inputs_stop, Taken}
use Rattle.fdpic_cmd.proofs.link.inputs_in.Goals as goal

pub loop-k-preserved : goal.loop-k-preserved
loop-k-preserved g c =
    let lt : c.loop-k.k < length c.args.names.now = grind (arith, common_steps) in
    let here : c.index-names-k.result ≡ get_or c.args.names.now c.loop-k.k c.index-names-k.result = grind (arith, common_steps) in
    let taken = inputs_more c.args.names.now (g.S.Store.files c.args.store.now) (g.S.Store.files c.loop-k.store) c.loop-k.k c.in_ok-number.field-0 c.index-names-k.result c.index-names-k.result (g.S.Store.faults c.loop-k.store) (g.S.Store.faults c.input_in.new.store) c.loop-k.inputs c.in_ok-input_in.field-0 c.loop-k.invariant.files' c.in_ok-number.ensures here lt c.loop-k.invariant.taken c.in_ok-input_in.ensures.answer in
    let P : List RelObject → Type 0 = λ xs. Taken input_in c.args.names.now (g.S.Store.files c.args.store.now) (c.loop-k.k + 1) xs in
    let Q : List RelObject → Type 0 = λ xs. All IsRelSound xs in
    let R : List RelObject → Type 0 = λ xs. All IsOfBytes xs in
    record {
      taken = subst P (sym c.in_ok-push.ensures) taken;
      sound = subst Q (sym c.in_ok-push.ensures) (All-push IsRelSound c.loop-k.inputs c.in_ok-input_in.field-0 c.loop-k.invariant.sound c.in_ok-input_in.ensures.sound);
      bytes = subst R (sym c.in_ok-push.ensures) (All-push IsOfBytes c.loop-k.inputs c.in_ok-input_in.field-0 c.loop-k.invariant.bytes c.in_ok-input_in.ensures.bytes);
      files' = c.input_in.ensures.files ∙ c.loop-k.invariant.files';
      count = grind (arith, common_steps);
    }

pub returns-in_err-input_in-clause-answer : goal.returns-in_err-input_in-clause-answer
returns-in_err-input_in-clause-answer g c =
    let lt : c.loop-k.k < length c.args.names.now = grind (arith, common_steps) in
    let here : c.index-names-k.result ≡ get_or c.args.names.now c.loop-k.k c.index-names-k.result = grind (arith, common_steps) in
    let stop : (e : Failure) → Reads (λ told. input_in told (c.in_ok-number.field-0, c.index-names-k.result)) (g.S.Store.files c.loop-k.store) (g.S.Store.faults c.loop-k.store) (g.S.Store.faults c.input_in.new.store) (Err e)
    → Reads (inputs_in c.args.names.now) (g.S.Store.files c.args.store.now) (g.S.Store.faults c.args.store.now) (g.S.Store.faults c.input_in.new.store) (Err e) =
    λ e is. inputs_stop c.args.names.now (g.S.Store.files c.args.store.now) (g.S.Store.files c.loop-k.store) c.loop-k.k c.in_ok-number.field-0 c.index-names-k.result c.index-names-k.result (g.S.Store.faults c.args.store.now) (g.S.Store.faults c.loop-k.store) (g.S.Store.faults c.input_in.new.store) c.loop-k.inputs e c.loop-k.invariant.files' c.in_ok-number.ensures here lt c.loop-k.invariant.count c.input_in.ensures.count c.loop-k.invariant.taken is in
    grind (arith, common_steps, stop)
