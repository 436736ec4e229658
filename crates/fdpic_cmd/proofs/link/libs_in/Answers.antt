use Rattle.std.proofs.Common.{◌≡◌, ◌+◌, ◌<◌, ◌++◌, [], ◌∷◌, All, List, length, get_or, Err, refl, sym, subst, ◌∙◌, arith, rules}
use Rattle.std.proofs.lemmas.Grind.{common_steps}
use Rattle.elf_model.specs.RelSound.{IsNameText}
use Rattle.link_model.specs.declared.input.Lib.{Lib}
use Rattle.link_model.specs.Object.{needed_of}
use Rattle.fdpic_cmd.specs.declared.status.Failure.{Failure}
use Rattle.fdpic_cmd.specs.Ended.{Reads}
use Rattle.fdpic_cmd.specs.Link.{lib_in, libs_in}
use Rattle.fdpic_cmd.proofs.LinkedFiles.{libs_more, libs_stop, named_more, Taken}
use Rattle.fdpic_cmd.proofs.link.libs_in.Goals as goal

pub loop-k-preserved : goal.loop-k-preserved
loop-k-preserved g c =
    let lt : c.loop-k.k < length c.args.names.now = grind (arith, common_steps) in
    let here : c.index-names-k.result ≡ get_or c.args.names.now c.loop-k.k c.index-names-k.result = grind (arith, common_steps) in
    let taken = libs_more c.args.names.now (g.S.Store.files c.args.store.now) (g.S.Store.files c.loop-k.store) c.loop-k.k c.in_ok-number.field-0 c.index-names-k.result c.index-names-k.result (g.S.Store.faults c.loop-k.store) (g.S.Store.faults c.lib_in.new.store) c.loop-k.libs c.in_ok-lib_in.field-0 c.loop-k.invariant.files' c.in_ok-number.ensures here lt c.loop-k.invariant.taken c.in_ok-lib_in.ensures.answer in
    let P : List Lib → Type 0 = λ xs. Taken lib_in c.args.names.now (g.S.Store.files c.args.store.now) (c.loop-k.k + 1) xs in
    let Q : List Lib → Type 0 = λ xs. All IsNameText (needed_of xs) in
    record {
      taken = subst P (sym c.in_ok-push.ensures) taken;
      named = subst Q (sym c.in_ok-push.ensures) (named_more c.loop-k.libs c.in_ok-lib_in.field-0 c.loop-k.invariant.named c.in_ok-lib_in.ensures.named);
      files' = c.lib_in.ensures.files ∙ c.loop-k.invariant.files';
      count = grind (arith, common_steps);
    }

pub returns-in_err-lib_in-clause-answer : goal.returns-in_err-lib_in-clause-answer
returns-in_err-lib_in-clause-answer g c =
    let lt : c.loop-k.k < length c.args.names.now = grind (arith, common_steps) in
    let here : c.index-names-k.result ≡ get_or c.args.names.now c.loop-k.k c.index-names-k.result = grind (arith, common_steps) in
    let stop : (e : Failure) → Reads (λ told. lib_in told (c.in_ok-number.field-0, c.index-names-k.result)) (g.S.Store.files c.loop-k.store) (g.S.Store.faults c.loop-k.store) (g.S.Store.faults c.lib_in.new.store) (Err e)
    → Reads (libs_in c.args.names.now) (g.S.Store.files c.args.store.now) (g.S.Store.faults c.args.store.now) (g.S.Store.faults c.lib_in.new.store) (Err e) =
    λ e is. libs_stop c.args.names.now (g.S.Store.files c.args.store.now) (g.S.Store.files c.loop-k.store) c.loop-k.k c.in_ok-number.field-0 c.index-names-k.result c.index-names-k.result (g.S.Store.faults c.args.store.now) (g.S.Store.faults c.loop-k.store) (g.S.Store.faults c.lib_in.new.store) c.loop-k.libs e c.loop-k.invariant.files' c.in_ok-number.ensures here lt c.loop-k.invariant.count c.lib_in.ensures.count c.loop-k.invariant.taken is in
    grind (arith, common_steps, stop)
