use Rattle.std.proofs.Common.{◌≡◌, ◌++◌, ap, sym, subst, ◌∙◌, arith}
use Rattle.std.specs.Prelude.{OnOk}
use Rattle.link_model.specs.declared.need.Need.{Need}
use Rattle.link_model.specs.declared.need.Need.TheVariants.{Descriptor}
use Rattle.link_model.specs.DynamicRels.{need_rels}
use Rattle.link_model.specs.GotLayout.{use_size}
use Rattle.link_model.specs.Needs.{kind_of}
use Rattle.link_model.specs.Places.{need_place}
use Rattle.link_names.specs.parts.Joining.{Joining}
use Rattle.link_words.specs.parts.Needs.{IsKeyed}
use Rattle.link_checks.specs.parts.Shown.{number_in}
use Rattle.link_got.specs.parts.Keyed.{IsNeedKey}
use Rattle.link_got.proofs.Bounds.{need-near}
use Rattle.link_got.proofs.Keyed.{need-keyed}
use Rattle.link_got.proofs.OneLink.{row-fits, same-place}
use Rattle.link_got.proofs.rels.put_need.Goals as goal

pub overflow_cast-place : goal.overflow_cast-place
overflow_cast-place c =
    let l = c.args.layout.now in
    omega (arith, c.need_place-place.ensures.place, need-near l.mode l.text.inputs.now c.args.need c.requires.small)

pub target_of_key-target-requires : goal.target_of_key-target-requires
target_of_key-target-requires c =
    let j = c.args.joined.now in
    subst (IsNeedKey j.inputs) c.in-Word.is (need-keyed j.mode j.inputs c.args.need c.requires.there)

pub target_of_key-target-requires-in-FuncWord : goal.target_of_key-target-requires-in-FuncWord
target_of_key-target-requires-in-FuncWord c =
    let j = c.args.joined.now in
    subst (IsNeedKey j.inputs) c.in-FuncWord.is (need-keyed j.mode j.inputs c.args.need c.requires.there)

pub descriptor_rels-requires : goal.descriptor_rels-requires
descriptor_rels-requires c =
    let fits = row-fits c.args.joined.now c.args.layout.now c.requires.one c.args.need c.requires.there c.requires.small in
    let size = ap (λ (n : Need). use_size (kind_of n)) c.in-Descriptor.is in
    omega (arith, c.need_place-place.ensures.place, fits, size)

pub returns-in-Word : goal.returns-in-Word
returns-in-Word c =
    let j = c.args.joined.now in
    let key = c.in-Word.key in
    let target = c.target_of_key-target.result in
    let place = c.need_place-place.ensures.place ∙ same-place j c.args.layout.now c.requires.one c.args.need ∙ ap (need_place j.mode j.inputs) c.in-Word.is in
    let keyed : IsKeyed j.mode j.inputs key target c.index.result = record {
      target' = c.target_of_key-target.ensures;
      symbol' = λ dynamic. c.index.ensures ∙ ap (λ ts. number_in ts target.key) c.requires.shown;
    } in
    subst (λ rs. OnOk c.put_rel.result (c.put_rel.new.rels ≡ c.args.rels.now ++ rs))
    (c.word_rel.ensures j.mode j.inputs key place keyed ∙ ap (need_rels j.mode j.inputs) (sym c.in-Word.is)) c.put_rel.ensures

pub returns-in-FuncWord : goal.returns-in-FuncWord
returns-in-FuncWord c =
    let j = c.args.joined.now in
    let key = c.in-FuncWord.key in
    let target = c.target_of_key-target-in-FuncWord.result in
    let place = c.need_place-place.ensures.place ∙ same-place j c.args.layout.now c.requires.one c.args.need ∙ ap (need_place j.mode j.inputs) c.in-FuncWord.is in
    let keyed : IsKeyed j.mode j.inputs key target c.index-in-FuncWord.result = record {
      target' = c.target_of_key-target-in-FuncWord.ensures;
      symbol' = λ dynamic. c.index-in-FuncWord.ensures ∙ ap (λ ts. number_in ts target.key) c.requires.shown;
    } in
    subst (λ rs. OnOk c.put_rel-in-FuncWord.result (c.put_rel-in-FuncWord.new.rels ≡ c.args.rels.now ++ rs))
    (c.func_word_rel.ensures j.mode j.inputs key place keyed ∙ ap (need_rels j.mode j.inputs) (sym c.in-FuncWord.is)) c.put_rel-in-FuncWord.ensures

pub returns-in-Descriptor : goal.returns-in-Descriptor
returns-in-Descriptor c =
    let j = c.args.joined.now in
    let l = c.args.layout.now in
    let need = Descriptor c.in-Descriptor.field-0 in
    let place = c.need_place-place.ensures.place ∙ ap (need_place l.mode l.text.inputs.now) c.in-Descriptor.is in
    let rels = c.descriptor_rels.ensures l.text.inputs.now c.in-Descriptor.field-0 place in
    subst (λ rs. OnOk c.put_descriptor.result (c.put_descriptor.new.rels ≡ c.args.rels.now ++ rs))
    (rels ∙ sym (ap (λ (k : Joining). need_rels k.mode k.inputs need) c.requires.one) ∙ ap (need_rels j.mode j.inputs) (sym c.in-Descriptor.is)) c.put_descriptor.ensures
