use Rattle.std.proofs.Common.{◌≡◌, [], ◌∷◌, ◌++◌, length, ap, sym, subst, ◌∙◌, arith}
use Rattle.std.specs.Prelude.{OnOk}
use Rattle.link_model.specs.declared.need.Need.{Need}
use Rattle.link_model.specs.declared.need.Need.TheVariants.{Descriptor, Slot}
use Rattle.link_model.specs.GotLayout.{use_size}
use Rattle.link_model.specs.Needs.{kind_of}
use Rattle.link_model.specs.Places.{need_place}
use Rattle.link_model.specs.Segments.{words_from, need_values}
use Rattle.link_names.specs.parts.Joining.{Joining}
use Rattle.link_got.specs.parts.Keyed.{IsNeedKey}
use Rattle.link_got.proofs.Bounds.{need-near}
use Rattle.link_got.proofs.Keyed.{need-keyed}
use Rattle.link_got.proofs.OneLink.{row-fits, same-place}
use Rattle.link_got.proofs.got.put_need.Goals as goal

pub overflow_cast-place : goal.overflow_cast-place
overflow_cast-place c =
    let l = c.args.layout.now in
    omega (arith, c.need_place-place.ensures.place, need-near l.mode l.text.inputs.now c.args.need c.requires.small)

pub word-requires-clause-key : goal.word-requires-clause-key
word-requires-clause-key c =
    let j = c.args.joined.now in
    subst (IsNeedKey j.inputs) c.in-Word.is (need-keyed j.mode j.inputs c.args.need c.requires.there)

pub func_word-requires-clause-key : goal.func_word-requires-clause-key
func_word-requires-clause-key c =
    let j = c.args.joined.now in
    subst (IsNeedKey j.inputs) c.in-FuncWord.is (need-keyed j.mode j.inputs c.args.need c.requires.there)

pub put_row-requires : goal.put_row-requires
put_row-requires c =
    let fits = row-fits c.args.joined.now c.args.layout.now c.requires.one c.args.need c.requires.there c.requires.small in
    let size = ap (λ (n : Need). use_size (kind_of n)) c.in-Word.is in
    omega (arith, c.need_place-place.ensures.place, fits, size)

pub put_row-requires-in-FuncWord : goal.put_row-requires-in-FuncWord
put_row-requires-in-FuncWord c =
    let fits = row-fits c.args.joined.now c.args.layout.now c.requires.one c.args.need c.requires.there c.requires.small in
    let size = ap (λ (n : Need). use_size (kind_of n)) c.in-FuncWord.is in
    omega (arith, c.need_place-place.ensures.place, fits, size)

pub put_row-requires-in-Descriptor : goal.put_row-requires-in-Descriptor
put_row-requires-in-Descriptor c =
    let fits = row-fits c.args.joined.now c.args.layout.now c.requires.one c.args.need c.requires.there c.requires.small in
    let size = ap (λ (n : Need). use_size (kind_of n)) c.in-Descriptor.is in
    omega (arith, c.need_place-place.ensures.place, fits, size, ap length c.descriptor.ensures)

pub put_row-requires-in-Slot : goal.put_row-requires-in-Slot
put_row-requires-in-Slot c =
    let fits = row-fits c.args.joined.now c.args.layout.now c.requires.one c.args.need c.requires.there c.requires.small in
    let size = ap (λ (n : Need). use_size (kind_of n)) c.in-Slot.is in
    omega (arith, c.need_place-place.ensures.place, fits, size, ap length c.slot.ensures)

pub returns-in-Word : goal.returns-in-Word
returns-in-Word c =
    let j = c.args.joined.now in
    let place : c.need_place-place.result ≡ need_place j.mode j.inputs c.args.need = c.need_place-place.ensures.place ∙ same-place j c.args.layout.now c.requires.one c.args.need in
    let values : (c.word.result ∷ []) ≡ need_values j.mode j.inputs c.args.need =
    (λ i. c.word.ensures i ∷ []) ∙ ap (need_values j.mode j.inputs) (sym c.in-Word.is) in
    subst (λ ws. OnOk c.put_row.result (c.put_row.new.words ≡ c.args.words.now ++ ws)) (λ i. words_from (place i) (values i)) c.put_row.ensures

pub returns-in-FuncWord : goal.returns-in-FuncWord
returns-in-FuncWord c =
    let j = c.args.joined.now in
    let place : c.need_place-place.result ≡ need_place j.mode j.inputs c.args.need = c.need_place-place.ensures.place ∙ same-place j c.args.layout.now c.requires.one c.args.need in
    let values : (c.func_word.result ∷ []) ≡ need_values j.mode j.inputs c.args.need =
    (λ i. c.func_word.ensures i ∷ []) ∙ ap (need_values j.mode j.inputs) (sym c.in-FuncWord.is) in
    subst (λ ws. OnOk c.put_row-in-FuncWord.result (c.put_row-in-FuncWord.new.words ≡ c.args.words.now ++ ws)) (λ i. words_from (place i) (values i)) c.put_row-in-FuncWord.ensures

pub returns-in-Descriptor : goal.returns-in-Descriptor
returns-in-Descriptor c =
    let j = c.args.joined.now in
    let place : c.need_place-place.result ≡ need_place j.mode j.inputs c.args.need = c.need_place-place.ensures.place ∙ same-place j c.args.layout.now c.requires.one c.args.need in
    let values : (c.descriptor.result) ≡ need_values j.mode j.inputs c.args.need =
    c.descriptor.ensures ∙ sym (ap (λ (k : Joining). need_values k.mode k.inputs (Descriptor c.in-Descriptor.function)) c.requires.one) ∙ ap (need_values j.mode j.inputs) (sym c.in-Descriptor.is) in
    subst (λ ws. OnOk c.put_row-in-Descriptor.result (c.put_row-in-Descriptor.new.words ≡ c.args.words.now ++ ws)) (λ i. words_from (place i) (values i)) c.put_row-in-Descriptor.ensures

pub returns-in-Slot : goal.returns-in-Slot
returns-in-Slot c =
    let j = c.args.joined.now in
    let place : c.need_place-place.result ≡ need_place j.mode j.inputs c.args.need = c.need_place-place.ensures.place ∙ same-place j c.args.layout.now c.requires.one c.args.need in
    let values : (c.slot.result) ≡ need_values j.mode j.inputs c.args.need =
    c.slot.ensures ∙ sym (ap (λ (k : Joining). need_values k.mode k.inputs (Slot c.in-Slot.key)) c.requires.one) ∙ ap (need_values j.mode j.inputs) (sym c.in-Slot.is) in
    subst (λ ws. OnOk c.put_row-in-Slot.result (c.put_row-in-Slot.new.words ≡ c.args.words.now ++ ws)) (λ i. words_from (place i) (values i)) c.put_row-in-Slot.ensures
