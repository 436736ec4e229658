use Rattle.std.proofs.Common.{◌<◌, length, ap, sym, subst, ◌∙◌, arith}
use Rattle.std.specs.Prelude.{Contains}
use Rattle.elf_model.specs.declared.relocatable.RelSection.{RelSection}
use Rattle.link_model.specs.Inputs.{sections_of}
use Rattle.link_model.specs.Places.{section_place}
use Rattle.link_names.specs.parts.Joining.{HasInput}
use Rattle.link_places.specs.declared.heads.SectionHead.{SectionHead}
use Rattle.link_object.proofs.Arrays.{head_low}
use Rattle.link_object.proofs.Located.{has_section}
use Rattle.link_object.proofs.contents.content_of.Goals as goal

pub overflow_cast-result : goal.overflow_cast-result
overflow_cast-result c =
    let low = head_low c.args.layout.now.mode c.args.layout.now.text.inputs.now c.requires.small c.args.head.now c.requires.known in
    omega (arith, low, c.section_place.ensures.place)

pub section_of-requires : goal.section_of-requires
section_of-requires c =
    subst (λ xs. HasInput xs c.args.head.now.input (λ o. c.args.head.now.number < length o.sections)) (sym c.as_slice.ensures)
    (has_section c.args.layout.now.text.inputs.now c.args.head.now c.requires.known)

pub returns : goal.returns
returns c x there is = record {
  place' = c.section_place.ensures.place ∙ ap (λ (h : SectionHead). section_place c.args.layout.now.mode c.args.layout.now.text.inputs.now h.index) is;
  bytes' = c.as_slice-2.ensures
      ∙ ap (λ (s : RelSection). s.filled) (c.section_of.ensures x (subst (λ xs. Contains (sections_of xs) x) (sym c.as_slice.ensures) there) (ap (λ (h : SectionHead). h.input) is) (ap (λ (h : SectionHead). h.number) is));
}
