use Rattle.std.proofs.Common.{cond, ap, sym, ◌∙◌, arith}
use Rattle.link_places.specs.parts.Data.{data_heads}
use Rattle.link_places.specs.parts.Heads.{heads_of}
use Rattle.link_model.specs.Places.{got_end, section_place}
use Rattle.link_model.specs.Sections.{data_sections, place_among, text_place}
use Rattle.link_places.proofs.Sectioned.{data-place, below-end}
use Rattle.link_places.proofs.layout.Layout.section_place.Goals as goal

pub returns-then-is_text_section-clause-place : goal.returns-then-is_text_section-clause-place
unfolding section_place
returns-then-is_text_section-clause-place c =
    let l = c.args.self.now in
    let inputs = l.text.inputs.now in
    let is = sym c.is_text_section.ensures ∙ c.if-is_text_section.true in
    c.place.ensures.place ∙ ap (λ b. cond b (text_place inputs c.args.k) (place_among (got_end l.mode inputs) (data_sections inputs) c.args.k)) (sym is)

pub returns-else-is_text_section-clause-place : goal.returns-else-is_text_section-clause-place
unfolding section_place
returns-else-is_text_section-clause-place c =
    let l = c.args.self.now in
    let inputs = l.text.inputs.now in
    let is = sym c.is_text_section.ensures ∙ c.if-is_text_section.false in
    c.place-else-is_text_section.ensures ∙ data-place inputs (got_end l.mode inputs) c.args.k l.places.lying l.laid
    ∙ ap (λ b. cond b (text_place inputs c.args.k) (place_among (got_end l.mode inputs) (data_sections inputs) c.args.k)) (sym is)

pub returns-else-is_text_section-clause-near : goal.returns-else-is_text_section-clause-near
returns-else-is_text_section-clause-near c =
    let l = c.args.self.now in
    let inputs = l.text.inputs.now in
    omega (arith, c.place-else-is_text_section.ensures, below-end (got_end l.mode inputs) c.args.k (data_heads (heads_of inputs)) l.places.lying l.laid, l.near)
