use Rattle.std.proofs.Common.{◌<◌, List, ◌++◌, length, All, ap, sym, ◌∙◌, subst}
use Rattle.std.specs.Prelude.{filter}
use Rattle.link_places.specs.declared.data.DataPart.TheVariants.{Zeros}
use Rattle.link_places.specs.declared.heads.SectionHead.{SectionHead}
use Rattle.link_places.specs.parts.Data.{is_of, filled_heads, data_heads}
use Rattle.link_places.proofs.Sectioned.{numbered-filled, numbered-data}
use Rattle.link_places.proofs.data.DataPlaces.new.Goals as goal

pub lay_sections-requires-clause-numbered : goal.lay_sections-requires-clause-numbered
lay_sections-requires-clause-numbered c =
    let hs = c.heads-heads.result.now in
    let numbered = subst (λ (xs : List SectionHead). All (λ h. h.index < length xs) (filled_heads xs)) (sym c.heads-heads.ensures) (numbered-filled c.args.text.now.inputs.now) in
    subst (λ (xs : List SectionHead). All (λ h. h.index < length hs) xs) (sym (c.as_slice.ensures ∙ c.in_ok-sections.ensures)) numbered

pub lay_sections-requires-2-clause-numbered : goal.lay_sections-requires-2-clause-numbered
lay_sections-requires-2-clause-numbered c =
    let hs = c.heads-heads.result.now in
    let numbered = subst (λ (xs : List SectionHead). All (λ h. h.index < length xs) (data_heads xs)) (sym c.heads-heads.ensures) (numbered-data c.args.text.now.inputs.now) in
    subst (λ (xs : List SectionHead). All (λ h. h.index < length hs) xs)
    (sym (c.as_slice-2.ensures ∙ c.in_ok-put_part.ensures ∙ ap (λ xs. xs ++ filter (is_of Zeros) hs) c.in_ok-sections.ensures)) numbered
