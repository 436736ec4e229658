use Rattle.std.proofs.Common.{◌≡◌, ◌<◌, List, length, not, filter, All, ap, sym, ◌∙◌, subst}
use Rattle.link_places.specs.declared.heads.SectionHead.{SectionHead}
use Rattle.link_places.specs.parts.Heads.{heads_of, is_writable}
use Rattle.link_places.proofs.Sectioned.{numbered-in}
use Rattle.link_places.proofs.text.TextPlaces.new.Goals as goal

pub lay_sections-requires-clause-numbered : goal.lay_sections-requires-clause-numbered
lay_sections-requires-clause-numbered c =
    let inputs = c.args.inputs.now in
    let text : c.as_slice-2.result.now ≡ filter (λ h. not (is_writable h)) (heads_of inputs) =
    c.as_slice-2.ensures ∙ c.in_ok-text.ensures ∙ ap (filter (λ h. not (is_writable h))) (c.as_slice.ensures ∙ c.in_ok-heads.ensures) in
    let count : c.len.result ≡ length (heads_of inputs) = c.len.ensures ∙ ap length c.in_ok-heads.ensures in
    subst (λ (hs : List SectionHead). All (λ h. h.index < c.len.result) hs) (sym text)
    (subst (λ n. All (λ h. h.index < n) (filter (λ h. not (is_writable h)) (heads_of inputs))) (sym count) (numbered-in inputs (λ h. not (is_writable h))))
