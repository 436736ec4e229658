-- Where a section stands: in its input, at its number there.
use Rattle.std.proofs.Common.{◌≡◌, ℕ, ◌<◌, List, length, get_or, map, Some, ap, sym, subst, ◌∙◌}
use Rattle.std.specs.Prelude.{slice_get, Contains}
use Rattle.std.proofs.lemmas.Option.{slice_get-get_or, slice_get-map, slice_get_within}
use Rattle.fd_base.proofs.Members.{in_map}
use Rattle.fd_base.proofs.Options.{from_map}
use Rattle.elf_model.specs.declared.relocatable.RelObject.{RelObject}
use Rattle.link_model.specs.Inputs.{InputSection, sections_of}
use Rattle.link_model.proofs.Located.{object_of}
use Rattle.link_names.specs.parts.Joining.{HasInput}
use Rattle.link_places.specs.declared.heads.SectionHead.{SectionHead}
use Rattle.link_places.specs.parts.Heads.{head_of, heads_of}

pub located : (inputs : List RelObject) (x : InputSection) → Contains (sections_of inputs) x → HasInput inputs x.input (λ o. slice_get o.sections x.number ≡ Some x.section)
located inputs x there = let p = object_of inputs x there in (p.object, p.input', p.number')

-- a head is that of a section
pub record IsHeadAt (inputs : List RelObject) (i : ℕ) (h : SectionHead) : Type 0 where
  pub section' : InputSection
  pub there : slice_get (sections_of inputs) i ≡ Some section'
  pub is : h ≡ head_of section'

pub head_at : (inputs : List RelObject) (hs : List SectionHead) (i : ℕ) (d : SectionHead) → hs ≡ heads_of inputs → i < length hs → IsHeadAt inputs i (get_or hs i d)
head_at inputs hs i d is lt =
    let at : slice_get (map head_of (sections_of inputs)) i ≡ Some (get_or hs i d) = ap (λ l. slice_get l i) (sym is) ∙ slice_get-get_or hs i d lt in
    let from = from_map head_of (slice_get (sections_of inputs) i) (get_or hs i d) (sym (slice_get-map head_of (sections_of inputs) i) ∙ at) in
    record { section' = from.0; there = from.1; is = sym from.2 }

pub has_section : (inputs : List RelObject) (h : SectionHead) → Contains (heads_of inputs) h → HasInput inputs h.input (λ o. h.number < length o.sections)
has_section inputs h there =
    let from = in_map head_of (sections_of inputs) h there in
    let x = from.0 in
    let at = located inputs x from.1 in
    subst (λ (g : SectionHead). HasInput inputs g.input (λ o. g.number < length o.sections)) from.2 (at.0, at.1, slice_get_within (at.0).sections x.number x.section at.2)
