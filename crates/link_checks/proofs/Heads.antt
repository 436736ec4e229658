-- Sections by what the layout asks of them.
use Rattle.std.proofs.Common.{◌≡◌, ℕ, ◌<◌, List, length, get_or, Some, All, ap, sym, subst, ◌∙◌, arith}
use Rattle.std.specs.Prelude.{Contains, slice_get}
use Rattle.std.proofs.lemmas.List.Elements.{All-contains}
use Rattle.std.proofs.lemmas.Option.{slice_get-get_or, slice_get-map, slice_get_within}
use Rattle.fd_base.proofs.Members.{contains_at}
use Rattle.fd_base.proofs.Options.{from_map}
use Rattle.elf_model.specs.declared.relocatable.RelObject.{RelObject}
use Rattle.elf_model.specs.declared.relocatable.RelSection.{RelSection}
use Rattle.link_model.specs.Inputs.{InputSection, sections_of}
use Rattle.link_names.specs.parts.Joining.{HasInput}
use Rattle.link_places.specs.declared.heads.SectionHead.{SectionHead}
use Rattle.link_places.specs.parts.Heads.{head_of, heads_of}
use Rattle.link_checks.specs.parts.Sited.{HasWordsInside, IsInside}
use Rattle.link_model.proofs.Located.{object_of}

-- the section of a head
pub record HasSection (inputs : List RelObject) (k : ℕ) (h : SectionHead) : Type 0 where
  pub section : InputSection
  pub there : slice_get (sections_of inputs) k ≡ Some section
  pub known : Contains (sections_of inputs) section
  pub head' : h ≡ head_of section
  pub input' : h.input ≡ section.input
  pub number' : h.number ≡ section.number

module _ (inputs : List RelObject) (k : ℕ) (h : SectionHead) where
  at_number : slice_get (heads_of inputs) k ≡ Some h → HasSection inputs k h
  at_number is =
      let from = from_map head_of (slice_get (sections_of inputs) k) h (sym (slice_get-map head_of (sections_of inputs) k) ∙ is) in
      record {
        section = from.0;
        there = from.1;
        known = contains_at (sections_of inputs) k from.0 from.1;
        head' = sym from.2;
        input' = ap (λ (g : SectionHead). g.input) (sym from.2);
        number' = ap (λ (g : SectionHead). g.number) (sym from.2);
      }

  pub section_of : (heads : List SectionHead) (d : SectionHead) → heads ≡ heads_of inputs → k < length heads → get_or heads k d ≡ h
      → HasSection inputs k h
  section_of heads d are within is = at_number (ap (λ hs. slice_get hs k) (sym are) ∙ slice_get-get_or heads k d within ∙ ap Some is)

  -- its input has it
  pub has_input : HasSection inputs k h → HasInput inputs h.input (λ o. h.number < length o.sections)
  has_input s =
      let p = object_of inputs s.section s.known in
      (p.object, (λ i. slice_get inputs (s.input' i)) ∙ p.input', omega (arith, s.number', slice_get_within (p.object).sections (s.section).number (s.section).section p.number'))

  pub all_inside : (s : HasSection inputs k h) (section : RelSection) → section ≡ (s.section).section → All HasWordsInside (sections_of inputs)
      → All (IsInside section) section.rels
  all_inside s section is inside = subst (λ (r : RelSection). All (IsInside r) r.rels) (sym is) (All-contains HasWordsInside (sections_of inputs) s.section inside s.known)
