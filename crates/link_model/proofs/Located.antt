-- Where a section stands: in its input, at its number there.
use Rattle.std.proofs.Common.{◌≡◌, ℕ, List, get_or, Some, ap, sym, ◌∙◌}
use Rattle.std.specs.Prelude.{Contains, slice_get}
use Rattle.std.specs.List.{flat_map}
use Rattle.std.proofs.lemmas.Option.{get_or_from_slice_get}
use Rattle.fd_base.proofs.Members.{contains_at, in_flat_map, in_map}
use Rattle.elf_model.specs.declared.relocatable.RelObject.{RelObject}
use Rattle.elf_model.specs.declared.relocatable.RelSection.{RelSection}
use Rattle.link_model.specs.Inputs.{InputSection, numbered, sections_in, sections_of}
use Rattle.link_model.proofs.Numbering.{numbered_at}

module _ (inputs : List RelObject) where
  -- a section's input, and its place there
  pub record HasObject (x : InputSection) : Type 0 where
    pub object : RelObject
    pub input' : slice_get inputs x.input ≡ Some object
    pub number' : slice_get object.sections x.number ≡ Some x.section

  pub object_of : (x : InputSection) → Contains (sections_of inputs) x → HasObject x
  object_of x there =
      let parts = flat_map sections_in (numbered inputs) in
      let from = in_map (λ (e : ℕ × (ℕ × ℕ × RelSection)). record { index = e.0; input = (e.1).0; number = (e.1).1; section = (e.1).2 }) (numbered parts) x there in
      let e = from.0 in
      let part = in_flat_map sections_in (numbered inputs) e.1 (contains_at parts e.0 e.1 (numbered_at parts e from.1)) in
      let o = part.0 in
      let own = in_map (λ (s : ℕ × RelSection). (o.0, s.0, s.1)) (numbered (o.1).sections) e.1 part.2 in
      let s = own.0 in
      let whole = own.2 in
      let made = from.2 in
      let input : o.0 ≡ x.input = (λ i. (whole i).0) ∙ (λ i. (made i).input) in
      let number : s.0 ≡ x.number = (λ i. (whole i).1) ∙ (λ i. (made i).number) in
      let section : s.1 ≡ x.section = (λ i. (whole i).2) ∙ (λ i. (made i).section) in
      record {
        object = o.1;
        input' = ap (slice_get inputs) (sym input) ∙ numbered_at inputs o part.1;
        number' = ap (slice_get (o.1).sections) (sym number) ∙ numbered_at (o.1).sections s own.1 ∙ ap Some section;
      }

  -- as it is read
  pub section_read : (x : InputSection) → Contains (sections_of inputs) x → (o : RelObject) (s : RelSection) (i n : ℕ) → o ≡ get_or inputs i o
      → s ≡ get_or o.sections n s → i ≡ x.input → n ≡ x.number → s ≡ x.section
  section_read x there o s i n read own input number =
      let p = object_of x there in
      let same : o ≡ p.object = read ∙ ap (λ j. get_or inputs j o) input ∙ get_or_from_slice_get inputs x.input p.object o p.input' in
      own ∙ (λ j. get_or (same j).sections (number j) s) ∙ get_or_from_slice_get (p.object).sections x.number x.section s p.number'
