-- The bytes of sections are those of files.
use Rattle.std.proofs.Common.{ℕ, ◌+◌, ◌-◌, ◌<◌, ◌≤◌, inl, inr, Bool, true, false, cond, List, [], drop, get_or, length, take, filter, sym, subst, ◌∙◌, arith, All}
use Rattle.std.specs.List.{range_with_len, slice_range}
use Rattle.std.proofs.lemmas.Bool.{cases_lt}
use Rattle.std.proofs.lemmas.List.{get_or-drop, get_or-take, get_or_past, length-take}
use Rattle.std.proofs.lemmas.List.Elements.{All-contains}
use Rattle.fd_base.proofs.Members.{all_contained, contains_at, in_map}
use Rattle.elf_model.specs.declared.relocatable.RelObject.{RelObject}
use Rattle.elf_model.specs.declared.table.SectionHeader.{SectionHeader}
use Rattle.elf_model.specs.Header.{e_shnum}
use Rattle.elf_model.specs.Relocatable.{relocatable_of, section_of, sections}
use Rattle.elf_model.specs.RelSections.{is_kept, is_nobits, section_bytes}
use Rattle.elf_model.specs.Sections.{section_header}
use Rattle.link_model.specs.Inputs.{InputSection, sections_of}
use Rattle.link_model.proofs.Located.{object_of}
use Rattle.link_means.specs.parts.Laws.{AreOfBytes}
use Rattle.link_means.specs.Linked.{HasBytes, IsOfBytes}

-- ---- those of a file

sliced_small : (bytes : List ℕ) (a b k : ℕ) → ((i : ℕ) → get_or bytes i 0 < 256) → get_or (slice_range bytes a b) k 0 < 256
sliced_small bytes a b k small = elim (cases_lt k (b - a)) [
  | inl lt ↦ subst (λ (n : ℕ). n < 256) (sym (get_or-take (b - a) (drop a bytes) k 0 lt ∙ get_or-drop a bytes k 0)) (small (a + k))
  | inr ge ↦
      let past : length (take (b - a) (drop a bytes)) ≤ k = omega (arith, ge, length-take (b - a) (drop a bytes)) in
      subst (λ (n : ℕ). n < 256) (sym (get_or_past (take (b - a) (drop a bytes)) k 0 past)) (omega arith)
]

pub bytes_of_file : (bytes : List ℕ) → ((i : ℕ) → get_or bytes i 0 < 256) → IsOfBytes (relocatable_of bytes)
unfolding relocatable_of sections section_bytes
bytes_of_file bytes small = all_contained HasBytes (relocatable_of bytes).sections (λ s there.
    let from = in_map (section_of bytes) (filter (λ i. is_kept (section_header bytes i)) (range_with_len 0 (e_shnum bytes))) s there in
    subst HasBytes from.2 (of_section from.0))
  where
    of_section : (n : ℕ) → HasBytes (section_of bytes n)
    of_section n k = by (is_nobits h)
      where
        h : SectionHeader
        h = section_header bytes n

        by : (b : Bool) → get_or (cond b [] (slice_range bytes (section_header bytes n).offset ((section_header bytes n).offset + (section_header bytes n).size))) k 0 < 256
        by true = omega arith
        by false = sliced_small bytes (section_header bytes n).offset ((section_header bytes n).offset + (section_header bytes n).size) k small

-- ---- those of all inputs

pub bytes_of_files : (inputs : List RelObject) → All IsOfBytes inputs → AreOfBytes inputs
bytes_of_files inputs files = all_contained (λ (x : InputSection). HasBytes x.section) (sections_of inputs) (λ x there.
    let p = object_of inputs x there in
    let file = All-contains IsOfBytes inputs p.object files (contains_at inputs x.input p.object p.input') in
    All-contains HasBytes (p.object).sections x.section file (contains_at (p.object).sections x.number x.section p.number'))
