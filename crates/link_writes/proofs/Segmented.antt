-- The segments of a linked object: apart, with memory below 2^32, and aligned.
use Rattle.std.proofs.Common.{◌≡◌, ◌≢◌, refl, ap, ◌∙◌, ℕ, ◌+◌, ◌*◌, ◌/◌, ◌^◌, ◌<◌, ◌≤◌, inl, inr, Bool, true, false, cond, ◌||◌, List, [], ◌∷◌, map, length, arith, All}
use Rattle.std.specs.Prelude.{◌==◌, Contains}
use Rattle.std.proofs.lemmas.Bool.Decides.{nat_tests}
use Rattle.std.proofs.lemmas.List.Elements.{All-nil, All-cons, All-contains}
use Rattle.fd_base.proofs.Members.{all_contained, first_or_later, nothing_in}
use Rattle.elf_model.specs.declared.object.Object.{Object}
use Rattle.elf_model.specs.declared.object.Segment.{Segment}
use Rattle.elf_model.specs.declared.relocatable.RelObject.{RelObject}
use Rattle.elf_model.specs.RelSound.{IsRelSound}
use Rattle.elf_model.specs.Sound.{IsSized}
use Rattle.elf_write.specs.TableSegment.{memory_end, table_end}
use Rattle.elf_write.specs.WritableObject.{IsAligned}
use Rattle.link_layout.proofs.Lying.{end_from}
use Rattle.link_model.specs.declared.input.Mode.{Mode}
use Rattle.link_model.specs.Places.{text_end, data_place, got_end, zeros_end, data_end, blocks_of, block_piece}
use Rattle.link_model.specs.Sections.{data_sections, piece_of}
use Rattle.link_model.specs.Segments.{text_segment, data_segment, segments_of}
use Rattle.link_model.specs.parts.Laws.{IsRoomy}
use Rattle.link_writes.proofs.Aligned.{text_aligned, data_aligned}

-- ---- below the tables

-- each segment ends below them
memory_above : (ss : List Segment) (s : Segment) → Contains ss s → s.vaddr + s.memsz ≤ memory_end ss
memory_above [] s there = absurd (nothing_in s there)
memory_above (t ∷ ss) s there = elim (first_or_later t s ss there) [
  | inl same ↦ let e : t.vaddr + t.memsz ≡ s.vaddr + s.memsz = ap (λ (u : Segment). u.vaddr + u.memsz) same in omega (arith, e)
  | inr later ↦ let rest = memory_above ss s later in omega (arith, rest)
]

pub ends_below : (o : Object) (s : Segment) → table_end o < 2 ^ 32 → Contains o.segments s → s.vaddr + s.memsz < 2 ^ 32
ends_below o s below there =
    let above = memory_above o.segments s there in
    let start = step (memory_end o.segments) in
    omega (arith, above, start, below)
  where
    step : (n : ℕ) → n < 0x1000 * (n / 0x1000 + 1)
    step n = omega arith

-- ---- the two

module _ (mode : Mode) (inputs : List RelObject) where
  -- both, or the data alone
  pub of_both : (P : Segment → Type 0) → (text_end mode inputs ≢ 0 → P (text_segment mode inputs)) → P (data_segment mode inputs) → All P (segments_of mode inputs)
  of_both P text last = by (text_end mode inputs == 0) refl
    where
      alone : All P (data_segment mode inputs ∷ [])
      alone = All-cons P (data_segment mode inputs) [] last (All-nil P)

      by : (b : Bool) → (text_end mode inputs == 0) ≡ b → All P (cond b (data_segment mode inputs ∷ []) (text_segment mode inputs ∷ data_segment mode inputs ∷ []))
      by true e = alone
      by false e = All-cons P (text_segment mode inputs) (data_segment mode inputs ∷ []) (text (λ none. let yes' : (text_end mode inputs == 0) ≡ true = grind (arith, nat_tests) in absurd cc)) alone

  pub one_or_two : (1 ≤ length (segments_of mode inputs)) × (length (segments_of mode inputs) ≤ 2)
  one_or_two = by (text_end mode inputs == 0)
    where
      by : (b : Bool) → (1 ≤ length (cond b (data_segment mode inputs ∷ []) (text_segment mode inputs ∷ data_segment mode inputs ∷ []))) × (length (cond b (data_segment mode inputs ∷ []) (text_segment mode inputs ∷ data_segment mode inputs ∷ [])) ≤ 2)
      by true = (omega arith, omega arith)
      by false = (omega arith, omega arith)

  pub segments_aligned : All IsRelSound inputs → All IsAligned (segments_of mode inputs)
  segments_aligned sound = of_both IsAligned (λ some. text_aligned mode inputs sound) (data_aligned mode inputs sound)

  -- ---- the data begins with the GOT

  pub got_in_data : got_end mode inputs ≤ data_end mode inputs
  unfolding data_end
  got_in_data =
      let sections = end_from (got_end mode inputs) (map piece_of (data_sections inputs)) in
      let blocks = end_from (zeros_end mode inputs) (map block_piece (blocks_of mode inputs)) in
      omega (arith, sections, blocks)

  pub header_in_got : data_place mode inputs + 12 ≤ got_end mode inputs
  header_in_got = omega arith

  pub some_data : data_place mode inputs + 12 ≤ data_end mode inputs
  some_data = omega (arith, header_in_got, got_in_data)

  -- ---- sizes

  sized : (s : Segment) → 0 < s.memsz → s.vaddr + s.memsz < 2 ^ 32 → length s.filled ≤ s.memsz → IsAligned s → IsSized s
  sized s some end filled aligned =
      record { some = some; end = end; filled = filled; aligned = ap (λ b. s.align == 0 || b) aligned.power ∙ or_true (s.align == 0) }
    where
      or_true : (b : Bool) → (b || true) ≡ true
      or_true true = refl
      or_true false = refl

  has_memory : All (λ s. 0 < s.memsz) (segments_of mode inputs)
  has_memory = of_both (λ s. 0 < s.memsz) (λ some. omega (arith, some)) (let some = some_data in omega (arith, some))

  pub segments_sized : All IsRelSound inputs → All IsRoomy (segments_of mode inputs) → ((s : Segment) → Contains (segments_of mode inputs) s → s.vaddr + s.memsz < 2 ^ 32) → All IsSized (segments_of mode inputs)
  segments_sized sound roomy below =
      all_contained IsSized (segments_of mode inputs) (λ s there.
      sized s (All-contains (λ t. 0 < t.memsz) (segments_of mode inputs) s has_memory there) (below s there)
      (All-contains IsRoomy (segments_of mode inputs) s roomy there)
      (All-contains IsAligned (segments_of mode inputs) s (segments_aligned sound) there))
