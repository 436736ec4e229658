-- The alignments of the segments are powers of two from 16 to 4,096.
use lib.Count.{ones}
use Rattle.std.proofs.Common.{◌≡◌, refl, ap, sym, subst, ◌∙◌, ℕ, ◌≤◌, ◌⊎◌, inl, inr, Bool, true, false, cond, not, ◌&&◌, ◌||◌, List, [], ◌∷◌, ◌++◌, Option, Some, None, arith, All}
use Rattle.std.specs.Prelude.{◌==◌, max, find, nat_le, Contains, unwrap_or}
use Rattle.std.specs.Int.{is_power_of_two}
use Rattle.std.specs.List.{list_all}
use Rattle.std.proofs.lemmas.Bool.{cases_lt, or_cases, and_parts, leb-true, eqb-true}
use Rattle.std.proofs.lemmas.List.Sums.{AllPass-from_list_all}
use Rattle.std.proofs.lemmas.List.Elements.{All-contains, Contains-append_cases}
use Rattle.fd_base.proofs.Finding.{find_some}
use Rattle.fd_base.proofs.Members.{contains_first, contains_later, in_filter, in_map}
use Rattle.elf_model.specs.declared.constants.TheConstants.{MAX_SECTION_ALIGN, SHT_INIT_ARRAY, SHT_FINI_ARRAY}
use Rattle.elf_model.specs.declared.object.Segment.{Segment}
use Rattle.elf_model.specs.declared.relocatable.RelObject.{RelObject}
use Rattle.elf_model.specs.RelSections.{is_section_align}
use Rattle.elf_model.specs.RelSound.{IsRelSound}
use Rattle.elf_write.specs.WritableObject.{IsAligned}
use Rattle.link_model.specs.declared.input.Mode.{Mode}
use Rattle.link_model.specs.declared.target.Target.{Target}
use Rattle.link_model.specs.Inputs.{InputSection, InputSymbol, sections_of}
use Rattle.link_model.specs.Joined.{names_of, of_name, definition_taken, is_common, greatest, alignments, common_alignment, common_align, commons_of}
use Rattle.link_model.specs.Places.{blocks_of}
use Rattle.link_model.specs.Sections.{is_nobits, is_array, is_writable, writable_sections, filled_sections, data_sections, text_sections}
use Rattle.link_model.specs.Segments.{greatest_align, text_segment, data_segment}
use Rattle.link_model.specs.Targets.{is_block, joined_target, name_number, target_of_name, targets_of}
use Rattle.link_model.proofs.Numbering.{section_sound}
use Rattle.link_model.proofs.Placed.{of_text}

-- ---- steps

-- a power of two up to 4,096
pub record IsStep (n : ℕ) : Type 0 where
  pub power : is_power_of_two n ≡ true
  pub to : n ≤ 4096

max_is : (a b : ℕ) → (max a b ≡ a) ⊎ (max a b ≡ b)
max_is a b = elim (cases_lt a b) [ inl lt ↦ inr (omega arith) | inr le ↦ inl (omega arith) ]

module _ {X : Type 0} (f : X → ℕ) where
  greatest_from : (least : ℕ) (xs : List X) → least ≤ greatest least f xs
  greatest_from least [] = omega arith
  greatest_from least (x ∷ xs) = let rest = greatest_from (max least (f x)) xs in omega (arith, rest)

  -- the greatest of steps and zeros is a step
  greatest_step : (least : ℕ) (xs : List X) → IsStep least → ((x : X) → Contains xs x → (f x ≡ 0) ⊎ IsStep (f x)) → IsStep (greatest least f xs)
  greatest_step least [] step each = step
  greatest_step least (x ∷ xs) step each = greatest_step (max least (f x)) xs more (λ y there. each y (contains_later x y xs there))
    where
      more : IsStep (max least (f x))
      more = elim (max_is least (f x)) [
        | inl e ↦ subst IsStep (sym e) step
        | inr e ↦ elim (each x (contains_first x x xs refl)) [
          | inl none ↦ let same : least ≡ max least (f x) = omega (arith, none) in subst IsStep same step
          | inr other ↦ subst IsStep (sym e) other
        ]
      ]

-- ---- of sections

section_step : (n : ℕ) → is_section_align n ≡ true → (n ≡ 0) ⊎ IsStep n
section_step n h = elim (or_cases (n == 0) (is_power_of_two n && nat_le n MAX_SECTION_ALIGN) h) [
  | inl zero' ↦ inl (eqb-true n 0 zero')
  | inr more ↦
      let parts = and_parts (is_power_of_two n) (nat_le n MAX_SECTION_ALIGN) more in
      inr (record { power = parts.0; to = leb-true n MAX_SECTION_ALIGN parts.1 })
]

module _ (inputs : List RelObject) where
  of_written : (which : InputSection → Bool) (x : InputSection) → Contains (writable_sections which inputs) x → Contains (sections_of inputs) x
  of_written which x there = (in_filter (λ y. is_writable y && which y) (sections_of inputs) x there).0

  of_filled : (x : InputSection) → Contains (filled_sections inputs) x → Contains (sections_of inputs) x
  of_filled x there =
      let starts = writable_sections (λ y. (y.section).kind == SHT_INIT_ARRAY) inputs in
      let ends = writable_sections (λ y. (y.section).kind == SHT_FINI_ARRAY) inputs in
      let others = writable_sections (λ y. not (is_array y || is_nobits y)) inputs in
      elim (Contains-append_cases starts (ends ++ others) x there) [
        | inl a ↦ of_written (λ y. (y.section).kind == SHT_INIT_ARRAY) x a
        | inr more ↦ elim (Contains-append_cases ends others x more) [
          | inl b ↦ of_written (λ y. (y.section).kind == SHT_FINI_ARRAY) x b
          | inr c ↦ of_written (λ y. not (is_array y || is_nobits y)) x c
        ]
      ]

  of_data : (x : InputSection) → Contains (data_sections inputs) x → Contains (sections_of inputs) x
  of_data x there =
      elim (Contains-append_cases (filled_sections inputs) (writable_sections is_nobits inputs) x there) [ inl a ↦ of_filled x a | inr b ↦ of_written is_nobits x b ]

  step_of_section : All IsRelSound inputs → (x : InputSection) → Contains (sections_of inputs) x → ((x.section).align ≡ 0) ⊎ IsStep (x.section).align
  step_of_section sound x there = section_step (x.section).align (section_sound inputs sound x there).1.aligned

-- ---- of common blocks

one_step : IsStep 1
unfolding ones
one_step = record { power = refl; to = omega arith }

sixteen_step : IsStep 16
unfolding ones
sixteen_step = record { power = refl; to = omega arith }

all_steps : list_all (λ n. is_power_of_two n && nat_le n 4096) alignments ≡ true
unfolding ones
all_steps = refl

step_of_test : (n : ℕ) → (is_power_of_two n && nat_le n 4096) ≡ true → IsStep n
step_of_test n h = let parts = and_parts (is_power_of_two n) (nat_le n 4096) h in record { power = parts.0; to = leb-true n 4096 parts.1 }

largest_step : IsStep MAX_SECTION_ALIGN
unfolding ones
largest_step = record { power = refl; to = omega arith }

-- of one common symbol
symbol_step : (x : InputSymbol) → IsStep (common_alignment x)
symbol_step x = by (find (nat_le (x.symbol).value) alignments) refl
  where
    by : (o : Option ℕ) → find (nat_le (x.symbol).value) alignments ≡ o → IsStep (unwrap_or o MAX_SECTION_ALIGN)
    by None e = largest_step
    by (Some n) e =
        let there = (find_some (nat_le (x.symbol).value) alignments n e).0 in
        step_of_test n (All-contains (λ m. (is_power_of_two m && nat_le m 4096) ≡ true) alignments n (AllPass-from_list_all (λ m. is_power_of_two m && nat_le m 4096) alignments all_steps) there)

common_step : (xs : List InputSymbol) → IsStep (common_align xs)
common_step xs = greatest_step common_alignment 1 (commons_of xs) one_step (λ x there. inr (symbol_step x))

joined_step : (mode : Mode) (inputs : List RelObject) (k : ℕ) (xs : List InputSymbol) (o : Option InputSymbol) → IsStep (joined_target mode inputs k xs o).align
joined_step mode inputs k xs None = one_step
joined_step mode inputs k xs (Some taken) = by (is_common (taken.symbol).place)
  where
    by : (b : Bool) → IsStep (cond b (common_align xs) 1)
    by true = common_step xs
    by false = one_step

block_step : (mode : Mode) (inputs : List RelObject) (t : Target) → Contains (blocks_of mode inputs) t → IsStep t.align
block_step mode inputs t there =
    let listed = (in_filter (λ u. is_block u.spot) (targets_of mode inputs) t there).0 in
    let from = in_map (target_of_name mode inputs) (names_of inputs) t listed in
    let xs = of_name inputs from.0 in
    subst (λ (u : Target). IsStep u.align) from.2 (joined_step mode inputs (name_number inputs from.0) xs (definition_taken xs))

-- ---- of segments

-- one that is 16 or more
aligned_by : (n : ℕ) → IsStep n → 16 ≤ n → (s : Segment) → s.align ≡ n → IsAligned s
aligned_by n step le s e = record { power = ap is_power_of_two e ∙ step.power; from = omega (arith, e, le); to = omega (arith, e, step.to) }

module _ (mode : Mode) (inputs : List RelObject) (sound : All IsRelSound inputs) where
  sections_step : (xs : List InputSection) → ((x : InputSection) → Contains xs x → Contains (sections_of inputs) x) → IsStep (greatest_align xs)
  sections_step xs of = greatest_step (λ x. (x.section).align) 16 xs sixteen_step (λ x there. step_of_section inputs sound x (of x there))

  pub text_aligned : IsAligned (text_segment mode inputs)
  text_aligned =
      aligned_by (greatest_align (text_sections inputs)) (sections_step (text_sections inputs) (of_text inputs))
      (greatest_from (λ (x : InputSection). (x.section).align) 16 (text_sections inputs)) (text_segment mode inputs) refl

  pub data_aligned : IsAligned (data_segment mode inputs)
  data_aligned =
      let least = greatest_align (data_sections inputs) in
      let low = greatest_from (λ (x : InputSection). (x.section).align) 16 (data_sections inputs) in
      let up = greatest_from (λ (t : Target). t.align) least (blocks_of mode inputs) in
      aligned_by (greatest least (λ t. t.align) (blocks_of mode inputs))
      (greatest_step (λ (t : Target). t.align) least (blocks_of mode inputs) (sections_step (data_sections inputs) (of_data inputs)) (λ t there. inr (block_step mode inputs t there)))
      (omega (arith, low, up)) (data_segment mode inputs) refl
