-- In a small object each place has 32 bits.
use Rattle.std.proofs.Common.{◌≡◌, ℕ, ◌+◌, ◌*◌, ◌/◌, ◌<◌, ◌≤◌, ◌^◌, ◌⊎◌, inl, inr, Bool, true, false, cond, List, length, map, take, Option, Some, None, refl, ap, arith}
use Rattle.std.specs.Prelude.{◌==◌, count_by, position, unwrap_or, Contains}
use Rattle.std.proofs.lemmas.Bool.Decides.{nat_tests}
use Rattle.std.proofs.lemmas.List.Quantifiers.{position-Some}
use Rattle.std.proofs.lemmas.List.Sums.{sum_by-take-le}
use Rattle.elf_model.specs.declared.relocatable.RelObject.{RelObject}
use Rattle.link_layout.proofs.Lying.{end_from}
use Rattle.link_model.specs.declared.input.Mode.{Mode}
use Rattle.link_model.specs.declared.need.Need.{Need}
use Rattle.link_model.specs.declared.need.UseKind.{UseKind}
use Rattle.link_model.specs.declared.need.UseKind.TheVariants.{Word, FuncWord, Descriptor, Slot}
use Rattle.link_model.specs.declared.target.Key.{Key}
use Rattle.link_model.specs.GotLayout.{is_word, is_descriptor, is_slot, use_size, offset_behind, got_size}
use Rattle.link_model.specs.Needs.{all_needs, kind_of, place_in, slot_keys}
use Rattle.link_model.specs.Places.{plt_place, plt_entry, plt_entry_of, text_end, data_place, got_end, zeros_end, data_end, need_place, blocks_of, block_piece}
use Rattle.link_model.specs.Sections.{text_sections_end, data_sections, piece_of}
use Rattle.link_model.specs.Targets.{is_same_key}
use Rattle.link_model.proofs.Needed.{stands}
use Rattle.link_model.proofs.Placed.{data_above}

-- ---- the GOT

counted : (p : UseKind → Bool) (uses : List UseKind) (i : ℕ) → count_by p (take i uses) ≤ count_by p uses
counted p uses i = sum_by-take-le (λ y. cond (p y) 1 0) uses i

offset-within : (uses : List UseKind) (i : ℕ) (kind : UseKind) → offset_behind uses i kind ≤ got_size uses
offset-within uses i Word = omega (arith, counted is_word uses i)
offset-within uses i FuncWord = omega (arith, counted is_word uses i)
offset-within uses i Descriptor = omega (arith, counted is_descriptor uses i)
offset-within uses i Slot = omega (arith, counted is_slot uses i)

module _ (mode : Mode) (inputs : List RelObject) where
  got-below : got_end mode inputs ≤ data_end mode inputs
  unfolding data_end
  got-below =
      omega (arith, end_from (got_end mode inputs) (map piece_of (data_sections inputs)), end_from (zeros_end mode inputs) (map block_piece (blocks_of mode inputs)))

  -- each need has a place, whether it is among those of the object or not
  pub need-near : (n : Need) → data_end mode inputs < 2 ^ 32 → need_place mode inputs n < 2 ^ 32
  need-near n small = omega (arith, small, got-below, offset-within (map kind_of (all_needs mode inputs)) (place_in (all_needs mode inputs) n) (kind_of n))

  pub data-near : data_end mode inputs < 2 ^ 32 → data_place mode inputs < 2 ^ 32
  data-near small = omega (arith, small, got-below)

  pub row-near : (n : Need) → Contains (all_needs mode inputs) n → data_end mode inputs < 2 ^ 32 → need_place mode inputs n + use_size (kind_of n) < 2 ^ 32
  row-near n there small = let s = stands mode inputs n there in omega (arith, small, got-below, s.to)

  -- ---- the PLT

  abbrev end_by : Bool → ℕ
  end_by b = cond b (text_sections_end inputs) (plt_place inputs + 40 * length (slot_keys mode inputs))

  some-slots : (b : Bool) → (length (slot_keys mode inputs) == 0) ≡ b → text_end mode inputs ≡ end_by b
  unfolding text_end
  some-slots b is = ap end_by is

  aligned-near : plt_place inputs ≤ text_sections_end inputs + 3
  aligned-near = omega arith

  -- the data begins at a multiple of 65,536 above the text
  text-near : data_end mode inputs < 2 ^ 32 → text_end mode inputs + 65536 ≤ 2 ^ 32
  unfolding data_place
  text-near small = omega (arith, small, got-below, step (text_end mode inputs))
    where
      step : (n : ℕ) → n + 1 ≤ (n / 0x1_0000 + 1) * 0x1_0000
      step n = omega arith

  -- no entry begins further behind the text than its alignment
  entry-begins : (k : ℕ) → (k ≡ 0) ⊎ (k < length (slot_keys mode inputs)) → plt_entry inputs k ≤ text_end mode inputs + 3
  entry-begins k (inl first) = by (length (slot_keys mode inputs) == 0) refl
    where
      by : (b : Bool) → (length (slot_keys mode inputs) == 0) ≡ b → plt_entry inputs k ≤ text_end mode inputs + 3
      by true is = omega (arith, some-slots true is, first, aligned-near)
      by false is = omega (arith, some-slots false is, first)
  entry-begins k (inr within) =
      let some : (length (slot_keys mode inputs) == 0) ≡ false = grind (arith, nat_tests) in
      omega (arith, some-slots false some, within)

  place-among : (key : Key) (o : Option ℕ) → position (is_same_key key) (slot_keys mode inputs) ≡ o
      → (unwrap_or o 0 ≡ 0) ⊎ (unwrap_or o 0 < length (slot_keys mode inputs))
  place-among key None is = inl refl
  place-among key (Some k) is = inr (position-Some (is_same_key key) (slot_keys mode inputs) k key is).0

  pub entry-near : (k : ℕ) → k < length (slot_keys mode inputs) → data_end mode inputs < 2 ^ 32 → plt_entry inputs k + 40 < 2 ^ 32
  entry-near k within small =
      let some : (length (slot_keys mode inputs) == 0) ≡ false = grind (arith, nat_tests) in
      omega (arith, some-slots false some, within, data_above mode inputs, got-below, small)

  pub slot-near : (key : Key) → data_end mode inputs < 2 ^ 32 → plt_entry_of mode inputs key + 24 < 2 ^ 32
  slot-near key small =
      let begins = entry-begins (unwrap_or (position (is_same_key key) (slot_keys mode inputs)) 0) (place-among key (position (is_same_key key) (slot_keys mode inputs)) refl) in
      omega (arith, begins, text-near small)
