-- Where the text ends, and where the data begins behind it.
use Rattle.std.proofs.Common.{◌≡◌, ◌≢◌, ◌≤◌, ◌^◌, ℕ, ◌+◌, ◌*◌, ◌/◌, Bool, true, false, cond, List, length, ap, sym, ◌∙◌, arith}
use Rattle.std.specs.Prelude.{◌==◌}
use Rattle.std.specs.List.{filter_map}
use Rattle.std.proofs.lemmas.Bool.Decides.{nat_tests}
use Rattle.elf_model.specs.declared.relocatable.RelObject.{RelObject}
use Rattle.link_model.specs.declared.input.Mode.{Mode}
use Rattle.link_model.specs.declared.need.Need.{Need}
use Rattle.link_model.specs.Needs.{all_needs, got_size, slot_key, slot_keys}
use Rattle.link_model.specs.Places.{plt_place, text_end, data_place, got_end}
use Rattle.link_model.specs.Sections.{text_sections_end}

module _ (mode : Mode) (inputs : List RelObject) where
  abbrev end_by : Bool → ℕ → ℕ
  end_by b n = cond b (text_sections_end inputs) (plt_place inputs + 40 * n)

  pub end-without : (n : ℕ) → n ≡ length (slot_keys mode inputs) → n ≡ 0 → text_sections_end inputs ≡ text_end mode inputs
  unfolding text_end
  end-without n is none =
      let test : (length (slot_keys mode inputs) == 0) ≡ true = grind (arith, nat_tests) in
      sym (ap (λ b. end_by b (length (slot_keys mode inputs))) test)

  pub end-with : (n : ℕ) → n ≡ length (slot_keys mode inputs) → n ≢ 0 → plt_place inputs + 40 * n ≡ text_end mode inputs
  unfolding text_end
  end-with n is some =
      let test : (length (slot_keys mode inputs) == 0) ≡ false = grind (arith, nat_tests) in
      ap (λ m. plt_place inputs + 40 * m) is ∙ sym (ap (λ b. end_by b (length (slot_keys mode inputs))) test)

  pub slots-are : (needs : List Need) → needs ≡ all_needs mode inputs → length (filter_map slot_key needs) ≡ length (slot_keys mode inputs)
  slots-are needs is = ap (λ xs. length (filter_map slot_key xs)) is

  pub begins : (end a b : ℕ) → end ≡ text_end mode inputs → a ≡ 65536 → b ≡ 65536 → (end / a + 1) * b ≡ data_place mode inputs
  unfolding data_place
  begins end a b is one two = λ i. (is i / one i + 1) * two i

  pub got-ends : (place size : ℕ) (needs : List Need) → place ≡ data_place mode inputs → size ≡ got_size needs → needs ≡ all_needs mode inputs → place + size ≡ got_end mode inputs
  got-ends place size needs at is all = λ i. at i + (is ∙ ap got_size all) i

pub begin-near : (end a b : ℕ) → a ≡ 65536 → b ≡ 65536 → end ≤ 2 ^ 60 + 2 ^ 40 → (end / a + 1) * b ≤ 2 ^ 60 + 2 ^ 41
begin-near end a b one two le =
    let all : (end / a + 1) * b ≡ (end / 65536 + 1) * 65536 = λ i. (end / one i + 1) * two i in
    let small : (end / 65536 + 1) * 65536 ≤ 2 ^ 60 + 2 ^ 41 = omega (arith, le) in
    omega (arith, all, small)
