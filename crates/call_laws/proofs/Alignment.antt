-- Multiples of four are placed at multiples of four.
use Rattle.std.proofs.Common.{◌≡◌, ◌≢◌, ℕ, ◌+◌, ◌-◌, ◌/◌, ◌%◌, ◌≤◌, inl, inr, true, ◌==◌, sym, ap, ◌∙◌, arith}
use Rattle.std.specs.Prelude.{◌||◌}
use Rattle.std.specs.Int.{is_power_of_two}
use Rattle.std.specs.Int.RustNames.{count_ones}
use Rattle.std.proofs.lemmas.Bool.{cases_lt, eqb-true, or_cases}
use Rattle.std.proofs.lemmas.Nat.{zero_from_ones}
use Rattle.std.proofs.lemmas.Nat.Gcd.{dvd_of_mod-eq-zero}
use Rattle.std.proofs.Math.Nat.{mod-mod_of_dvd}
use Rattle.placement.specs.Legal.{unit_of}
use lib.Count.{ones_step}

power_is_fourfold : (n : ℕ) → is_power_of_two n ≡ true → 4 ≤ n → n % 4 ≡ 0
power_is_fourfold n h big =
    let one : count_ones n ≡ 1 = eqb-true (count_ones n) 1 h in
    let first = ones_step n in
    let second = ones_step (n / 2) in
    let some : count_ones (n / 2 / 2) ≢ 0 = λ none. let zero' = zero_from_ones (n / 2 / 2) none in absurd (omega arith) in
    let left : n % 2 + (n / 2 % 2 + count_ones (n / 2 / 2)) ≡ 1 = omega arith in
    let positive : 1 ≤ count_ones (n / 2 / 2) = omega arith in
    omega arith

-- the unit of a segment's alignment
pub unit_is_fourfold : (align : ℕ) → (align == 0 || is_power_of_two align) ≡ true → unit_of align % 4 ≡ 0
unit_is_fourfold align h =
    elim (cases_lt align 17) [
      | inl small ↦ let is : unit_of align ≡ 16 = omega arith in ap (λ n. n % 4) is
      | inr large ↦ elim (cases_lt align 4096) [
        | inl below ↦
            let is : unit_of align ≡ align = omega arith in
            ap (λ n. n % 4) is ∙ elim (or_cases (align == 0) (is_power_of_two align) h) [
              | inl nothing ↦ let zero' = eqb-true align 0 nothing in absurd (omega arith)
              | inr power ↦ power_is_fourfold align power (omega arith)
            ]
        | inr above ↦ let is : unit_of align ≡ 4096 = omega arith in ap (λ n. n % 4) is
      ]
    ]

pub congruent_by_four : (a b unit : ℕ) → unit % 4 ≡ 0 → a % unit ≡ b % unit → a % 4 ≡ b % 4
congruent_by_four a b unit fourfold same =
    let divides = dvd_of_mod-eq-zero 4 fourfold in
    sym (mod-mod_of_dvd 4 a divides) ∙ ap (λ n. n % 4) same ∙ mod-mod_of_dvd 4 b divides

pub placed_by_four : (v vaddr addr : ℕ) → vaddr ≤ v → v % 4 ≡ 0 → addr % 4 ≡ vaddr % 4 → (v - vaddr + addr) % 4 ≡ 0
placed_by_four v vaddr addr from aligned same = omega arith
