-- What stands in a word whose fields are known.
use Rattle.std.proofs.Common.{◌≡◌, ℕ, zero, suc, ◌+◌, ◌*◌, ◌/◌, ◌%◌, ◌^◌, ◌<◌, Bool, true, false, List, [], ◌∷◌, refl, ap, ◌∙◌, arith}
use Rattle.std.specs.Prelude.{◌==◌}
use Rattle.std.proofs.lemmas.Nat.{mod-pow-add, mod_below, mul-add-lt, shr_high, mod_low, pow_pos, pow-add}
use Rattle.a32_isa.specs.Fields.{Field, width_of, number_of, Fit, bit, field, flag}

-- a word has these fields at its low end
abbrev pub Has : ℕ → List Field → Type 0
Has w [] = Unit {0}
Has w (f ∷ fs) = (field w (width_of fs) f.width ≡ f.value) × Has w fs

-- what has the fields is their number
pub Has-number : (w : ℕ) (fs : List Field) → Has w fs → w % 2 ^ width_of fs ≡ number_of fs
Has-number w [] h = omega arith
Has-number w (f ∷ fs) h =
    mod-pow-add w f.width (width_of fs) ∙ ap (λ v. v * 2 ^ width_of fs + w % 2 ^ width_of fs) h.0 ∙ ap (λ v. f.value * 2 ^ width_of fs + v) (Has-number w fs h.1)

pub Has-fit : (w : ℕ) (fs : List Field) → Has w fs → Fit fs
Has-fit w [] h = tt
Has-fit w (f ∷ fs) h =
    let below : field w (width_of fs) f.width < 2 ^ f.width = mod_below (w / 2 ^ width_of fs) (2 ^ f.width) (pow_pos f.width) in
    (rw h.0 at below, Has-fit w fs h.1)

-- fields that fit make a number below the power of their width
pub number_of-lt : (fs : List Field) → Fit fs → number_of fs < 2 ^ width_of fs
number_of-lt [] h = omega arith
number_of-lt (f ∷ fs) h =
    rw (pow-add 2 f.width (width_of fs)) (turned f.value (2 ^ width_of fs) (number_of fs) (2 ^ f.width) h.0 (number_of-lt fs h.1))
  where
    turned : (a w b h : ℕ) → a < h → b < w → a * w + b < h * w
    turned a w b h p q = omega (arith, mul-add-lt a w b h p q)

-- the number of fields that fit has these fields, whatever stands above
pub number_of-has : (fs : List Field) (above w : ℕ) → Fit fs → w ≡ above * 2 ^ width_of fs + number_of fs → Has w fs
number_of-has [] above w h e = tt
number_of-has (f ∷ fs) above w h e =
    let t : ℕ = 2 ^ width_of fs in
    let low : number_of fs < 2 ^ width_of fs = number_of-lt fs h.1 in
    let whole : w ≡ (above * 2 ^ f.width + f.value) * 2 ^ width_of fs + number_of fs = e ∙ ap (λ p. above * p + (f.value * 2 ^ width_of fs + number_of fs)) (pow-add 2 f.width (width_of fs)) ∙ regroup above (2 ^ f.width) f.value (2 ^ width_of fs) (number_of fs) in (
      ap (λ v. v / 2 ^ width_of fs % 2 ^ f.width) whole ∙ ap (λ v. v % 2 ^ f.width) (shr_high (above * 2 ^ f.width + f.value) (width_of fs) (number_of fs) low) ∙ mod_low above f.width f.value h.0,
      number_of-has fs (above * 2 ^ f.width + f.value) w h.1 whole,
    )
  where
    regroup : (a n v t r : ℕ) → a * (n * t) + (v * t + r) ≡ (a * n + v) * t + r
    regroup a n v t r = grind arith

-- a bit and its test
pub bit_is : (x : ℕ) → x < 2 → x ≡ bit (x == 1)
bit_is zero h = refl
bit_is (suc zero) h = refl
bit_is (suc (suc n)) h = absurd (omega arith)

pub flag-bit : (w low : ℕ) → field w low 1 ≡ bit (flag w low)
flag-bit w low = bit_is (field w low 1) (mod_below (w / 2 ^ low) 2 (omega arith))

pub flag_from_bit : (w low : ℕ) (b : Bool) → field w low 1 ≡ bit b → flag w low ≡ b
flag_from_bit w low true h = ap (λ v. v == 1) h
flag_from_bit w low false h = ap (λ v. v == 1) h
