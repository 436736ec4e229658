-- The first line of a text, by the place of its end.
use Rattle.std.proofs.Common.{◌≡◌, ℕ, ◌+◌, ◌<◌, zero, suc, Bool, true, false, List, [], ◌∷◌, length, get_or, refl, sym, ap, ◌∙◌, arith, Some, None, inl, inr}
use Rattle.std.specs.Prelude.{take, drop, position, ◌==◌}
use Rattle.std.specs.List.{position_or_len}
use Rattle.std.proofs.lemmas.Bool.{cases_lt, lt-ltb}
use Rattle.std.proofs.lemmas.List.Quantifiers.{position-Some}
use Rattle.std.proofs.lemmas.List.Sums.{fails_before_first}
use Rattle.fd_base.specs.Lines.{lines_of, with_byte}

abbrev ends : ℕ → Bool
ends byte = byte == 0x0a

ended : (byte : ℕ) (bytes : List ℕ) → ends byte ≡ true → lines_of (byte ∷ bytes) ≡ [] ∷ lines_of bytes
ended byte bytes e = rw e refl

goes_on : (byte : ℕ) (bytes : List ℕ) → ends byte ≡ false → lines_of (byte ∷ bytes) ≡ with_byte byte (lines_of bytes)
goes_on byte bytes e = rw e refl

split_there : (bytes : List ℕ) (i : ℕ) → i < length bytes → ends (get_or bytes i 0) ≡ true → ((k : ℕ) → k < i → ends (get_or bytes k 0) ≡ false)
    → lines_of bytes ≡ take i bytes ∷ lines_of (drop (suc i) bytes)
split_there [] i lt here before = absurd (omega arith)
split_there (byte ∷ bytes) zero lt here before = ended byte bytes here
split_there (byte ∷ bytes) (suc i) lt here before =
    let rest = split_there bytes i (omega arith) here (λ k l. before (suc k) (omega arith)) in
    goes_on byte bytes (before 0 (omega arith)) ∙ ap (with_byte byte) rest

pub split_at_end : (bytes : List ℕ) (i : ℕ) → position ends bytes ≡ Some i → lines_of bytes ≡ take i bytes ∷ lines_of (drop (i + 1) bytes)
split_at_end bytes i e =
    let s = position-Some ends bytes i 0 e in
    let next : i + 1 ≡ suc i = omega arith in
    rw next (split_there bytes i s.0 s.1 s.2)

one_line : (bytes : List ℕ) → 0 < length bytes → ((k : ℕ) → k < length bytes → ends (get_or bytes k 0) ≡ false) → lines_of bytes ≡ bytes ∷ []
one_line [] some none = absurd (omega arith)
one_line (byte ∷ []) some none = goes_on byte [] (none 0 (omega arith))
one_line (byte ∷ next ∷ bytes) some none =
    let rest = one_line (next ∷ bytes) (omega arith) (λ k l. none (suc k) (omega arith)) in
    goes_on byte (next ∷ bytes) (none 0 (omega arith)) ∙ ap (with_byte byte) rest

none_ends : (bytes : List ℕ) → position ends bytes ≡ None → (k : ℕ) → k < length bytes → ends (get_or bytes k 0) ≡ false
none_ends bytes e k l =
    elim (cases_lt (position_or_len ends bytes) (length bytes)) [
      | inl lt ↦
          let found : position ends bytes ≡ Some (position_or_len ends bytes) = rw (lt-ltb _ _ lt) refl in
          let never : None ≡ Some (position_or_len ends bytes) = sym e ∙ found in
          absurd cc
      | inr le ↦ fails_before_first ends bytes k 0 (omega arith)
    ]

pub no_end : (bytes : List ℕ) → position ends bytes ≡ None → 0 < length bytes → lines_of bytes ≡ bytes ∷ []
no_end bytes e some = one_line bytes some (none_ends bytes e)
