-- The fields of a line, by the places of its spaces.
use Rattle.std.proofs.Common.{◌≡◌, ◌≢◌, ℕ, ◌+◌, ◌<◌, zero, suc, Bool, true, false, List, [], ◌∷◌, length, get_or, refl, sym, ap, ◌∙◌, arith, Some, None, inl, inr, add-zero}
use Rattle.std.specs.Prelude.{take, drop, position, ◌==◌, not, filter, nat_lt}
use Rattle.std.specs.List.{position_or_len}
use Rattle.std.proofs.lemmas.Bool.{cases_lt, lt-ltb, false≢true}
use Rattle.std.proofs.lemmas.Bool.Decides.{nat_tests}
use Rattle.std.proofs.lemmas.List.{length-take, get_or-drop}
use Rattle.std.proofs.lemmas.List.Quantifiers.{position-Some}
use Rattle.std.proofs.lemmas.List.Sums.{fails_before_first}
use Rattle.fd_base.specs.Lines.{with_byte}
use Rattle.job_text.specs.Fields.{parts_of, fields_of}

abbrev parts_at : ℕ → Bool
parts_at byte = byte == 0x20

abbrev is_other : ℕ → Bool
is_other byte = not (byte == 0x20)

abbrev has_byte : List ℕ → Bool
has_byte part = nat_lt 0 (length part)

parted : (byte : ℕ) (bytes : List ℕ) → parts_at byte ≡ true → parts_of (byte ∷ bytes) ≡ [] ∷ parts_of bytes
parted byte bytes e = rw e refl

goes_on : (byte : ℕ) (bytes : List ℕ) → parts_at byte ≡ false → parts_of (byte ∷ bytes) ≡ with_byte byte (parts_of bytes)
goes_on byte bytes e = rw e refl

pub no_fields : (bytes : List ℕ) → length bytes ≡ 0 → fields_of bytes ≡ []
unfolding fields_of
no_fields [] e = refl
no_fields (byte ∷ bytes) e = absurd (omega arith)

passed : (byte : ℕ) (bytes : List ℕ) → parts_at byte ≡ true → fields_of (byte ∷ bytes) ≡ fields_of bytes
unfolding fields_of
passed byte bytes e = ap (filter has_byte) (parted byte bytes e)

is_space : (b : Bool) → not b ≡ false → b ≡ true
is_space true e = refl
is_space false e = cc

-- spaces at the front
pub fields_behind : (bytes : List ℕ) (i : ℕ) → ((k : ℕ) → k < i → is_other (get_or bytes k 0) ≡ false) → i < length bytes → fields_of (drop i bytes) ≡ fields_of bytes
fields_behind [] i spaces within = absurd (omega arith)
fields_behind (byte ∷ bytes) zero spaces within = refl
fields_behind (byte ∷ bytes) (suc i) spaces within =
    fields_behind bytes i (λ k l. spaces (suc k) (omega arith)) (omega arith) ∙ sym (passed byte bytes (is_space (byte == 0x20) (spaces 0 (omega arith))))

pub only_spaces : (bytes : List ℕ) → ((k : ℕ) → k < length bytes → is_other (get_or bytes k 0) ≡ false) → fields_of bytes ≡ []
only_spaces [] spaces = no_fields [] refl
only_spaces (byte ∷ bytes) spaces =
    passed byte bytes (is_space (byte == 0x20) (spaces 0 (omega arith))) ∙ only_spaces bytes (λ k l. spaces (suc k) (omega arith))

-- a test that no byte passes
pub none_pass : (test : ℕ → Bool) (bytes : List ℕ) → position test bytes ≡ None → (k : ℕ) → k < length bytes → test (get_or bytes k 0) ≡ false
none_pass test bytes e k l =
    elim (cases_lt (position_or_len test bytes) (length bytes)) [
      | inl lt ↦
          let found : position test bytes ≡ Some (position_or_len test bytes) = rw (lt-ltb _ _ lt) refl in
          let never : None ≡ Some (position_or_len test bytes) = sym e ∙ found in
          absurd cc
      | inr le ↦ fails_before_first test bytes k 0 (omega arith)
    ]

split_there : (bytes : List ℕ) (i : ℕ) → i < length bytes → parts_at (get_or bytes i 0) ≡ true → ((k : ℕ) → k < i → parts_at (get_or bytes k 0) ≡ false)
    → parts_of bytes ≡ take i bytes ∷ parts_of (drop (suc i) bytes)
split_there [] i lt here before = absurd (omega arith)
split_there (byte ∷ bytes) zero lt here before = parted byte bytes here
split_there (byte ∷ bytes) (suc i) lt here before =
    let rest = split_there bytes i (omega arith) here (λ k l. before (suc k) (omega arith)) in
    goes_on byte bytes (before 0 (omega arith)) ∙ ap (with_byte byte) rest

one_part : (bytes : List ℕ) → 0 < length bytes → ((k : ℕ) → k < length bytes → parts_at (get_or bytes k 0) ≡ false) → parts_of bytes ≡ bytes ∷ []
one_part [] some none = absurd (omega arith)
one_part (byte ∷ []) some none = goes_on byte [] (none 0 (omega arith))
one_part (byte ∷ next ∷ bytes) some none =
    let rest = one_part (next ∷ bytes) (omega arith) (λ k l. none (suc k) (omega arith)) in
    goes_on byte (next ∷ bytes) (none 0 (omega arith)) ∙ ap (with_byte byte) rest

kept : (part : List ℕ) (parts : List (List ℕ)) → 0 < length part → filter has_byte (part ∷ parts) ≡ part ∷ filter has_byte parts
kept part parts some = rw (lt-ltb 0 (length part) some) refl

-- no space stands first
not_first : (bytes : List ℕ) (i : ℕ) → parts_at (get_or bytes i 0) ≡ true → get_or bytes 0 0 ≢ 0x20 → 0 < i
not_first bytes zero here other = absurd (other (grind (arith, nat_tests)))
not_first bytes (suc i) here other = omega arith

-- a first field that a space ends
pub fields_at_space : (bytes : List ℕ) (i : ℕ) → position parts_at bytes ≡ Some i → get_or bytes 0 0 ≢ 0x20 → fields_of bytes ≡ take i bytes ∷ fields_of (drop (i + 1) bytes)
unfolding fields_of
fields_at_space bytes i e other =
    let s = position-Some parts_at bytes i 0 e in
    let some : 0 < i = not_first bytes i s.1 other in
    let long : 0 < length (take i bytes) = omega (arith, length-take i bytes, s.0) in
    let next : i + 1 ≡ suc i = omega arith in
    rw next (ap (filter has_byte) (split_there bytes i s.0 s.1 s.2) ∙ kept (take i bytes) (parts_of (drop (suc i) bytes)) long)

-- a first field that is all of the bytes
pub fields_no_space : (bytes : List ℕ) → position parts_at bytes ≡ None → 0 < length bytes → fields_of bytes ≡ bytes ∷ fields_of []
unfolding fields_of
fields_no_space bytes e some = ap (filter has_byte) (one_part bytes some (none_pass parts_at bytes e)) ∙ kept bytes [] some

-- the first byte that is no space
pub at_other : (bytes : List ℕ) (i : ℕ) → position is_other bytes ≡ Some i → fields_of (drop i bytes) ≡ fields_of bytes
at_other bytes i e = let s = position-Some is_other bytes i 0 e in fields_behind bytes i s.2 s.0

pub other_first : (bytes : List ℕ) (i : ℕ) → position is_other bytes ≡ Some i → get_or (drop i bytes) 0 0 ≢ 0x20
other_first bytes i e space =
    let s = position-Some is_other bytes i 0 e in
    let at : get_or bytes (i + 0) 0 ≡ 0x20 = sym (get_or-drop i bytes 0 0) ∙ space in
    let same : get_or bytes i 0 ≡ 0x20 = rw add-zero at at in
    let test : is_other (get_or bytes i 0) ≡ false = rw same refl in
    false≢true (sym test ∙ s.1)

pub no_other : (bytes : List ℕ) → position is_other bytes ≡ None → fields_of bytes ≡ []
no_other bytes e = only_spaces bytes (none_pass is_other bytes e)
