-- Names among strings, and what is read of them.
use Rattle.std.proofs.Common.{◌≡◌, ℕ, ◌+◌, ◌<◌, ◌≤◌, Bool, true, false, not, cond, ltb, List, [], ◌∷◌, ◌++◌, length, take, drop, refl, ap, ◌∙◌, arith, Option, Some, None, append_assoc, length-append}
use Rattle.std.specs.Prelude.{position, option_map, option_and_then, ◌==◌, nat_lt, nat_le, is_none, IfSome}
use Rattle.std.specs.List.{position_or_len}
use Rattle.std.proofs.Math.Seq.{take-append_seam}
use Rattle.std.proofs.lemmas.Bool.{ltb-false, eqb-false, lt-ltb, le-leb, eq-eqb}
use Rattle.std.proofs.lemmas.List.Folds.{prefix_len-append}
use Rattle.std.proofs.lemmas.List.Sums.{prefix_len-le-length}
use Rattle.fd_base.proofs.Options.{cond_none_parts}
use Rattle.fd_base.specs.Name.{first_zero}
use Rattle.fd_base.specs.declared.name.NameErr.TheVariants.{Empty, TooLong, Zero}
use Rattle.elf_model.specs.Strings.{text_at, string_at, name_at, if_some_byte}
use Rattle.elf_model.specs.RelSound.{IsNameText}
use Rattle.elf_write.specs.Strings.{name_bytes, place_of}
use Rattle.write_laws.proofs.Holding.{Holds}

abbrev is_zero : ℕ → Bool
is_zero b = b == 0

none_before : (o : Option ℕ) → option_map Zero o ≡ None → o ≡ None
none_before None e = refl
none_before (Some n) e = absurd cc

-- what a name is
record IsText (text : List ℕ) : Type 0 where
  pub some : 0 < length text
  pub short : length text ≤ 255
  pub no_zero : position_or_len is_zero text ≡ length text

text_of_name : (text : List ℕ) → IsNameText text → IsText text
text_of_name text n =
    let one = cond_none_parts (length text == 0) Empty (cond (nat_lt 255 (length text)) (Some TooLong) (option_map Zero (first_zero text))) n in
    let two = cond_none_parts (nat_lt 255 (length text)) TooLong (option_map Zero (first_zero text)) one.1 in
    let zero' : first_zero text ≡ None = none_before (first_zero text) two.1 in
    let outside = cond_none_parts (ltb (position_or_len is_zero text) (length text)) (position_or_len is_zero text) None zero' in
    let le = ltb-false (position_or_len is_zero text) (length text) outside.0 in
    let ge = prefix_len-le-length (λ b. not (is_zero b)) text in
    let some = eqb-false (length text) 0 one.0 in
    record { some = omega (arith, some); short = ltb-false 255 (length text) two.0; no_zero = omega (arith, le, ge) }

zero_behind : (text rest : List ℕ) → position_or_len is_zero text ≡ length text → position_or_len is_zero (text ++ (0 ∷ rest)) ≡ length text
zero_behind text rest is =
    prefix_len-append (λ b. not (is_zero b)) text (0 ∷ rest) ∙ ap (λ b. cond b (length text + 0) (position_or_len is_zero text)) (eq-eqb (position_or_len is_zero text) (length text) is) ∙ (let e : length text + 0 ≡ length text = omega arith in e)

text_read : (strings : List ℕ) (at : ℕ) (text : List ℕ) → Holds strings at (text ++ 0 ∷ []) → position_or_len is_zero text ≡ length text → text_at strings at ≡ Some text
unfolding text_at
text_read strings at text h no_zero =
    let from : drop at strings ≡ text ++ (0 ∷ h.rest) = h.is ∙ append_assoc text (0 ∷ []) h.rest in
    let place : position_or_len is_zero (text ++ (0 ∷ h.rest)) ≡ length text = zero_behind text h.rest no_zero in
    let within : ltb (length text) (length (text ++ (0 ∷ h.rest))) ≡ true = lt-ltb _ _ (omega (arith, length-append text (0 ∷ h.rest))) in
    let found : position is_zero (text ++ (0 ∷ h.rest)) ≡ Some (length text) = rw (place, within) refl in
    ap (λ s. option_map (λ n. take n s) (position is_zero s)) from ∙ ap (option_map (λ n. take n (text ++ (0 ∷ h.rest)))) found ∙ ap Some (take-append_seam text (0 ∷ h.rest))

string_read : (strings : List ℕ) (at : ℕ) (text : List ℕ) → Holds strings at (text ++ 0 ∷ []) → position_or_len is_zero text ≡ length text → length text ≤ 255 → string_at strings at ≡ Some text
unfolding string_at
string_read strings at text h no_zero short =
    ap (option_and_then (λ text. cond (nat_le (length text) 255) (Some text) None)) (text_read strings at text h no_zero) ∙ ap (λ b. cond b (Some text) None) (le-leb (length text) 255 short)

-- the string at a name's place is read, and it is the name
pub record IsReadAs (strings : List ℕ) (at : ℕ) (name : Option (List ℕ)) : Type 0 where
  pub readable : is_none (string_at strings at) ≡ false
  pub is_name : name_at strings at ≡ name

pub name_read : (strings : List ℕ) (at : ℕ) (name : Option (List ℕ)) → Holds strings 0 (0 ∷ []) → Holds strings at (name_bytes name) → IfSome name IsNameText → IsReadAs strings (place_of at name) name
unfolding name_at
name_read strings at None first h n =
    let s = string_read strings 0 [] first refl (omega arith) in
    record { readable = ap is_none s; is_name = ap (option_and_then if_some_byte) s }
name_read strings at (Some text) first h n =
    let t = text_of_name text n in
    let s = string_read strings at text h t.no_zero t.short in
    record { readable = ap is_none s; is_name = ap (option_and_then if_some_byte) s ∙ ap (λ b. cond b (Some text) None) (lt-ltb 0 (length text) t.some) }
