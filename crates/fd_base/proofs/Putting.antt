-- A word that is put into bytes is read back, and the other bytes stay.
use Rattle.std.proofs.Common.{◌≡◌, ℕ, ◌+◌, ◌-◌, ◌*◌, ◌^◌, ◌<◌, ◌≤◌, ◌⊎◌, zero, suc, inl, inr, Some, sym, add-zero, List, [], ◌++◌, length, take, drop, slice_index, refl, ap, ◌∙◌, arith}
use Rattle.std.proofs.lemmas.List.{append-nil, append_assoc, drop_at, drop_all, drop-drop, take_rest, length-take-le, length-drop, get_or-drop, places}
use Rattle.std.proofs.lemmas.Bool.{le-leb}
use Rattle.byteorder.specs.Endian.{little_number, little_from, little_bytes}
use Rattle.byteorder.specs.Numbers.{little_number-reads_back, little_from-lt}
use Rattle.fd_base.specs.Words.{word_in, half_in, word_at, half_at, with_word}
use borrow.Rule.Slice.PartMut.{put_mid}

-- what is written at the front of the bytes from a place on
pub put_rest : (bytes word part : List ℕ) (at : ℕ) → at ≤ length bytes
    → part ≡ word ++ drop (length word) (take (length bytes - at) (drop at bytes))
    → put_mid at (length bytes - at) bytes part ≡ take at bytes ++ word ++ drop (at + length word) bytes
put_rest bytes word part at fits e =
    let none : drop (length bytes - at) (drop at bytes) ≡ [] = drop_all (length bytes - at) (drop at bytes) (omega (arith, length-drop at bytes)) in
    rw (e, none, take_rest, drop-drop, append-nil, append_assoc) refl

-- the length stays
pub length-with_word : (bytes : List ℕ) (at v : ℕ) → at + 4 ≤ length bytes → length (with_word bytes at v) ≡ length bytes
length-with_word bytes at v fits = grind (arith, places)

-- a byte that isn't of the word stays
pub with_word-other : (bytes : List ℕ) (at v place : ℕ) → at + 4 ≤ length bytes → (place < at) ⊎ (at + 4 ≤ place)
    → slice_index (with_word bytes at v) place ≡ slice_index bytes place
with_word-other bytes at v place fits apart = grind (arith, places)

-- the word is read back
pub word_in-with_word : (bytes : List ℕ) (at v : ℕ) → at + 4 ≤ length bytes → v < 2 ^ 32 → word_in (with_word bytes at v) at ≡ v
unfolding word_in
word_in-with_word bytes at v fits small =
    let front : length (take at bytes) ≡ at = length-take-le at bytes (omega arith) in
    let rest : drop at (with_word bytes at v) ≡ little_bytes 4 v ++ drop (at + 4) bytes =
    ap (drop at) (append_assoc (take at bytes) (little_bytes 4 v) (drop (at + 4) bytes)) ∙ drop_at (take at bytes) (little_bytes 4 v ++ drop (at + 4) bytes) at front in
    ap (little_number 4) rest ∙ little_number-reads_back 4 v (drop (at + 4) bytes) small

-- a word's bytes, from the lowest
pub word_in-bytes : (bytes : List ℕ) (at : ℕ) → word_in bytes at ≡ slice_index bytes at + 256 * (slice_index bytes (at + 1) + 256 * (slice_index bytes (at + 2) + 256 * slice_index bytes (at + 3)))
unfolding word_in
word_in-bytes bytes at = simp (get_or-drop, add-zero) refl

-- bytes that are the same at these places make the same number
same_number : (i n base : ℕ) (xs ys : List ℕ) → ((k : ℕ) → k < i + n → slice_index xs (base + k) ≡ slice_index ys (base + k))
    → little_from i n (drop base xs) ≡ little_from i n (drop base ys)
same_number i zero base xs ys same = refl
same_number i (suc n) base xs ys same =
    let here : slice_index (drop base xs) i ≡ slice_index (drop base ys) i =
    get_or-drop base xs i 0 ∙ same i (omega arith) ∙ sym (get_or-drop base ys i 0) in
    let rest = same_number (suc i) n base xs ys (λ k lt. same k (omega arith)) in
    ap (λ a. a + 256 * little_from (suc i) n (drop base xs)) here ∙ ap (λ r. slice_index (drop base ys) i + 256 * r) rest

-- a word or a halfword of width n that doesn't meet the word that was put is read as before
apart : (bytes : List ℕ) (at v other n : ℕ) → at + 4 ≤ length bytes → (other + n ≤ at) ⊎ (at + 4 ≤ other)
    → little_number n (drop other (with_word bytes at v)) ≡ little_number n (drop other bytes)
apart bytes at v other n fits (inl below) = same_number 0 n other (with_word bytes at v) bytes (λ k lt. with_word-other bytes at v (other + k) fits (inl (omega arith)))
apart bytes at v other n fits (inr above) = same_number 0 n other (with_word bytes at v) bytes (λ k lt. with_word-other bytes at v (other + k) fits (inr (omega arith)))

pub word_in-with_word-other : (bytes : List ℕ) (at v other : ℕ) → at + 4 ≤ length bytes → (other + 4 ≤ at) ⊎ (at + 4 ≤ other)
    → word_in (with_word bytes at v) other ≡ word_in bytes other
unfolding word_in
word_in-with_word-other bytes at v other fits away = apart bytes at v other 4 fits away

pub half_in-with_word-other : (bytes : List ℕ) (at v other : ℕ) → at + 4 ≤ length bytes → (other + 2 ≤ at) ⊎ (at + 4 ≤ other)
    → half_in (with_word bytes at v) other ≡ half_in bytes other
unfolding half_in
half_in-with_word-other bytes at v other fits away = apart bytes at v other 2 fits away

-- the same of `word_at` and `half_at`
pub word_at-with_word : (bytes : List ℕ) (at v : ℕ) → at + 4 ≤ length bytes → v < 2 ^ 32 → word_at (with_word bytes at v) at ≡ Some v
word_at-with_word bytes at v fits small =
    rw (length-with_word bytes at v fits, le-leb (at + 4) (length bytes) fits, word_in-with_word bytes at v fits small) refl

pub word_at-with_word-other : (bytes : List ℕ) (at v other : ℕ) → at + 4 ≤ length bytes → (other + 4 ≤ at) ⊎ (at + 4 ≤ other)
    → word_at (with_word bytes at v) other ≡ word_at bytes other
word_at-with_word-other bytes at v other fits away =
    rw (length-with_word bytes at v fits, word_in-with_word-other bytes at v other fits away) refl

pub half_at-with_word-other : (bytes : List ℕ) (at v other : ℕ) → at + 4 ≤ length bytes → (other + 2 ≤ at) ⊎ (at + 4 ≤ other)
    → half_at (with_word bytes at v) other ≡ half_at bytes other
half_at-with_word-other bytes at v other fits away =
    rw (length-with_word bytes at v fits, half_in-with_word-other bytes at v other fits away) refl

pub half_in-bytes : (bytes : List ℕ) (at : ℕ) → half_in bytes at ≡ slice_index bytes at + 256 * slice_index bytes (at + 1)
unfolding half_in
half_in-bytes bytes at = simp (get_or-drop, add-zero) refl

-- the word of bytes is one of 32 bits
pub word_in-lt : (bytes : List ℕ) (at : ℕ) → ((i : ℕ) → slice_index bytes i < 256) → word_in bytes at < 2 ^ 32
unfolding word_in
word_in-lt bytes at small = little_from-lt 0 4 (drop at bytes) (λ k. rw (get_or-drop at bytes k 0) (small (at + k)))

pub half_in-lt : (bytes : List ℕ) (at : ℕ) → ((i : ℕ) → slice_index bytes i < 256) → half_in bytes at < 2 ^ 16
unfolding half_in
half_in-lt bytes at small = little_from-lt 0 2 (drop at bytes) (λ k. rw (get_or-drop at bytes k 0) (small (at + k)))
