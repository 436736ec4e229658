-- Bytes that hold others at a place.
use Rattle.std.proofs.Common.{◌≡◌, ℕ, ◌+◌, ◌-◌, ◌*◌, ◌^◌, ◌<◌, ◌≤◌, zero, suc, List, [], ◌∷◌, ◌++◌, length, get_or, take, drop, refl, sym, ap, ◌∙◌, subst, arith, append_assoc, length-append, append-nil, add-zero, drop-drop}
use Rattle.std.specs.Prelude.{slice_index, slice_range}
use Rattle.std.proofs.Math.Seq.{drop-append_seam, take-append_seam}
use Rattle.std.proofs.lemmas.List.{get_or-drop, get_or_append_left}
use Rattle.byteorder.specs.Endian.{little_bytes, little_number}
use Rattle.fd_base.specs.Words.{word_in, half_in, word_bytes}
use Rattle.fd_base.proofs.Putting.{half_in-bytes}
use Rattle.elf_write.specs.Words.{halves}

pub record Holds (bytes : List ℕ) (at : ℕ) (chunk : List ℕ) : Type 0 where
  pub rest : List ℕ
  pub is : drop at bytes ≡ chunk ++ rest
  pub inside : at + length chunk ≤ length bytes

pub front : (bytes : List ℕ) (at : ℕ) (a b : List ℕ) → Holds bytes at (a ++ b) → Holds bytes at a
front bytes at a b h = record { rest = b ++ h.rest; is = h.is ∙ append_assoc a b h.rest; inside = let l = length-append a b in let i = h.inside in omega arith }

pub behind : (bytes : List ℕ) (at : ℕ) (a b : List ℕ) → Holds bytes at (a ++ b) → Holds bytes (at + length a) b
behind bytes at a b h = record {
  rest = h.rest;
  is = sym (drop-drop (length a) at bytes) ∙ ap (drop (length a)) (h.is ∙ append_assoc a b h.rest) ∙ drop-append_seam a (b ++ h.rest);
  inside = let l = length-append a b in let i = h.inside in omega arith;
}

-- the same where the first part is known to end
pub behind_at : (bytes : List ℕ) (at end : ℕ) (a b : List ℕ) → Holds bytes at (a ++ b) → at + length a ≡ end → Holds bytes end b
behind_at bytes at end a b h is = subst (λ n. Holds bytes n b) is (behind bytes at a b h)

pub whole : (bytes : List ℕ) → Holds bytes 0 bytes
whole bytes = record { rest = []; is = sym (append-nil bytes); inside = omega arith }

-- the bytes from one place to another
pub taken : (bytes : List ℕ) (at n : ℕ) (chunk : List ℕ) → Holds bytes at chunk → length chunk ≡ n → slice_range bytes at (at + n) ≡ chunk
taken bytes at n chunk h is =
    let e : (at + n) - at ≡ length chunk = omega (arith, is) in
    ap (λ k. take k (drop at bytes)) e ∙ ap (take (length chunk)) h.is ∙ take-append_seam chunk h.rest

-- ---- numbers

pub byte_held : (bytes : List ℕ) (at k : ℕ) (chunk : List ℕ) → Holds bytes at chunk → k < length chunk → slice_index bytes (at + k) ≡ get_or chunk k 0
byte_held bytes at k chunk h lt = sym (get_or-drop at bytes k 0) ∙ ap (λ s. get_or s k 0) h.is ∙ get_or_append_left chunk h.rest 0 k lt

four : (n : ℕ) (rest : List ℕ) → n < 2 ^ 32 → little_number 4 (little_bytes 4 n ++ rest) ≡ n
four n rest h = omega arith

pub word_held : (bytes : List ℕ) (at n : ℕ) → Holds bytes at (little_bytes 4 n) → n < 2 ^ 32 → word_in bytes at ≡ n
unfolding word_in
word_held bytes at n h l = ap (little_number 4) h.is ∙ four n h.rest l

-- the word k of a row of words
pub row_held : (bytes : List ℕ) (at : ℕ) (ws : List ℕ) (k : ℕ) → Holds bytes at (word_bytes ws) → k < length ws → Holds bytes (at + 4 * k) (little_bytes 4 (get_or ws k 0))
row_held bytes at [] k h l = absurd (omega arith)
row_held bytes at (w ∷ ws) zero h l =
    let here : at + 4 * 0 ≡ at = omega arith in
    rw here (front bytes at (little_bytes 4 w) (word_bytes ws) h)
row_held bytes at (w ∷ ws) (suc k) h l =
    let there : at + 4 * suc k ≡ (at + 4) + 4 * k = omega arith in
    rw there (row_held bytes (at + 4) ws k (behind bytes at (little_bytes 4 w) (word_bytes ws) h) (omega arith))

pub words_held : (bytes : List ℕ) (at : ℕ) (ws : List ℕ) (k : ℕ) → Holds bytes at (word_bytes ws) → k < length ws → get_or ws k 0 < 2 ^ 32 → word_in bytes (at + 4 * k) ≡ get_or ws k 0
words_held bytes at ws k h l fits = word_held bytes (at + 4 * k) (get_or ws k 0) (row_held bytes at ws k h l) fits

-- the two halfwords of a word
pub halves_held : (bytes : List ℕ) (at low high : ℕ) → Holds bytes at (little_bytes 4 (halves low high)) → low < 2 ^ 16 → high < 2 ^ 16 → (half_in bytes at ≡ low) × (half_in bytes (at + 2) ≡ high)
halves_held bytes at low high h l m =
    let w = little_bytes 4 (halves low high) in
    let a : slice_index bytes (at + 0) ≡ get_or w 0 0 = byte_held bytes at 0 w h (omega arith) in
    let b : slice_index bytes (at + 1) ≡ get_or w 1 0 = byte_held bytes at 1 w h (omega arith) in
    let c : slice_index bytes (at + 2) ≡ get_or w 2 0 = byte_held bytes at 2 w h (omega arith) in
    let d : slice_index bytes (at + 3) ≡ get_or w 3 0 = byte_held bytes at 3 w h (omega arith) in
    let a' : slice_index bytes at ≡ get_or w 0 0 = ap (slice_index bytes) (sym (add-zero at)) ∙ a in
    let d' : slice_index bytes ((at + 2) + 1) ≡ get_or w 3 0 = let e : (at + 2) + 1 ≡ at + 3 = omega arith in ap (slice_index bytes) e ∙ d in (
      half_in-bytes bytes at ∙ (let e : slice_index bytes at + 256 * slice_index bytes (at + 1) ≡ low = rw (a', b) (omega arith) in e),
      half_in-bytes bytes (at + 2) ∙ (let e : slice_index bytes (at + 2) + 256 * slice_index bytes ((at + 2) + 1) ≡ high = rw (c, d') (omega arith) in e),
    )

pub length-words : (ws : List ℕ) → length (word_bytes ws) ≡ 4 * length ws
length-words [] = refl
length-words (w ∷ ws) = length-append (little_bytes 4 w) (word_bytes ws) ∙ ap (λ n. 4 + n) (length-words ws) ∙ (let e : 4 + 4 * length ws ≡ 4 * suc (length ws) = omega arith in e)
