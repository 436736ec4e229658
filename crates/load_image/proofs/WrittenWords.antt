-- Words that are written over bytes.
use Rattle.std.proofs.Common.{◌≡◌, ℕ, ◌+◌, ◌-◌, ◌<◌, ◌≤◌, ◌⊎◌, inl, inr, true, false, cond, ltb, leb, List, length, get_or, slice_index, drop, sym, ap, ◌∙◌, arith, All}
use Rattle.std.specs.Int.{w32, to_le_bytes}
use Rattle.std.proofs.lemmas.Bool.{cases_Bool, and_parts, and_cases, and_from, and_left, and_right, leb-true, leb-false, ltb-true, ltb-false, le-leb, lt-leb, lt-ltb, le-ltb, cond-true, cond-false}
use Rattle.std.proofs.lemmas.List.{at_drop_more, places}
use Rattle.fd_base.specs.Words.{with_word}
use Rattle.fd_base.proofs.Putting.{with_word-other}
use Rattle.load_model.specs.declared.words.LinkWord.{LinkWord}
use Rattle.load_model.specs.Image.{is_in_word, byte_over}
use Rattle.load_image.specs.parts.Bounds.{IsWordWhole}

-- what a word covers
pub in_word : (w : LinkWord) (v : ℕ) → is_in_word w v ≡ true → (w.addr ≤ v) × (v < w.addr + 4)
in_word w v h =
    let parts = and_parts (leb w.addr v) (ltb v (w.addr + 4)) h in
    (leb-true w.addr v parts.0, ltb-true v (w.addr + 4) parts.1)

pub off_word : (w : LinkWord) (v : ℕ) → is_in_word w v ≡ false → (v < w.addr) ⊎ (w.addr + 4 ≤ v)
off_word w v h =
    elim (and_cases (leb w.addr v) (ltb v (w.addr + 4)) h) [
      | inl below ↦ inl (leb-false w.addr v below)
      | inr above ↦ inr (ltb-false v (w.addr + 4) above)
    ]

pub is_in : (w : LinkWord) (v : ℕ) → w.addr ≤ v → v < w.addr + 4 → is_in_word w v ≡ true
is_in w v above below = and_from (leb w.addr v) (ltb v (w.addr + 4)) (le-leb w.addr v above) (lt-ltb v (w.addr + 4) below)

pub is_off : (w : LinkWord) (v : ℕ) → (v < w.addr) ⊎ (w.addr + 4 ≤ v) → is_in_word w v ≡ false
is_off w v off =
    elim off [
      | inl below ↦ and_left (leb w.addr v) (ltb v (w.addr + 4)) (lt-leb w.addr v below)
      | inr above ↦ and_right (leb w.addr v) (ltb v (w.addr + 4)) (le-ltb v (w.addr + 4) above)
    ]

-- a byte of a word that was put
with_word-inside : (bytes : List ℕ) (at v i : ℕ) → at + 4 ≤ length bytes → at ≤ i → i < at + 4
    → slice_index (with_word bytes at v) i ≡ slice_index (to_le_bytes w32 v) (i - at)
with_word-inside bytes at v i fits above below = grind (arith, places)

-- the byte at a link address after a word was put
put_byte : (bytes : List ℕ) (w : LinkWord) (vaddr i rest : ℕ) → vaddr ≤ w.addr → w.addr - vaddr + 4 ≤ length bytes → slice_index bytes i ≡ rest
    → slice_index (with_word bytes (w.addr - vaddr) w.value) i ≡ cond (is_in_word w (vaddr + i)) (slice_index (to_le_bytes w32 w.value) (vaddr + i - w.addr)) rest
put_byte bytes w vaddr i rest above fits is =
    let at = w.addr - vaddr in
    let new = slice_index (with_word bytes at w.value) i in
    let word = slice_index (to_le_bytes w32 w.value) (vaddr + i - w.addr) in
    elim (cases_Bool (is_in_word w (vaddr + i))) [
      | inl inside ↦
          let here = in_word w (vaddr + i) inside in
          let place : i - at ≡ vaddr + i - w.addr = omega (arith, here.0) in
          let same : new ≡ word = with_word-inside bytes at w.value i fits (omega (arith, here.0)) (omega (arith, here.1)) ∙ ap (slice_index (to_le_bytes w32 w.value)) place in
          same ∙ sym (cond-true (is_in_word w (vaddr + i)) word rest inside)
      | inr outside ↦
          let off : (i < at) ⊎ (at + 4 ≤ i) = elim (off_word w (vaddr + i) outside) [ inl h ↦ inl (omega arith) | inr h ↦ inr (omega arith) ] in
          with_word-other bytes at w.value i fits off ∙ is ∙ sym (cond-false (is_in_word w (vaddr + i)) word rest outside)
    ]

-- a word that begins in the bytes lies in them
whole_fits : (w : LinkWord) (vaddr len : ℕ) → IsWordWhole vaddr len w → vaddr ≤ w.addr → w.addr < vaddr + len → w.addr - vaddr + 4 ≤ len
whole_fits w vaddr len whole above below =
    elim whole [
      | inl inside ↦ omega (arith, inside.1)
      | inr outside ↦ elim outside [ inl h ↦ absurd (omega arith) | inr h ↦ absurd (omega arith) ]
    ]

-- one more word is written, in front of those behind it
pub written_more : (words : List LinkWord) (below : ℕ → ℕ) (left i vaddr : ℕ) (bytes : List ℕ) (d : LinkWord)
    → 0 < left → left ≤ length words → All (IsWordWhole vaddr (length bytes)) words
    → vaddr ≤ (get_or words (left - 1) d).addr → (get_or words (left - 1) d).addr < vaddr + length bytes
    → slice_index bytes i ≡ byte_over (drop left words) below (vaddr + i)
    → slice_index (with_word bytes ((get_or words (left - 1) d).addr - vaddr) (get_or words (left - 1) d).value) i ≡ byte_over (drop (left - 1) words) below (vaddr + i)
written_more words below left i vaddr bytes d some within whole above under was =
    let k = left - 1 in
    let w = get_or words k d in
    let next : left ≡ k + 1 = omega arith in
    let lt : k < length words = omega arith in
    let fits = whole_fits w vaddr (length bytes) (whole k d lt) above under in
    put_byte bytes w vaddr i (byte_over (drop (k + 1) words) below (vaddr + i)) above fits (was ∙ ap (λ n. byte_over (drop n words) below (vaddr + i)) next)
    ∙ sym (at_drop_more (λ ws. byte_over ws below (vaddr + i)) words k d lt)
