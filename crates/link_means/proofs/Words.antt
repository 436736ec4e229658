-- The bytes of words.
use Rattle.std.proofs.Common.{◌≡◌, ℕ, zero, suc, ◌+◌, ◌*◌, ◌%◌, ◌^◌, ◌<◌, List, [], ◌∷◌, get_or, slice_index, refl, sym, ap, ◌∙◌, arith}
use Rattle.std.specs.Int.{w32, to_le_bytes}
use Rattle.std.proofs.lemmas.List.{get_or-drop}
use Rattle.fd_base.specs.Words.{word_in}
use Rattle.link_sites.specs.Loaded.{HoldsWord}

-- a number below 256 for each byte
low_bytes : (a b c d i : ℕ) → a < 256 → b < 256 → c < 256 → d < 256 → i < 4
    → get_or (a ∷ b ∷ c ∷ d ∷ []) i 0 ≡ slice_index (to_le_bytes w32 (a + 256 * (b + 256 * (c + 256 * (d + 256 * 0))))) i
low_bytes a b c d zero p q r s lt = omega arith
low_bytes a b c d (suc zero) p q r s lt = omega arith
low_bytes a b c d (suc (suc zero)) p q r s lt = omega arith
low_bytes a b c d (suc (suc (suc zero))) p q r s lt = omega arith
low_bytes a b c d (suc (suc (suc (suc n)))) p q r s lt = absurd (omega arith)

-- the word of four bytes has these
pub bytes_of_word : (bytes : List ℕ) (at i : ℕ) → ((k : ℕ) → get_or bytes k 0 < 256) → i < 4 → slice_index bytes (at + i) ≡ slice_index (to_le_bytes w32 (word_in bytes at)) i
unfolding word_in
bytes_of_word bytes at i small lt =
    let a = get_or-drop at bytes 0 0 in
    let b = get_or-drop at bytes 1 0 in
    let c = get_or-drop at bytes 2 0 in
    let d = get_or-drop at bytes 3 0 in
    let word : word_in bytes at ≡ f 0 + 256 * (f 1 + 256 * (f 2 + 256 * (f 3 + 256 * 0))) = λ j. a j + 256 * (b j + 256 * (c j + 256 * (d j + 256 * 0))) in
    here i lt ∙ low_bytes (f 0) (f 1) (f 2) (f 3) i (small (at + 0)) (small (at + 1)) (small (at + 2)) (small (at + 3)) lt
    ∙ ap (λ w. slice_index (to_le_bytes w32 w) i) (sym word)
  where
    f : ℕ → ℕ
    f k = get_or bytes (at + k) 0

    here : (j : ℕ) → j < 4 → slice_index bytes (at + j) ≡ get_or (f 0 ∷ f 1 ∷ f 2 ∷ f 3 ∷ []) j 0
    here zero l = refl
    here (suc zero) l = refl
    here (suc (suc zero)) l = refl
    here (suc (suc (suc zero))) l = refl
    here (suc (suc (suc (suc n)))) l = absurd (omega arith)

-- ---- words are cut to 32 bits

same_bytes : (a b i : ℕ) → a % 2 ^ 32 ≡ b % 2 ^ 32 → i < 4 → slice_index (to_le_bytes w32 a) i ≡ slice_index (to_le_bytes w32 b) i
same_bytes a b zero same lt = omega (arith, same)
same_bytes a b (suc zero) same lt = omega (arith, same)
same_bytes a b (suc (suc zero)) same lt = omega (arith, same)
same_bytes a b (suc (suc (suc zero))) same lt = omega (arith, same)
same_bytes a b (suc (suc (suc (suc n)))) same lt = absurd (omega arith)

pub holds_same : (byte_at : ℕ → ℕ) (v a b : ℕ) → a % 2 ^ 32 ≡ b % 2 ^ 32 → HoldsWord byte_at v a → HoldsWord byte_at v b
holds_same byte_at v a b same holds = λ i lt. holds i lt ∙ same_bytes a b i same lt
