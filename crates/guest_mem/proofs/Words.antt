-- Words one after another.
use Rattle.std.proofs.Common.{◌≡◌, ℕ, zero, suc, ◌+◌, ◌*◌, List, [], ◌∷◌, ◌++◌, length, drop, refl, ap, ◌∙◌, arith, add-one}
use Rattle.std.specs.List.{flat_map}
use Rattle.byteorder.specs.Endian.{little_number, little_bytes}
use Rattle.guest_mem.specs.Accesses.{words_in}

pub length-words : (values : List ℕ) → length (flat_map (little_bytes 4) values) ≡ 4 * length values
length-words [] = refl
length-words (v ∷ vs) = let rest = length-words vs in omega arith

pub ruleset lengths = (length-words)

words_in-suc : (bytes : List ℕ) (a n : ℕ) → words_in bytes a (suc n) ≡ words_in bytes a n ++ little_number 4 (drop (a + 4 * n) bytes) ∷ []
words_in-suc bytes a zero = ap (λ b. little_number 4 (drop b bytes) ∷ []) (omega arith)
words_in-suc bytes a (suc n) =
    let next : a + 4 + 4 * n ≡ a + 4 * suc n = omega arith in
    ap (λ ws. little_number 4 (drop a bytes) ∷ ws) (words_in-suc bytes (a + 4) n)
    ∙ ap (λ b. little_number 4 (drop a bytes) ∷ (words_in bytes (a + 4) n ++ little_number 4 (drop b bytes) ∷ [])) next

pub words_in-more : (bytes : List ℕ) (a n : ℕ) → words_in bytes a (n + 1) ≡ words_in bytes a n ++ little_number 4 (drop (a + 4 * n) bytes) ∷ []
words_in-more bytes a n = ap (words_in bytes a) (add-one n) ∙ words_in-suc bytes a n
