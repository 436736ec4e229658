-- What is read one after the other.
use Rattle.std.proofs.Common.{◌≡◌, ℕ, ◌+◌, Bool, true, false, cond, List, [], ◌∷◌, ◌++◌, map, sym, ap, ◌∙◌, arith, append-nil}
use Rattle.std.specs.Prelude.{filter}
use Rattle.std.specs.List.{range_with_len}
use Rattle.std.proofs.lemmas.List.{map-append}
use Rattle.std.proofs.lemmas.List.Elements.{filter-append}
use Rattle.std.proofs.lemmas.List.FromFn.{map-range_with_len_more}
use Rattle.fd_base.proofs.Lists.{range_more}
use Rattle.elf_model.specs.declared.object.Symbol.{Symbol}
use Rattle.elf_model.specs.Symbols.{symbol_entry_of, null_symbol}
use Rattle.elf_model.specs.RelSymbols.{rel_symbol_of}

-- one more symbol
pub symbols_more : (bytes : List ℕ) (first k : ℕ) (symbols : List Symbol) (s : Symbol) → symbols ≡ null_symbol ∷ map (λ i. rel_symbol_of bytes (symbol_entry_of bytes first i)) (range_with_len 1 k)
    → s ≡ rel_symbol_of bytes (symbol_entry_of bytes first (k + 1)) → symbols ++ s ∷ [] ≡ null_symbol ∷ map (λ i. rel_symbol_of bytes (symbol_entry_of bytes first i)) (range_with_len 1 (k + 1))
symbols_more bytes first k symbols s so_far here =
    rw (so_far, here) (ap (λ (ss : List Symbol). null_symbol ∷ ss) (sym (map-range_with_len_more (λ i. rel_symbol_of bytes (symbol_entry_of bytes first i)) 1 k (k + 1) (omega arith))))

-- ---- numbers that pass a test, and what is made of them

filter_more : (p : ℕ → Bool) (n : ℕ) → filter p (range_with_len 0 (n + 1)) ≡ filter p (range_with_len 0 n) ++ cond (p n) (n ∷ []) []
filter_more p n = ap (filter p) (range_more n) ∙ filter-append p (range_with_len 0 n) (n ∷ [])

module _ {X : Type 0} (p : ℕ → Bool) (f : ℕ → X) (n : ℕ) (xs : List X) where
  pub one_more : (x : X) → p n ≡ true → x ≡ f n → xs ≡ map f (filter p (range_with_len 0 n)) → xs ++ x ∷ [] ≡ map f (filter p (range_with_len 0 (n + 1)))
  one_more x passes is so_far =
      rw (so_far, is) (sym (ap (map f) (filter_more p n ∙ ap (λ b. filter p (range_with_len 0 n) ++ cond b (n ∷ []) []) passes) ∙ map-append f (filter p (range_with_len 0 n)) (n ∷ [])))

  pub none_more : p n ≡ false → xs ≡ map f (filter p (range_with_len 0 n)) → xs ≡ map f (filter p (range_with_len 0 (n + 1)))
  none_more fails so_far =
      so_far ∙ sym (ap (map f) (filter_more p n ∙ ap (λ b. filter p (range_with_len 0 n) ++ cond b (n ∷ []) []) fails ∙ append-nil (filter p (range_with_len 0 n))))

pub number_more : (p : ℕ → Bool) (n : ℕ) (xs : List ℕ) → p n ≡ true → xs ≡ filter p (range_with_len 0 n) → xs ++ n ∷ [] ≡ filter p (range_with_len 0 (n + 1))
number_more p n xs passes so_far = ap (λ ys. ys ++ n ∷ []) so_far ∙ sym (filter_more p n ∙ ap (λ b. filter p (range_with_len 0 n) ++ cond b (n ∷ []) []) passes)

pub no_number_more : (p : ℕ → Bool) (n : ℕ) (xs : List ℕ) → p n ≡ false → xs ≡ filter p (range_with_len 0 n) → xs ≡ filter p (range_with_len 0 (n + 1))
no_number_more p n xs fails so_far = so_far ∙ sym (filter_more p n ∙ ap (λ b. filter p (range_with_len 0 n) ++ cond b (n ∷ []) []) fails ∙ append-nil (filter p (range_with_len 0 n)))
