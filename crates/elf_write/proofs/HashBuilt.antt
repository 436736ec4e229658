-- A hash table that is built symbol by symbol.
use Rattle.std.proofs.Common.{◌≡◌, ℕ, suc, ◌+◌, ◌<◌, Bool, true, false, cond, List, ◌∷◌, [], ◌++◌, length, map, get_or, set, replicate, refl, sym, ap, ◌∙◌, arith}
use Rattle.std.specs.Prelude.{◌==◌}
use Rattle.std.specs.List.{range_with_len}
use Rattle.std.proofs.lemmas.Bool.{eqb-true, eqb-false}
use Rattle.std.proofs.lemmas.List.{get_or-set_other, get_or-replicate, length-set, length-replicate, get_or-map}
use Rattle.std.proofs.lemmas.Grind.{get_or-set_at}
use Rattle.std.proofs.lemmas.List.FromFn.{fill_by_all, get_or-map-range_with_len, length-map-range_with_len, map-range_with_len_more}
use Rattle.elf_model.specs.declared.object.Symbol.{Symbol}
use Rattle.elf_write.specs.HashTable.{newest, buckets, bucket_of, bucket_count}

newest_more : (bs : List ℕ) (bucket k : ℕ) → newest bs bucket (k + 1) ≡ cond (get_or bs k 0 == bucket) k (newest bs bucket k)
unfolding newest
newest_more bs bucket k = let one : k + 1 ≡ suc k = omega arith in ap (newest bs bucket) one

pub no_heads : (bs : List ℕ) (count : ℕ) → replicate count 0 ≡ map (λ b. newest bs b 0) (range_with_len 0 count)
unfolding newest
no_heads bs count = fill_by_all (λ b. newest bs b 0) (replicate count 0) count 0 (length-replicate count 0) (λ k lt. get_or-replicate count k 0 0 lt)

pub heads_more : (bs : List ℕ) (count i bucket : ℕ) (heads : List ℕ) → bucket < count → get_or bs i 0 ≡ bucket → heads ≡ map (λ b. newest bs b i) (range_with_len 0 count)
    → set heads bucket i ≡ map (λ b. newest bs b (i + 1)) (range_with_len 0 count)
heads_more bs count i bucket heads below is so_far =
    let sized : length heads ≡ count = ap length so_far ∙ length-map-range_with_len (λ b. newest bs b i) 0 count in
    fill_by_all (λ b. newest bs b (i + 1)) (set heads bucket i) count 0 (length-set heads bucket i ∙ sized) (λ k lt. by_bucket sized k lt (get_or bs i 0 == k) refl ∙ sym (newest_more bs k i))
  where
    by_bucket : length heads ≡ count → (k : ℕ) → k < count → (b : Bool) → (get_or bs i 0 == k) ≡ b → get_or (set heads bucket i) k 0 ≡ cond b i (newest bs k i)
    by_bucket sized k lt true e = let same = eqb-true (get_or bs i 0) k e in get_or-set_at heads bucket k i 0 (omega (arith, same, is)) (omega (arith, below, sized))
    by_bucket sized k lt false e =
        get_or-set_other heads bucket k i 0 (λ same. eqb-false (get_or bs i 0) k e (is ∙ sym same)) ∙ ap (λ hs. get_or hs k 0) so_far
        ∙ get_or-map-range_with_len (λ b. newest bs b i) 0 count k k 0 lt (omega arith)

pub chains_more : (bs : List ℕ) (count i bucket : ℕ) (heads chains : List ℕ) (d : ℕ) → bucket < count → get_or bs i 0 ≡ bucket → heads ≡ map (λ b. newest bs b i) (range_with_len 0 count)
    → chains ≡ map (λ k. newest bs (get_or bs k 0) k) (range_with_len 0 i)
    → chains ++ get_or heads bucket d ∷ [] ≡ map (λ k. newest bs (get_or bs k 0) k) (range_with_len 0 (i + 1))
chains_more bs count i bucket heads chains d below is heads_are so_far =
    let head : get_or heads bucket d ≡ newest bs (get_or bs i 0) i =
    ap (λ hs. get_or hs bucket d) heads_are ∙ get_or-map-range_with_len (λ b. newest bs b i) 0 count bucket bucket d below (omega arith) ∙ ap (λ b. newest bs b i) (sym is) in
    ap (λ cs. cs ++ get_or heads bucket d ∷ []) so_far ∙ ap (λ n. map (λ k. newest bs (get_or bs k 0) k) (range_with_len 0 i) ++ n ∷ []) head
    ∙ sym (map-range_with_len_more (λ k. newest bs (get_or bs k 0) k) 0 i i (omega arith))

pub bucket_at : (symbols : List Symbol) (i : ℕ) (s : Symbol) → i < length symbols → s ≡ get_or symbols i s → get_or (buckets symbols) i 0 ≡ bucket_of (bucket_count symbols) s
bucket_at symbols i s lt is = get_or-map (bucket_of (bucket_count symbols)) symbols i s 0 lt ∙ ap (bucket_of (bucket_count symbols)) (sym is)
