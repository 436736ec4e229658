-- The hash table of symbols (gABI, "Hash Table"). A bucket begins with its last symbol, and a symbol's chain goes on with
-- the one before it in its bucket.
use Rattle.std.specs.Prelude.{ℕ, zero, suc, ◌%◌, ◌==◌, max, List, [], ◌∷◌, ◌++◌, length, map, get_or, unwrap_or, if◌then◌else◌}
use Rattle.std.specs.List.{range_with_len}
use Rattle.elf_model.specs.Hashed.{symbol_hash}
use Rattle.elf_model.specs.declared.object.Symbol.{Symbol}

-- as many as symbols, and at least one
abbrev pub bucket_count : List Symbol → ℕ
bucket_count symbols = max 1 (length symbols)

-- the bucket of a symbol, of so many: by its name, or the hash of no bytes
abbrev pub bucket_of : ℕ → Symbol → ℕ
bucket_of count s = symbol_hash (unwrap_or s.name []) % count

-- the bucket of each symbol
abbrev pub buckets : List Symbol → List ℕ
buckets symbols = map (bucket_of (bucket_count symbols)) symbols

-- The last symbol below a number that is in a bucket. Number 0, the null symbol, is none.
unfoldable pub newest : List ℕ → ℕ → ℕ → ℕ
newest buckets bucket zero = 0
newest buckets bucket (suc k) = if get_or buckets k 0 == bucket then k else newest buckets bucket k

-- with which each bucket begins
abbrev pub heads : List Symbol → List ℕ
heads symbols = map (λ bucket. newest (buckets symbols) bucket (length symbols)) (range_with_len 0 (bucket_count symbols))

-- with which the chain of each symbol goes on
abbrev pub chains : List Symbol → List ℕ
chains symbols = map (λ k. newest (buckets symbols) (get_or (buckets symbols) k 0) k) (range_with_len 0 (length symbols))

abbrev pub hash_words : List Symbol → List ℕ
hash_words symbols = bucket_count symbols ∷ length symbols ∷ (heads symbols ++ chains symbols)
