-- How many bytes the tables of an object have.
use Rattle.std.proofs.Common.{◌≡◌, ℕ, ◌+◌, ◌-◌, ◌*◌, ◌%◌, ◌≤◌, List, [], ◌∷◌, length, map, Some, ap, ◌∙◌, arith, length-append}
use Rattle.std.proofs.lemmas.List.{length-replicate}
use Rattle.std.specs.Prelude.{max}
use Rattle.std.specs.List.{flat_map}
use Rattle.std.proofs.lemmas.Grind.{flat_map-append}
use Rattle.std.proofs.lemmas.List.FromFn.{length-map-range_with_len}
use Rattle.elf_model.specs.declared.constants.TheConstants.{SYM_SIZE, REL_SIZE}
use Rattle.elf_model.specs.declared.object.Object.{Object}
use Rattle.elf_model.specs.declared.object.Symbol.{Symbol}
use Rattle.elf_model.specs.Hashed.{symbol_hash}
use Rattle.elf_write.specs.declared.table_layout.TableLayout.{TableLayout}
use Rattle.elf_write.specs.Words.{zeros, aligned}
use Rattle.elf_write.specs.Strings.{name_bytes, strings}
use Rattle.elf_write.specs.HashTable.{hash_words, heads, chains, bucket_count}
use Rattle.elf_write.specs.TableSegment.{name_strings, needed_place, padded, symbol_names, fixup_words, tables_vaddr, layout_of}

pub hash_length : (symbols : List Symbol) → length (hash_words symbols) ≡ 2 + max 1 (length symbols) + length symbols
hash_length symbols =
    let a = length-append (heads symbols) (chains symbols) in
    let h : length (heads symbols) ≡ bucket_count symbols = length-map-range_with_len _ 0 (bucket_count symbols) in
    let c : length (chains symbols) ≡ length symbols = length-map-range_with_len _ 0 (length symbols) in
    omega (arith, a, h, c)

pub strings_length : (o : Object) → length (name_strings o) ≡ needed_place o + length (flat_map name_bytes (map Some o.needed))
strings_length o =
    let split = ap length (flat_map-append name_bytes (symbol_names o) (o.soname ∷ map Some o.needed)) in
    let a = length-append (flat_map name_bytes (symbol_names o)) (flat_map name_bytes (o.soname ∷ map Some o.needed)) in
    let b = length-append (name_bytes o.soname) (flat_map name_bytes (map Some o.needed)) in
    omega (arith, split, a, b)

pub padded_length : (bytes : List ℕ) → length (padded bytes) ≡ aligned 4 (length bytes)
padded_length bytes =
    let n = length bytes in
    let a = length-append bytes (zeros (aligned 4 n - n)) in
    let z : length (zeros (aligned 4 n - n)) ≡ aligned 4 n - n = length-replicate (aligned 4 n - n) 0 in
    let from : n ≤ aligned 4 n = omega arith in
    omega (arith, a, z, from)

-- ---- where they stand

-- by how many bytes each has
abbrev pub placed_by : (hash words symbols strings rels slots fixups : ℕ) → TableLayout
placed_by hash words symbols strings rels slots fixups = record {
  hash = hash;
  symbols = hash + words;
  strings = hash + words + symbols;
  rels = hash + words + symbols + strings;
  jmprels = hash + words + symbols + strings + rels;
  fixups = hash + words + symbols + strings + rels + slots;
  dynamic = hash + words + symbols + strings + rels + slots + fixups;
}

pub placed : (o : Object) (hash words symbols strings rels slots fixups : ℕ) → hash ≡ tables_vaddr o → words ≡ 4 * length (hash_words o.symbols) → symbols ≡ SYM_SIZE * length o.symbols
    → strings ≡ length (padded (name_strings o)) → rels ≡ REL_SIZE * length o.rels → slots ≡ REL_SIZE * length o.jmprels → fixups ≡ 4 * length (fixup_words o)
    → placed_by hash words symbols strings rels slots fixups ≡ layout_of o
placed o hash words symbols strings rels slots fixups p q r s t u v =
    ap (λ n. placed_by n words symbols strings rels slots fixups) p
    ∙ ap (λ n. placed_by (tables_vaddr o) n symbols strings rels slots fixups) q
    ∙ ap (λ n. placed_by (tables_vaddr o) (4 * length (hash_words o.symbols)) n strings rels slots fixups) r
    ∙ ap (λ n. placed_by (tables_vaddr o) (4 * length (hash_words o.symbols)) (SYM_SIZE * length o.symbols) n rels slots fixups) s
    ∙ ap (λ n. placed_by (tables_vaddr o) (4 * length (hash_words o.symbols)) (SYM_SIZE * length o.symbols) (length (padded (name_strings o))) n slots fixups) t
    ∙ ap (λ n. placed_by (tables_vaddr o) (4 * length (hash_words o.symbols)) (SYM_SIZE * length o.symbols) (length (padded (name_strings o))) (REL_SIZE * length o.rels) n fixups) u
    ∙ ap (λ n. placed_by (tables_vaddr o) (4 * length (hash_words o.symbols)) (SYM_SIZE * length o.symbols) (length (padded (name_strings o))) (REL_SIZE * length o.rels) (REL_SIZE * length o.jmprels) n) v

-- the hash of no bytes, in whichever bucket
pub no_name_bucket : (count : ℕ) → symbol_hash [] % count ≡ 0
unfolding symbol_hash
no_name_bucket count = omega arith
