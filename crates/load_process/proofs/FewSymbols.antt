-- Accepted objects have few symbols.
use Rattle.std.proofs.Common.{◌≡◌, ℕ, zero, suc, ◌+◌, ◌-◌, ◌*◌, ◌≤◌, ◌==◌, nat_lt, List, [], ◌∷◌, ◌++◌, length, map, Option, Some, None, sym, subst, ◌∙◌, inl, inr, arith}
use Rattle.std.specs.Prelude.{unwrap_or, is_none}
use Rattle.std.specs.Option.{option_map_or}
use Rattle.std.specs.List.{range_with_len}
use Rattle.std.proofs.lemmas.List.{length-map}
use Rattle.std.proofs.lemmas.List.FromFn.{length-range_with_len}
use Rattle.std.proofs.lemmas.Bool.{cases_Bool, ltb-false, eqb-true}
use Rattle.elf_model.specs.declared.constants.TheConstants.{DT_SYMTAB}
use Rattle.elf_model.specs.declared.refusal.ElfKind.TheVariants.{Table, TooMany, NoCount}
use Rattle.elf_model.specs.declared.table.ProgramHeader.{ProgramHeader}
use Rattle.elf_model.specs.declared.table.DynEntry.{DynEntry}
use Rattle.elf_model.specs.declared.object.Object.{Object}
use Rattle.elf_model.specs.Test.{refuses, of_some, first_failing}
use Rattle.elf_model.specs.Header.{header_tests}
use Rattle.elf_model.specs.Segments.{loads, held_at}
use Rattle.elf_model.specs.Dynamic.{first_of, dynamic_offset_or, string_tests, needed_tests, soname_tests}
use Rattle.elf_model.specs.Symbols.{symbols_of, symbol_of, symbol_entry_of, symbol_count, count_of, count_tests, hash_tests, symbol_table_tests, all_symbol_tests}
use Rattle.elf_model.specs.Fields as field
use Rattle.elf_model.specs.Object.{IsObject, tests, all_segment_tests, dynamic_tests, name_tests, relocation_tests, object_of}
use Rattle.elf_model.specs.Sound.{IsSound}
use Rattle.load_process.specs.parts.TakenObjects.{IsTaken}
use Rattle.elf_model.proofs.Tests.{both_pass, three_hold}

length_symbols : (bytes strings : List ℕ) (first count : ℕ) → length (symbols_of bytes strings first count) ≤ count
unfolding symbols_of
length_symbols bytes strings first zero = omega arith
length_symbols bytes strings first (suc n) =
    let one : suc n - 1 ≡ n = omega arith in
    elim (cases_Bool (suc n == 0)) [
      | inl none ↦ let never : suc n ≡ 0 = eqb-true (suc n) 0 none in absurd (omega arith)
      | inr some ↦
          let read = λ (i : ℕ). symbol_of strings (symbol_entry_of bytes first i) in
          let all : length (map read (range_with_len 1 n)) ≡ n = length-map (range_with_len 1 n) read ∙ length-range_with_len 1 n in
          rw (some, one) (omega (arith, all))
    ]

few_counted : (bytes : List ℕ) (loads : List ProgramHeader) (entries : List DynEntry) (dynamic : ℕ) (o : Option DynEntry)
    → first_failing (of_some o (symbol_table_tests bytes loads entries dynamic)) ≡ None
    → option_map_or (λ table. unwrap_or (count_of bytes loads entries table.value) 0) o 0 ≤ 65536
unfolding symbol_table_tests
few_counted bytes loads entries dynamic None t = omega arith
few_counted bytes loads entries dynamic (Some table) t =
    let count = count_of bytes loads entries table.value in
    let no_count = refuses NoCount dynamic (is_none count) in
    let many = refuses TooMany table.offset (nat_lt 65536 (unwrap_or count 0)) in
    let unheld = refuses Table table.offset (is_none (held_at loads table.value (16 * unwrap_or count 0))) in
    let rest = both_pass (hash_tests bytes loads entries) (no_count ∷ many ∷ unheld ∷ []) t in
    ltb-false 65536 (unwrap_or count 0) (three_hold no_count many unheld rest.1).1

few_named : (bytes : List ℕ) → first_failing (name_tests bytes) ≡ None → length (field.symbols bytes) ≤ 65536
unfolding name_tests count_tests field.symbols field.symbol_count symbol_count
few_named bytes t =
    let loads' = loads bytes in
    let entries = field.entries bytes in
    let names = all_symbol_tests bytes loads' (field.strings bytes) (field.symbols_offset bytes) (field.symbol_count bytes)
    ++ (needed_tests (field.strings bytes) entries ++ soname_tests (field.strings bytes) entries) in
    let counts = count_tests bytes loads' entries (dynamic_offset_or bytes 28) in
    let strings = both_pass (string_tests bytes loads' entries) (counts ++ names) t in
    let counted = both_pass counts names strings.1 in
    let few = few_counted bytes loads' entries (dynamic_offset_or bytes 28) (first_of DT_SYMTAB entries) counted.0 in
    omega (arith, length_symbols bytes (field.strings bytes) (field.symbols_offset bytes) (field.symbol_count bytes), few)

few_of : (bytes : List ℕ) → first_failing (tests bytes) ≡ None → length (object_of bytes).symbols ≤ 65536
unfolding tests object_of
few_of bytes t =
    let header = both_pass (header_tests bytes) (all_segment_tests bytes ++ (dynamic_tests bytes ++ (name_tests bytes ++ relocation_tests bytes))) t in
    let segment = both_pass (all_segment_tests bytes) (dynamic_tests bytes ++ (name_tests bytes ++ relocation_tests bytes)) header.1 in
    let dynamic = both_pass (dynamic_tests bytes) (name_tests bytes ++ relocation_tests bytes) segment.1 in
    few_named bytes (both_pass (name_tests bytes) (relocation_tests bytes) dynamic.1).0

pub few_symbols : (bytes : List ℕ) (o : Object) → IsObject bytes o → length o.symbols ≤ 65536
few_symbols bytes o h = subst (λ (x : Object). length x.symbols ≤ 65536) (sym h.fields) (few_of bytes h.passes)

pub taken : (bytes : List ℕ) (o : Object) → IsObject bytes o → IsSound o → IsTaken o
taken bytes o h sound = record { sound = sound; few = few_symbols bytes o h }
