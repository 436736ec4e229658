-- What is read one after the other.
use Rattle.std.proofs.Common.{◌≡◌, ℕ, ◌+◌, List, [], ◌∷◌, ◌++◌, map, Option, None, refl, sym, ap, ◌∙◌, arith}
use Rattle.std.specs.Prelude.{option_map}
use Rattle.std.specs.List.{range_with_len}
use Rattle.std.proofs.lemmas.List.FromFn.{map-range_with_len_more}
use Rattle.elf_model.specs.declared.table.ProgramHeader.{ProgramHeader}
use Rattle.elf_model.specs.declared.table.DynEntry.{DynEntry}
use Rattle.elf_model.specs.declared.table.RelEntry.{RelEntry}
use Rattle.elf_model.specs.declared.object.Symbol.{Symbol}
use Rattle.elf_model.specs.Test.{first_failing}
use Rattle.elf_model.specs.Segments.{loads}
use Rattle.elf_model.specs.Sections.{rofixup, fixups_of}
use Rattle.elf_model.specs.Symbols.{symbol_of, symbol_entry_of, null_symbol}
use Rattle.elf_model.specs.Relocations as rel
use Rattle.elf_model.specs.Relocations.{got_header, sites_of, both_table_tests, all_rel_tests}
use Rattle.elf_model.specs.Fields as field
use Rattle.elf_model.specs.Object.{relocation_tests}
use Rattle.elf_model.proofs.Tests.{passed_over}
use Rattle.elf_read.specs.parts.Fixups as spec
use Rattle.elf_read.specs.parts.Fixups.{list_tests}

-- one more symbol
pub symbols_more : (bytes strings : List ℕ) (first k : ℕ) (symbols : List Symbol) (s : Symbol) → symbols ≡ null_symbol ∷ map (λ i. symbol_of strings (symbol_entry_of bytes first i)) (range_with_len 1 k)
    → s ≡ symbol_of strings (symbol_entry_of bytes first (k + 1)) → symbols ++ s ∷ [] ≡ null_symbol ∷ map (λ i. symbol_of strings (symbol_entry_of bytes first i)) (range_with_len 1 (k + 1))
symbols_more bytes strings first k symbols s so_far here =
    rw (so_far, here) (ap (λ (ss : List Symbol). null_symbol ∷ ss) (sym (map-range_with_len_more (λ i. symbol_of strings (symbol_entry_of bytes first i)) 1 k (k + 1) (omega arith))))

-- the tests of the fixups, over the sites of all relocations
pub fixup_tests_are : (bytes : List ℕ) → field.all_fixup_tests bytes ≡ list_tests bytes (loads bytes) (got_header (field.got_or_zero bytes) ∷ sites_of (field.all_rel_entries bytes)) (rofixup bytes)
unfolding field.all_fixup_tests rel.fixup_tests spec.fixup_tests
fixup_tests_are bytes = refl

-- the tests of relocations and fixups hold
pub relocations_hold : (bytes : List ℕ) (segments : List ProgramHeader) (entries : List DynEntry) (list : Option ℕ) (got count : ℕ) (own slots all : List RelEntry)
    → segments ≡ loads bytes → entries ≡ field.entries bytes → list ≡ rofixup bytes → got ≡ field.got_or_zero bytes → count ≡ field.symbol_count bytes
    → own ≡ rel.rel_entries bytes segments entries → slots ≡ rel.jmprel_entries bytes segments entries → all ≡ own ++ slots
    → first_failing (both_table_tests segments entries) ≡ None → first_failing (all_rel_tests segments count got all) ≡ None → first_failing (list_tests bytes segments (got_header got ∷ sites_of all) list) ≡ None
    → first_failing (relocation_tests bytes) ≡ None
unfolding relocation_tests field.all_rel_entries
relocations_hold bytes segments entries list got count own slots all e_loads e_entries e_list e_got e_count e_own e_slots e_all tables rels fixups =
    let e_every : all ≡ field.all_rel_entries bytes = e_all ∙ rw (e_own, e_slots, e_loads, e_entries) refl in
    let first : first_failing (both_table_tests (loads bytes) (field.entries bytes)) ≡ None = rw (e_loads, e_entries) at tables in
    let second : first_failing (all_rel_tests (loads bytes) (field.symbol_count bytes) (field.got_or_zero bytes) (field.all_rel_entries bytes)) ≡ None = rw (e_loads, e_count, e_got, e_every) at rels in
    let third : first_failing (list_tests bytes (loads bytes) (got_header (field.got_or_zero bytes) ∷ sites_of (field.all_rel_entries bytes)) (rofixup bytes)) ≡ None = rw (e_loads, e_got, e_every, e_list) at fixups in
    let fourth : first_failing (field.all_fixup_tests bytes) ≡ None = rw (fixup_tests_are bytes) third in
    passed_over (both_table_tests (loads bytes) (field.entries bytes)) _ first ∙ passed_over (all_rel_tests (loads bytes) (field.symbol_count bytes) (field.got_or_zero bytes) (field.all_rel_entries bytes)) _ second ∙ fourth

pub own_are : (bytes : List ℕ) (segments : List ProgramHeader) (entries : List DynEntry) (own : List RelEntry) → segments ≡ loads bytes → entries ≡ field.entries bytes
    → own ≡ rel.rel_entries bytes segments entries → own ≡ field.rel_entries bytes
unfolding field.rel_entries
own_are bytes segments entries own e_loads e_entries e_own = rw (e_own, e_loads, e_entries) refl

pub slots_are : (bytes : List ℕ) (segments : List ProgramHeader) (entries : List DynEntry) (slots : List RelEntry) → segments ≡ loads bytes → entries ≡ field.entries bytes
    → slots ≡ rel.jmprel_entries bytes segments entries → slots ≡ field.jmprel_entries bytes
unfolding field.jmprel_entries
slots_are bytes segments entries slots e_loads e_entries e_slots = rw (e_slots, e_loads, e_entries) refl

pub fixups_are : (bytes : List ℕ) (list : Option ℕ) (fixups : Option (List ℕ)) → list ≡ rofixup bytes → fixups ≡ option_map (fixups_of bytes) list → fixups ≡ field.fixups bytes
unfolding field.fixups
fixups_are bytes list fixups e_list e_fixups = e_fixups ∙ ap (option_map (fixups_of bytes)) e_list
