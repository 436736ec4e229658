-- The section of the symbols, whose tests hold.
use Rattle.std.proofs.Common.{◌≡◌, ℕ, ◌+◌, ◌/◌, ◌%◌, ◌<◌, not, ◌||◌, ◌==◌, List, length, Option, Some, None}
use Rattle.std.specs.Prelude.{nat_lt, IfSome}
use Rattle.std.proofs.lemmas.Bool.{and_parts, or_parts, ltb-true, ltb-false, not-false, not-true}
use Rattle.elf_model.specs.declared.constants.TheConstants.{SYM_SIZE, MAX_ENTRIES}
use Rattle.elf_model.specs.declared.refusal.ElfKind.TheVariants.{Table, TooMany}
use Rattle.elf_model.specs.Test.{refuses, of_some, first_failing}
use Rattle.elf_model.specs.Header.{e_shnum, passes_end}
use Rattle.elf_model.specs.Sections.{section_offset, section_header}
use Rattle.elf_model.specs.RelSymbols.{has_strings, symbol_section_tests}
use Rattle.elf_model.proofs.Tests.{two_hold}
use Rattle.elf_read_rel.specs.parts.Symbols.{HasSymbols}

table_holds : (bytes : List ℕ) (i : ℕ) → i < e_shnum bytes → first_failing (symbol_section_tests bytes i) ≡ None → HasSymbols bytes i
unfolding symbol_section_tests has_strings
table_holds bytes i lt t =
    let h = section_header bytes i in
    let at = section_offset bytes i in
    let strings = section_header bytes h.link in
    let held = two_hold (refuses Table at (passes_end bytes h.offset h.size || (not (has_strings bytes h) || not (h.size % SYM_SIZE == 0))))
    (refuses TooMany at (nat_lt MAX_ENTRIES (h.size / SYM_SIZE))) t in
    let range = or_parts (passes_end bytes h.offset h.size) (not (has_strings bytes h) || not (h.size % SYM_SIZE == 0)) held.0 in
    let linked = and_parts (nat_lt h.link (e_shnum bytes)) (not (passes_end bytes strings.offset strings.size))
    (not-false (has_strings bytes h) (or_parts (not (has_strings bytes h)) (not (h.size % SYM_SIZE == 0)) range.1).0) in
    record {
      there = lt;
      inside = ltb-false (length bytes) (h.offset + h.size) range.0;
      few = ltb-false MAX_ENTRIES (h.size / SYM_SIZE) held.1;
      linked = ltb-true h.link (e_shnum bytes) linked.0;
      strings = ltb-false (length bytes) (strings.offset + strings.size) (not-true (passes_end bytes strings.offset strings.size) linked.1);
    }

pub first_holds : (bytes : List ℕ) (o : Option ℕ) → IfSome o (λ i. i < e_shnum bytes) → first_failing (of_some o (symbol_section_tests bytes)) ≡ None → IfSome o (HasSymbols bytes)
first_holds bytes None lt t = tt
first_holds bytes (Some i) lt t = table_holds bytes i lt t
