use Rattle.std.proofs.Common.{◌≡◌, ◌<◌, ◌==◌, All}
use Rattle.std.specs.Prelude.{filter}
use Rattle.std.specs.List.{range_with_len}
use Rattle.elf_model.specs.declared.constants.TheConstants.{SHT_SYMTAB}
use Rattle.elf_model.specs.Header.{e_shnum}
use Rattle.elf_model.specs.Sections.{section_header}
use Rattle.elf_read_rel.proofs.symbols.symbol_sections.Given as goal

abbrev pub invariant-loop-i : goal.invariant-loop-i
invariant-loop-i l = record {
  found : l.sections.items ≡ filter (λ i. (section_header l.bytes i).kind == SHT_SYMTAB) (range_with_len 0 l.i);
  there : All (λ i. i < e_shnum l.bytes) l.sections.items;
}
