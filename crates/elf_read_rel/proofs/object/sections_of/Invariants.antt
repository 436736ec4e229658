use Rattle.std.proofs.Common.{◌≡◌, ℕ, ◌≤◌, true, map, length, get_or, []}
use Rattle.std.specs.Prelude.{filter}
use Rattle.std.specs.List.{range_with_len}
use Rattle.elf_model.specs.Header.{e_shnum}
use Rattle.elf_model.specs.Sections.{section_header}
use Rattle.elf_model.specs.RelSections.{is_kept, is_kept_at}
use Rattle.elf_model.specs.RelEntries.{rels_at}
use Rattle.elf_model.specs.Relocatable.{section_of}
use Rattle.elf_read_rel.proofs.object.sections_of.Given as goal

abbrev pub invariant-loop-i : goal.invariant-loop-i
invariant-loop-i l = record {
  read : l.sections ≡ map (section_of l.bytes) (filter (λ i. is_kept (section_header l.bytes i)) (range_with_len 0 l.i));
  whole : length l.lists.items ≡ e_shnum l.bytes;
  left : (k : ℕ) → l.i ≤ k → is_kept_at l.bytes k ≡ true → get_or l.lists.items k [] ≡ rels_at l.bytes k;
}
