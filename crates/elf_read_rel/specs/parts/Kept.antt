-- The numbers of kept sections, by the index of their headers.
use Rattle.std.specs.Prelude.{◌≡◌, ℕ, ◌≤◌, List, length, map, Option, Some, None, if◌then◌else◌}
use Rattle.std.specs.List.{range_with_len, sum_by}
use Rattle.elf_model.specs.declared.constants.TheConstants.{MAX_SECTION_BYTES}
use Rattle.elf_model.specs.Header.{e_shnum}
use Rattle.elf_model.specs.Sections.{section_header}
use Rattle.elf_model.specs.RelSections.{is_kept, is_kept_at, kept_below, kept_number, bytes_in_file}
use Rattle.elf_read_rel.specs.declared.kept.Kept.{Kept}

-- that of the section of a header
abbrev pub number_of : List ℕ → ℕ → Option ℕ
number_of bytes i = if is_kept (section_header bytes i) then Some (kept_number bytes i) else None

abbrev pub numbers_of : List ℕ → List (Option ℕ)
numbers_of bytes = map (number_of bytes) (range_with_len 0 (e_shnum bytes))

-- the number of a section that is kept, by any index
abbrev pub number_at : List ℕ → ℕ → Option ℕ
number_at bytes i = if is_kept_at bytes i then Some (kept_number bytes i) else None

-- the first n headers are done
pub record HasKept (bytes : List ℕ) (n : ℕ) (kept : Kept) : Type 0 where
  pub numbers : kept.numbers.items ≡ map (number_of bytes) (range_with_len 0 n)
  pub count : kept.count ≡ length (kept_below bytes n)
  pub few : kept.count ≤ n
  pub bytes' : kept.bytes ≡ sum_by bytes_in_file (kept_below bytes n)
  pub small : kept.bytes ≤ MAX_SECTION_BYTES
