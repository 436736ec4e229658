-- The tables of relocations, as they are read.
use Rattle.std.specs.Prelude.{ℕ, ◌+◌, ◌*◌, ◌/◌, Bool, false, not, List, filter, Option, option_map, unwrap_or}
use Rattle.std.specs.Option.{option_map_or}
use Rattle.std.specs.List.{range_with_len}
use Rattle.fd_base.specs.Ranges.{spans}
use Rattle.elf_model.specs.declared.constants.TheConstants.{REL_SIZE, DT_JMPREL, DT_PLTRELSZ}
use Rattle.elf_model.specs.declared.table.ProgramHeader.{ProgramHeader}
use Rattle.elf_model.specs.declared.table.DynEntry.{DynEntry}
use Rattle.elf_model.specs.declared.table.RelTable.{RelTable}
use Rattle.elf_model.specs.declared.table.RelEntry.{RelEntry}
use Rattle.elf_model.specs.declared.object.Extent.{Extent}
use Rattle.elf_model.specs.Segments.{held_at}
use Rattle.elf_model.specs.Dynamic.{value_of}
use Rattle.elf_model.specs.Relocations.{entries_at}
use Rattle.elf_read.specs.declared.tables.RelRange.{RelRange}

-- where the table of these two tags stands
unfoldable pub range_of : List ProgramHeader → List DynEntry → ℕ → ℕ → Option RelRange
range_of loads entries table_tag size_tag = option_map (λ addr.
    let n = unwrap_or (value_of size_tag entries) 0 in
    record { addr = addr; size = n; offset = unwrap_or (held_at loads addr n) 0 })
    (value_of table_tag entries)

-- the link addresses of the slots' relocations
unfoldable pub slot_range : List DynEntry → Option Extent
slot_range entries =
    option_map (λ addr. record { addr = addr; size = unwrap_or (value_of DT_PLTRELSZ entries) 0 }) (value_of DT_JMPREL entries)

-- whether the entry at a link address lies inside a range
abbrev pub is_inside : Option Extent → ℕ → Bool
is_inside range addr = option_map_or (λ r. spans r.addr r.size addr REL_SIZE) range false

-- which of the first n entries of a table lie outside a range
abbrev pub places_below : RelRange → Option Extent → ℕ → List ℕ
places_below r left_out n = filter (λ k. not (is_inside left_out (r.addr + REL_SIZE * k))) (range_with_len 0 n)

-- the entries of a table, without those inside a range
abbrev pub entries_of : List ℕ → RelTable → Option Extent → RelRange → List RelEntry
entries_of bytes table left_out r = entries_at bytes table r.offset (places_below r left_out (r.size / REL_SIZE))
