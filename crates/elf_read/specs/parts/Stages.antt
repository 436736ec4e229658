-- What each stage of the reader answers of a file's bytes: its tests in their order, and what it hands on.
use Rattle.std.specs.Prelude.{ℕ, ◌*◌, List, Option, Result, unwrap_or}
use Rattle.fd_base.specs.declared.name.Name.{Name}
use Rattle.elf_model.specs.declared.constants.TheConstants.{SYM_SIZE}
use Rattle.elf_model.specs.declared.object.Rel.{Rel}
use Rattle.elf_model.specs.declared.object.Symbol.{Symbol}
use Rattle.elf_model.specs.declared.table.DynEntry.{DynEntry}
use Rattle.elf_model.specs.declared.table.ProgramHeader.{ProgramHeader}
use Rattle.elf_model.specs.declared.table.RelEntry.{RelEntry}
use Rattle.elf_model.specs.Dynamic.{needed_of, soname_of}
use Rattle.elf_model.specs.Fields as field
use Rattle.elf_model.specs.Object.{dynamic_tests, name_tests, relocation_tests}
use Rattle.elf_model.specs.Relocations as rel
use Rattle.elf_model.specs.Sections.{rofixup}
use Rattle.elf_model.specs.Segments.{held_at}
use Rattle.elf_model.specs.Symbols.{count_of, count_tests, symbol_count, symbol_table_tests, symbols_offset}
use Rattle.elf_read.specs.declared.error.ReadErr.{ReadErr}
use Rattle.elf_read.specs.declared.object.Dynamic.{Dynamic}
use Rattle.elf_read.specs.declared.object.Named.{Named}
use Rattle.elf_read.specs.declared.object.Relocations.{Relocations}
use Rattle.elf_read.specs.declared.object.Tables.{Tables}
use Rattle.elf_read.specs.declared.symbols.SymbolTable.{SymbolTable}
use Rattle.elf_read.specs.parts.Passes.{Reads}

-- the entries of the dynamic section, the section that lists the fixups, and the GOT
abbrev pub ReadsDynamic : List ℕ → Result Dynamic ReadErr → Type 0
ReadsDynamic bytes result =
    Reads {Y = List DynEntry × Option ℕ × ℕ} (λ d. (d.entries.items, d.list, d.got)) result (dynamic_tests bytes)
    (field.entries bytes, rofixup bytes, field.got_or_zero bytes)

-- how many symbols there are, the symbols, the names that the object needs, and its own
abbrev pub ReadsNames : List ℕ → Result Named ReadErr → Type 0
ReadsNames bytes result =
    Reads {Y = ℕ × List Symbol × List Name × Option Name} (λ n. (n.symbol_count, n.symbols, n.needed, n.soname)) result (name_tests bytes) (
      field.symbol_count bytes,
      field.symbols bytes,
      needed_of (field.strings bytes) (field.entries bytes),
      soname_of (field.strings bytes) (field.entries bytes),
    )

-- the entries of both tables of relocations
abbrev pub ReadsTables : List ℕ → List ProgramHeader → List DynEntry → Result Tables ReadErr → Type 0
ReadsTables bytes loads entries result =
    Reads {Y = List RelEntry × List RelEntry} (λ t. (t.own.items, t.slots.items)) result (rel.both_table_tests loads entries)
    (rel.rel_entries bytes loads entries, rel.jmprel_entries bytes loads entries)

-- the relocations of both tables, and the fixups
abbrev pub ReadsRelocations : List ℕ → Result Relocations ReadErr → Type 0
ReadsRelocations bytes result =
    Reads {Y = List Rel × List Rel × Option (List ℕ)} (λ r. (r.rels, r.jmprels, r.fixups)) result (relocation_tests bytes)
    (rel.rels_of (field.rel_entries bytes), rel.rels_of (field.jmprel_entries bytes), field.fixups bytes)

-- how many symbols the table of an entry has, and where they stand
abbrev pub ReadsTableOf : List ℕ → List ProgramHeader → List DynEntry → ℕ → DynEntry → Result SymbolTable ReadErr → Type 0
ReadsTableOf bytes loads entries dynamic table result =
    let count = unwrap_or (count_of bytes loads entries table.value) 0 in
    Reads {Y = ℕ × ℕ} (λ t. (t.count, t.offset)) result (symbol_table_tests bytes loads entries dynamic table)
    (count, unwrap_or (held_at loads table.value (SYM_SIZE * count)) 0)

-- how many symbols there are, and where they stand
abbrev pub ReadsSymbolTable : List ℕ → List ProgramHeader → List DynEntry → ℕ → Result SymbolTable ReadErr → Type 0
ReadsSymbolTable bytes loads entries dynamic result =
    let count = symbol_count bytes loads entries in
    Reads {Y = ℕ × ℕ} (λ t. (t.count, t.offset)) result (count_tests bytes loads entries dynamic) (count, symbols_offset loads entries count)
