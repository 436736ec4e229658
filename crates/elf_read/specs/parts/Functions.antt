-- The tests of a function's place, which are the last of a symbol.
use Rattle.std.specs.Prelude.{◌%◌, ◌==◌, not, List, [], ◌∷◌}
use Rattle.elf_model.specs.declared.refusal.ElfKind.TheVariants.{Thumb, FunctionPlace}
use Rattle.elf_model.specs.declared.table.ProgramHeader.{ProgramHeader}
use Rattle.elf_model.specs.declared.table.SymbolEntry.{SymbolEntry}
use Rattle.elf_model.specs.Test.{ElfTest, refuses, only_where}
use Rattle.elf_model.specs.Symbols.{is_defined_function, has_function_place}

abbrev pub function_tests : List ProgramHeader → SymbolEntry → List ElfTest
function_tests loads e = only_where (is_defined_function e) (
    refuses Thumb e.offset (e.value % 2 == 1)
    ∷ refuses FunctionPlace e.offset (not (has_function_place loads e))
    ∷ [])
