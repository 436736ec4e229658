-- Which symbols of an object other objects refer to, and by which names (gABI, "Symbol Table": binding, type and
-- visibility). Weak and global symbols count alike, and the first of a name in the table of one object counts.
use Rattle.std.specs.Prelude.{ℕ, Bool, true, false, not, ◌&&◌, ◌||◌, ◌==◌, List, position, Option, is_some}
use Rattle.std.specs.Option.{option_map_or}
use Rattle.std.specs.Str.{bytes_eq}
use Rattle.elf_model.specs.declared.constants.TheConstants.{STB_GLOBAL, STB_WEAK, STT_SECTION, STT_FILE, STV_DEFAULT, STV_PROTECTED}
use Rattle.elf_model.specs.declared.object.Place.{Place}
use Rattle.elf_model.specs.declared.object.Place.TheVariants.{Undefined, Absolute, Here, Common, Section, Dropped}
use Rattle.elf_model.specs.declared.object.Symbol.{Symbol}

-- whether a symbol of this place has a value in a loaded object
abbrev pub is_defined : Place → Bool
is_defined Undefined = false
is_defined Absolute = true
is_defined Here = true
is_defined Common = false
is_defined (Section n) = false
is_defined Dropped = false

-- with a name, global or weak, defined, visible to other objects, and no section and no file
unfoldable pub is_exported : Symbol → Bool
is_exported s =
    is_some s.name
    && ((s.binding == STB_GLOBAL || s.binding == STB_WEAK)
    && (is_defined s.place
    && ((s.visibility == STV_DEFAULT || s.visibility == STV_PROTECTED)
    && not (s.kind == STT_SECTION || s.kind == STT_FILE))))

-- whether it is an exported definition of the name
abbrev pub exports_as : List ℕ → Symbol → Bool
exports_as name s = is_exported s && option_map_or (bytes_eq name) s.name false

-- the number of the first exported definition of a name among the symbols of one object
abbrev pub first_export : List Symbol → List ℕ → Option ℕ
first_export symbols name = position (exports_as name) symbols
