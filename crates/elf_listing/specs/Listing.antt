-- show F: what an object holds, a line for each thing.
use Rattle.std.specs.Prelude.{ℕ, List, [], ◌++◌, length, codes, decimal, Option, Some, None, unwrap_or, if◌then◌else◌, ◌==◌}
use Rattle.std.specs.List.{flat_map}
use Rattle.fd_base.specs.Fields.{word_field, decimal_field, hex_field, name_field, numbered, line_where}
use Rattle.elf_model.specs.Inits.{has_inits}
use Rattle.fd_base.specs.Texts.{shown}
use Rattle.elf_model.specs.declared.constants.TheConstants.{STB_LOCAL, STB_GLOBAL, STB_WEAK, STT_NOTYPE, STT_OBJECT, STT_FUNC, STT_SECTION, STT_FILE, STV_DEFAULT, STV_INTERNAL, STV_HIDDEN}
use Rattle.elf_model.specs.declared.object.Kind.{Kind}
use Rattle.elf_model.specs.declared.object.Kind.TheVariants.{Exec, Dyn}
use Rattle.elf_model.specs.declared.object.Place.{Place}
use Rattle.elf_model.specs.declared.object.Place.TheVariants.{Undefined, Absolute, Here, Common, Section, Dropped}
use Rattle.elf_model.specs.declared.object.Segment.{Segment}
use Rattle.elf_model.specs.declared.object.Symbol.{Symbol}
use Rattle.elf_model.specs.declared.object.Rel.{Rel}
use Rattle.elf_model.specs.declared.object.Object.{Object}

-- ---- words

abbrev pub kind_word : Kind → List ℕ
kind_word Exec = codes "exec"
kind_word Dyn = codes "dyn"

-- a binding, a symbol's type: its word, or its number where it has none
unfoldable pub binding_word : ℕ → List ℕ
binding_word n =
    if n == STB_LOCAL then codes "local"
    else if n == STB_GLOBAL then codes "global"
    else if n == STB_WEAK then codes "weak"
    else decimal n

unfoldable pub type_word : ℕ → List ℕ
type_word n =
    if n == STT_NOTYPE then codes "notype"
    else if n == STT_OBJECT then codes "object"
    else if n == STT_FUNC then codes "func"
    else if n == STT_SECTION then codes "section"
    else if n == STT_FILE then codes "file"
    else decimal n

-- a visibility is one of four numbers
unfoldable pub visibility_word : ℕ → List ℕ
visibility_word n =
    if n == STV_DEFAULT then codes "default"
    else if n == STV_INTERNAL then codes "internal"
    else if n == STV_HIDDEN then codes "hidden"
    else codes "protected"

abbrev pub place_word : Place → List ℕ
place_word Undefined = codes "undef"
place_word Absolute = codes "abs"
place_word Here = codes "here"
place_word Common = codes "common"
place_word Dropped = codes "dropped"
place_word (Section n) = codes "section " ++ decimal n

-- ---- lines

unfoldable pub object_line : Object → List ℕ
object_line o = codes "object " ++ kind_word o.kind ++ codes " entry" ++ hex_field o.entry ++ codes " got" ++ hex_field o.got ++ codes "\n"

unfoldable pub segment_line : ℕ → Segment → List ℕ
segment_line i s =
    codes "segment" ++ decimal_field i ++ hex_field s.vaddr ++ hex_field (length s.filled) ++ hex_field s.memsz
    ++ decimal_field s.flags ++ decimal_field s.align ++ codes "\n"

unfoldable pub needed_line : List ℕ → List ℕ
needed_line name = codes "needed" ++ word_field (shown name) ++ codes "\n"

unfoldable pub symbol_line : ℕ → Symbol → List ℕ
symbol_line i s =
    codes "symbol" ++ decimal_field i ++ name_field s.name ++ word_field (binding_word s.binding)
    ++ word_field (type_word s.kind) ++ word_field (visibility_word s.visibility) ++ word_field (place_word s.place)
    ++ hex_field s.value ++ decimal_field s.size ++ codes "\n"

-- of a table with this word
unfoldable pub rel_line : List ℕ → ℕ → Rel → List ℕ
rel_line table i r = table ++ decimal_field i ++ hex_field r.site ++ decimal_field r.kind ++ decimal_field r.symbol ++ codes "\n"

unfoldable pub fixup_line : ℕ → ℕ → List ℕ
fixup_line i site = codes "fixup" ++ decimal_field i ++ hex_field site ++ codes "\n"

abbrev pub soname_line : Option (List ℕ) → List ℕ
soname_line None = []
soname_line (Some name) = codes "soname " ++ shown name ++ codes "\n"

abbrev pub flag_lines : Object → List ℕ
flag_lines o =
    line_where o.symbolic (codes "flag symbolic\n") ++ line_where o.now (codes "flag now\n") ++ line_where (has_inits o.inits) (codes "flag init\n")

abbrev pub object_listing : Object → List ℕ
object_listing o =
    object_line o
    ++ numbered segment_line 0 o.segments
    ++ flat_map needed_line o.needed
    ++ soname_line o.soname
    ++ numbered symbol_line 0 o.symbols
    ++ numbered (rel_line (codes "rel")) 0 o.rels
    ++ numbered (rel_line (codes "jmprel")) 0 o.jmprels
    ++ numbered fixup_line 0 (unwrap_or o.fixups [])
    ++ flag_lines o
