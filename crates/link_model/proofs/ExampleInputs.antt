-- Inputs of the examples, as an assembler makes them.
use Rattle.std.specs.Prelude.{ℕ, ◌+◌, ◌*◌, List, [], ◌∷◌, length, codes, Option, Some, None}
use Rattle.fd_base.specs.Words.{word_bytes}
use Rattle.elf_model.specs.declared.constants.TheConstants.{SHF_WRITE, SHF_ALLOC, SHF_EXECINSTR, SHT_PROGBITS, SHT_NOBITS, STB_LOCAL, STB_GLOBAL, STB_WEAK, STT_NOTYPE, STT_FUNC, STT_OBJECT, STV_DEFAULT}
use Rattle.elf_model.specs.declared.object.Place.{Place}
use Rattle.elf_model.specs.declared.object.Place.TheVariants.{Undefined, Absolute, Common, Section}
use Rattle.elf_model.specs.declared.object.Rel.{Rel}
use Rattle.elf_model.specs.declared.object.Symbol.{Symbol}
use Rattle.elf_model.specs.declared.relocatable.RelObject.{RelObject}
use Rattle.elf_model.specs.declared.relocatable.RelSection.{RelSection}
use Rattle.elf_model.specs.Symbols.{null_symbol}
use Rattle.link_model.specs.declared.error.LinkRefusal.{LinkRefusal}
use Rattle.link_model.specs.declared.input.Lib.{Lib}
use Rattle.link_model.specs.declared.input.Mode.{Mode}
use Rattle.link_model.specs.Refusals.{refusal_of}

-- ---- sections of words

abbrev pub words : ℕ → ℕ → List ℕ → List Rel → RelSection
words kind flags ws rels = record { name = None; kind = kind; flags = flags; align = 4; size = 4 * length ws; filled = word_bytes ws; rels = rels }

abbrev pub text : List ℕ → List Rel → RelSection
text ws rels = words SHT_PROGBITS (SHF_ALLOC + SHF_EXECINSTR) ws rels

abbrev pub constants : List ℕ → List Rel → RelSection
constants ws rels = words SHT_PROGBITS SHF_ALLOC ws rels

abbrev pub variables : List ℕ → List Rel → RelSection
variables ws rels = words SHT_PROGBITS (SHF_ALLOC + SHF_WRITE) ws rels

abbrev pub zeros : ℕ → ℕ → RelSection
zeros align size = record { name = None; kind = SHT_NOBITS; flags = SHF_ALLOC + SHF_WRITE; align = align; size = size; filled = []; rels = [] }

abbrev pub rel : ℕ → ℕ → ℕ → Rel
rel site kind symbol = record { site = site; kind = kind; symbol = symbol }

-- ---- symbols

abbrev pub symbol : ℕ → ℕ → ℕ → List ℕ → Place → ℕ → Symbol
symbol binding kind visibility name place value =
    record { name = Some name; value = value; size = 0; binding = binding; kind = kind; visibility = visibility; place = place }

abbrev pub local : List ℕ → ℕ → ℕ → Symbol
local name section offset = symbol STB_LOCAL STT_NOTYPE STV_DEFAULT name (Section section) offset

abbrev pub global : List ℕ → ℕ → ℕ → Symbol
global name section offset = symbol STB_GLOBAL STT_NOTYPE STV_DEFAULT name (Section section) offset

abbrev pub function : List ℕ → ℕ → ℕ → Symbol
function name section offset = symbol STB_GLOBAL STT_FUNC STV_DEFAULT name (Section section) offset

abbrev pub weak : List ℕ → ℕ → ℕ → Symbol
weak name section offset = symbol STB_WEAK STT_NOTYPE STV_DEFAULT name (Section section) offset

abbrev pub undefined : List ℕ → Symbol
undefined name = symbol STB_GLOBAL STT_NOTYPE STV_DEFAULT name Undefined 0

abbrev pub weak_undefined : List ℕ → Symbol
weak_undefined name = symbol STB_WEAK STT_NOTYPE STV_DEFAULT name Undefined 0

abbrev pub absolute : List ℕ → ℕ → Symbol
absolute name value = symbol STB_GLOBAL STT_NOTYPE STV_DEFAULT name Absolute value

abbrev pub common : List ℕ → ℕ → ℕ → Symbol
common name align size = record { name = Some name; value = align; size = size; binding = STB_GLOBAL; kind = STT_OBJECT; visibility = STV_DEFAULT; place = Common }

-- a file, with the null symbol
abbrev pub file : List RelSection → List Symbol → RelObject
file sections symbols = record { sections = sections; symbols = null_symbol ∷ symbols }

abbrev pub start : List ℕ
start = codes "_start"

-- ---- links

-- the refusal of a link whose object can be written
abbrev pub refused : Mode → List RelObject → List Lib → Option LinkRefusal
refused mode inputs libs = refusal_of (record { file_size = λ o. 0; tables_end = λ o. 0 }) mode (codes "o") inputs libs
