-- The symbols of a name, in all inputs, are one (gABI, "Symbol Table": a global definition or a common block is taken
-- before a weak definition, and the most constraining visibility counts). That a global definition is taken before a
-- common block, and the first of several weak ones, is what linkers do.
use Rattle.std.specs.Prelude.{ℕ, ◌^◌, Bool, true, false, not, ◌&&◌, ◌==◌, nat_le, List, [], ◌∷◌, map, filter, find, slice_get, max, Option, unwrap_or}
use Rattle.std.specs.Option.{option_or}
use Rattle.std.specs.List.{list_any, list_all, fold, range_with_len}
use Rattle.std.specs.Str.{bytes_eq}
use Rattle.elf_model.specs.declared.constants.TheConstants.{STB_LOCAL, STB_GLOBAL, STB_WEAK, STT_SECTION, STV_DEFAULT, STV_INTERNAL, STV_HIDDEN, STV_PROTECTED, MAX_SECTION_ALIGN}
use Rattle.elf_model.specs.declared.object.Place.{Place}
use Rattle.elf_model.specs.declared.object.Place.TheVariants.{Absolute, Common, Section}
use Rattle.elf_model.specs.declared.object.Symbol.{Symbol}
use Rattle.elf_model.specs.declared.relocatable.RelObject.{RelObject}
use Rattle.symbol_scope.specs.Closure.{firsts}
use Rattle.link_model.specs.Inputs.{InputSymbol, symbols_of}

-- ---- names

-- global and weak symbols are joined by name; a local symbol, and one of a section, is its own
abbrev pub is_joined : Symbol → Bool
is_joined s = not (s.binding == STB_LOCAL) && not (s.kind == STT_SECTION)

abbrev pub joined_of : List RelObject → List InputSymbol
joined_of inputs = filter (λ x. is_joined x.symbol) (symbols_of inputs)

abbrev pub name_of : InputSymbol → List ℕ
name_of x = unwrap_or (x.symbol).name []

-- the names, by first appearance
unfoldable pub names_of : List RelObject → List (List ℕ)
names_of inputs = firsts bytes_eq (map name_of (joined_of inputs))

-- the symbols of a name
abbrev pub of_name : List RelObject → List ℕ → List InputSymbol
of_name inputs name = filter (λ x. bytes_eq (name_of x) name) (joined_of inputs)

-- ---- which definition is taken

-- a symbol in a section that isn't kept defines nothing
abbrev pub defines : Place → Bool
defines Absolute = true
defines (Section n) = true
defines place = false

abbrev pub is_common : Place → Bool
is_common Common = true
is_common place = false

abbrev pub definitions_of : ℕ → List InputSymbol → List InputSymbol
definitions_of binding xs = filter (λ x. defines (x.symbol).place && (x.symbol).binding == binding) xs

abbrev pub commons_of : List InputSymbol → List InputSymbol
commons_of xs = filter (λ x. is_common (x.symbol).place) xs

abbrev pub first_of : List InputSymbol → Option InputSymbol
first_of xs = slice_get xs 0

-- of the symbols of a name: the global definition, else the first common block, else the first weak definition
abbrev pub definition_taken : List InputSymbol → Option InputSymbol
definition_taken xs =
    option_or (first_of (definitions_of STB_GLOBAL xs)) (option_or (first_of (commons_of xs)) (first_of (definitions_of STB_WEAK xs)))

-- ---- what all symbols of a name say together

-- the most constraining visibility
abbrev pub visibility_of : List InputSymbol → ℕ
visibility_of xs = unwrap_or (find (λ v. list_any (λ x. (x.symbol).visibility == v) xs) (STV_INTERNAL ∷ STV_HIDDEN ∷ STV_PROTECTED ∷ [])) STV_DEFAULT

abbrev pub all_weak : List InputSymbol → Bool
all_weak xs = list_all (λ x. (x.symbol).binding == STB_WEAK) xs

abbrev pub greatest : {X : Type 0} → ℕ → (X → ℕ) → List X → ℕ
greatest least f xs = fold (λ m x. max m (f x)) least xs

-- a common block is as large as the largest one of its name
abbrev pub common_size : List InputSymbol → ℕ
common_size xs = greatest 0 (λ x. (x.symbol).size) (commons_of xs)

-- the powers of two up to 4,096
abbrev pub alignments : List ℕ
alignments = map (λ e. 2 ^ e) (range_with_len 0 13)

-- The value of a common symbol is its alignment: one that is no power of two is raised to the next, and one past the
-- largest is cut to it.
abbrev pub common_alignment : InputSymbol → ℕ
common_alignment x = unwrap_or (find (nat_le (x.symbol).value) alignments) MAX_SECTION_ALIGN

abbrev pub common_align : List InputSymbol → ℕ
common_align xs = greatest 1 common_alignment (commons_of xs)
