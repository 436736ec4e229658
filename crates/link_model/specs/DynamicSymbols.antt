-- The symbols that the loader sees (gABI, "Dynamic Section", DT_SYMTAB; "Symbol Table"): what the object defines for
-- others, and what others are to define for it, by first appearance of the names.
use Rattle.std.specs.Prelude.{ℕ, ◌+◌, ◌%◌, ◌^◌, Bool, not, ◌&&◌, ◌||◌, ◌==◌, nat_lt, List, [], ◌∷◌, map, filter, position, unwrap_or, if◌then◌else◌}
use Rattle.elf_model.specs.declared.constants.TheConstants.{STT_NOTYPE, STT_FUNC, STT_SECTION, STT_FILE, STV_DEFAULT, STV_PROTECTED}
use Rattle.elf_model.specs.declared.object.Place.{Place}
use Rattle.elf_model.specs.declared.object.Place.TheVariants.{Undefined, Absolute as AtNumber, Here}
use Rattle.elf_model.specs.declared.object.Symbol.{Symbol}
use Rattle.elf_model.specs.declared.relocatable.RelObject.{RelObject}
use Rattle.elf_model.specs.Symbols.{null_symbol}
use Rattle.link_model.specs.declared.input.Mode.{Mode}
use Rattle.link_model.specs.declared.target.Key.{Key}
use Rattle.link_model.specs.declared.target.Spot.{Spot}
use Rattle.link_model.specs.declared.target.Spot.TheVariants.{Nowhere, Absolute}
use Rattle.link_model.specs.declared.target.Target.{Target}
use Rattle.link_model.specs.Places.{text_end, address_of}
use Rattle.link_model.specs.Targets.{is_static, is_nowhere, is_absolute, is_same_key, targets_of, name_of_key}

-- ---- which

-- as the rules of exported symbols have it
abbrev pub is_exported : Target → Bool
is_exported t = (t.visibility == STV_DEFAULT || t.visibility == STV_PROTECTED) && not (t.kind == STT_SECTION || t.kind == STT_FILE)

abbrev pub is_shown : Target → Bool
is_shown t = if is_nowhere t.spot then t.visibility == STV_DEFAULT else is_exported t

unfoldable pub shown_targets : Mode → List RelObject → List Target
shown_targets mode inputs = if is_static mode then [] else filter is_shown (targets_of mode inputs)

-- the number of a symbol: the null symbol comes first
abbrev pub symbol_index : Mode → List RelObject → Key → ℕ
symbol_index mode inputs key = 1 + unwrap_or (position (λ t. is_same_key key t.key) (shown_targets mode inputs)) 0

-- ---- how

abbrev pub shown_place : Spot → Place
shown_place Nowhere = Undefined
shown_place (Absolute v) = AtNumber
shown_place spot = Here

-- whether it can be called: at a multiple of 4 in the text
abbrev pub is_callable : Mode → List RelObject → Spot → Bool
is_callable mode inputs spot =
    not (is_absolute spot) && (address_of mode inputs spot % 4 == 0 && nat_lt (address_of mode inputs spot) (text_end mode inputs))

-- what is defined as a function and can't be called loses its type
abbrev pub shown_kind : Mode → List RelObject → Target → ℕ
shown_kind mode inputs t =
    if t.kind == STT_FUNC && (not (is_nowhere t.spot) && not (is_callable mode inputs t.spot)) then STT_NOTYPE else t.kind

abbrev pub dynamic_symbol : Mode → List RelObject → Target → Symbol
dynamic_symbol mode inputs t = record {
  name = name_of_key inputs t.key;
  value = address_of mode inputs t.spot % 2 ^ 32;
  size = t.size;
  binding = t.binding;
  kind = shown_kind mode inputs t;
  visibility = t.visibility;
  place = shown_place t.spot;
}

abbrev pub symbols_for : Mode → List RelObject → List Symbol
symbols_for mode inputs = if is_static mode then [] else null_symbol ∷ map (dynamic_symbol mode inputs) (shown_targets mode inputs)
