-- What relocations want to have in the GOT (ELF for the Arm Architecture, "Proxy generating relocations"; Arm FDPIC ABI,
-- "Relocations").
use Rattle.std.specs.Prelude.{ℕ, Bool, true, false, not, ◌&&◌, ◌||◌, ◌==◌, nat_lt, List, [], ◌∷◌, length, map, position, Option, Some, None, unwrap_or, if◌then◌else◌}
use Rattle.std.specs.List.{flat_map, filter_map}
use Rattle.std.specs.Str.{bytes_eq}
use Rattle.elf_model.specs.declared.constants.TheConstants.{R_ARM_NONE, R_ARM_PC24, R_ARM_GOT_BREL, R_ARM_PLT32, R_ARM_CALL, R_ARM_JUMP24, R_ARM_V4BX, R_ARM_GOTFUNCDESC, R_ARM_GOTOFFFUNCDESC, R_ARM_FUNCDESC}
use Rattle.elf_model.specs.declared.object.Place.{Place}
use Rattle.elf_model.specs.declared.object.Place.TheVariants.{Undefined, Dropped}
use Rattle.elf_model.specs.declared.object.Symbol.{Symbol}
use Rattle.elf_model.specs.declared.relocatable.RelObject.{RelObject}
use Rattle.elf_model.specs.Header.{is_one_of}
use Rattle.symbol_scope.specs.Closure.{firsts}
use Rattle.link_model.specs.declared.error.LinkRefusal.TheVariants.{TooLarge}
use Rattle.link_model.specs.declared.input.Mode.{Mode}
use Rattle.link_model.specs.declared.limits.TheConstants.{MAX_NEEDS}
use Rattle.link_model.specs.declared.need.Need.{Need}
use Rattle.link_model.specs.declared.need.Need.TheVariants.{Word, FuncWord, Descriptor, NoFunction, Slot}
use Rattle.link_model.specs.declared.need.UseKind as use_kind
use Rattle.link_model.specs.declared.need.UseKind.{UseKind}
use Rattle.link_model.specs.declared.target.Key.{Key}
use Rattle.link_model.specs.declared.target.Target.{Target}
use Rattle.link_model.specs.GotLayout as got
use Rattle.link_model.specs.Inputs.{InputRel, all_rels, symbol_of}
use Rattle.link_model.specs.Joined.{is_joined, is_common}
use Rattle.link_model.specs.Sections.{is_function, function_address}
use Rattle.link_model.specs.Targets.{is_settled, is_dynamic, target_of, key_code, LinkTest, refuses}

-- ---- kinds of relocations

abbrev pub is_branch : ℕ → Bool
is_branch kind = is_one_of (R_ARM_PC24 ∷ R_ARM_PLT32 ∷ R_ARM_CALL ∷ R_ARM_JUMP24 ∷ []) kind

-- those that change nothing
abbrev pub is_idle : ℕ → Bool
is_idle kind = is_one_of (R_ARM_NONE ∷ R_ARM_V4BX ∷ []) kind

-- those of descriptors
abbrev pub is_function_kind : ℕ → Bool
is_function_kind kind = is_one_of (R_ARM_GOTFUNCDESC ∷ R_ARM_GOTOFFFUNCDESC ∷ R_ARM_FUNCDESC ∷ []) kind

-- ---- symbols of which nothing can be made

abbrev pub is_undefined : Place → Bool
is_undefined Undefined = true
is_undefined place = false

abbrev pub is_dropped : Place → Bool
is_dropped Dropped = true
is_dropped place = false

-- a symbol that is its own and nowhere defined, as the null symbol; nothing joins it to a common block either
abbrev pub is_own_undefined : Symbol → Bool
is_own_undefined s = not (is_joined s) && (is_undefined s.place || is_common s.place)

abbrev pub is_unusable : Symbol → Bool
is_unusable s = is_dropped s.place || is_own_undefined s

-- ---- needs

-- each function has one descriptor, whichever symbols name it
abbrev pub descriptor_need : List RelObject → Target → Need
descriptor_need inputs t = if is_function inputs t.spot then Descriptor (function_address inputs t.spot) else NoFunction t.key

abbrev pub only_if : Bool → Need → List Need
only_if b need = if b then need ∷ [] else []

abbrev pub needs_for : List RelObject → ℕ → Target → List Need
needs_for inputs kind t =
    if is_branch kind then only_if (is_dynamic t.reach) (Slot t.key)
    else if kind == R_ARM_GOT_BREL then Word t.key ∷ []
    else if kind == R_ARM_GOTFUNCDESC then FuncWord t.key ∷ only_if (is_settled t.reach) (descriptor_need inputs t)
    else if is_function_kind kind then only_if (is_settled t.reach) (descriptor_need inputs t)
    else []

abbrev pub symbol_at : List RelObject → InputRel → Symbol
symbol_at inputs x = symbol_of inputs (x.at).input (x.rel).symbol

unfoldable pub target_at : Mode → List RelObject → InputRel → Target
target_at mode inputs x = target_of mode inputs (x.at).input (x.rel).symbol

abbrev pub needs_of : Mode → List RelObject → InputRel → List Need
needs_of mode inputs x = if is_unusable (symbol_at inputs x) then [] else needs_for inputs (x.rel).kind (target_at mode inputs x)

-- the numbers that tell needs apart
abbrev pub need_code : Need → List ℕ
need_code (Word key) = 0 ∷ key_code key
need_code (FuncWord key) = 1 ∷ key_code key
need_code (Descriptor address) = 2 ∷ address ∷ []
need_code (NoFunction key) = 3 ∷ key_code key
need_code (Slot key) = 4 ∷ key_code key

abbrev pub is_same_need : Need → Need → Bool
is_same_need a b = bytes_eq (need_code a) (need_code b)

-- those of all relocations in order, each once
unfoldable pub all_needs : Mode → List RelObject → List Need
all_needs mode inputs = firsts is_same_need (flat_map (needs_of mode inputs) (all_rels inputs))

unfoldable pub need_tests : Mode → List RelObject → List LinkTest
need_tests mode inputs = refuses TooLarge (nat_lt MAX_NEEDS (length (all_needs mode inputs))) ∷ []

-- ---- where they stand in the GOT

abbrev pub kind_of : Need → UseKind
kind_of (Word key) = use_kind.TheVariants.Word
kind_of (FuncWord key) = use_kind.TheVariants.FuncWord
kind_of (Descriptor address) = use_kind.TheVariants.Descriptor
kind_of (NoFunction key) = use_kind.TheVariants.Descriptor
kind_of (Slot key) = use_kind.TheVariants.Slot

abbrev pub got_size : List Need → ℕ
got_size needs = got.got_size (map kind_of needs)

-- how many needs stand before one
abbrev pub place_in : List Need → Need → ℕ
place_in needs need = unwrap_or (position (is_same_need need) needs) 0

-- the offset of a need from the GOT
abbrev pub offset_of : List Need → Need → ℕ
offset_of needs need = got.offset_behind (map kind_of needs) (place_in needs need) (kind_of need)

-- ---- the slots

abbrev pub slot_key : Need → Option Key
slot_key (Slot key) = Some key
slot_key need = None

-- the symbols that have slots, by number of the slot
abbrev pub slot_keys : Mode → List RelObject → List Key
slot_keys mode inputs = filter_map slot_key (all_needs mode inputs)
