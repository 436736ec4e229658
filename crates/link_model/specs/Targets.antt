-- What each symbol is once all inputs are joined, and who settles it: the linker or the loader (gABI, "Symbol Table",
-- symbol visibility; "Shared Object Dependencies").
use Rattle.std.specs.Prelude.{ℕ, Bool, true, false, not, ◌&&◌, ◌||◌, ◌==◌, nat_lt, List, [], ◌∷◌, length, map, position, slice_get, Option, Some, None, is_none, unwrap_or, if◌then◌else◌}
use Rattle.std.specs.Option.{option_map_or}
use Rattle.std.specs.List.{flat_map}
use Rattle.std.specs.Str.{bytes_eq}
use Rattle.elf_model.specs.declared.constants.TheConstants.{STB_GLOBAL, STB_WEAK, STT_NOTYPE, STV_DEFAULT}
use Rattle.elf_model.specs.declared.object.Place.{Place}
use Rattle.elf_model.specs.declared.object.Place.TheVariants.{Absolute as AtNumber, Section as InSection}
use Rattle.elf_model.specs.declared.relocatable.RelObject.{RelObject}
use Rattle.elf_model.specs.Test.{Test, fails_with}
use Rattle.link_model.specs.declared.error.LinkRefusal.{LinkRefusal}
use Rattle.link_model.specs.declared.error.LinkRefusal.TheVariants.{Twice, Undefined}
use Rattle.link_model.specs.declared.input.Mode.{Mode}
use Rattle.link_model.specs.declared.input.Mode.TheVariants.{Shared, Static}
use Rattle.link_model.specs.declared.target.Key.{Key}
use Rattle.link_model.specs.declared.target.Key.TheVariants.{Name, Own}
use Rattle.link_model.specs.declared.target.Spot.{Spot}
use Rattle.link_model.specs.declared.target.Spot.TheVariants.{Nowhere, Absolute, Section, Common}
use Rattle.link_model.specs.declared.target.Reach.{Reach}
use Rattle.link_model.specs.declared.target.Reach.TheVariants.{Settled, Nothing, Dynamic}
use Rattle.link_model.specs.declared.target.Target.{Target}
use Rattle.link_model.specs.Inputs.{InputSymbol, symbol_of, section_number}
use Rattle.link_model.specs.Joined.{is_joined, names_of, of_name, definitions_of, definition_taken, is_common, visibility_of, all_weak, common_size, common_align, first_of}

-- ---- modes

abbrev pub is_shared : Mode → Bool
is_shared Shared = true
is_shared mode = false

abbrev pub is_static : Mode → Bool
is_static Static = true
is_static mode = false

-- ---- who settles a symbol

abbrev pub is_settled : Reach → Bool
is_settled Settled = true
is_settled reach = false

abbrev pub is_nothing : Reach → Bool
is_nothing Nothing = true
is_nothing reach = false

abbrev pub is_dynamic : Reach → Bool
is_dynamic Dynamic = true
is_dynamic reach = false

-- whether another object can take the place of what a shared object defines
abbrev pub is_preemptible : Mode → ℕ → Bool
is_preemptible mode visibility = is_shared mode && visibility == STV_DEFAULT

-- whether no other object can define what the inputs don't
abbrev pub is_closed : Mode → ℕ → Bool
is_closed mode visibility = is_static mode || not (visibility == STV_DEFAULT)

-- ---- where a symbol is defined

abbrev pub spot_of : List RelObject → InputSymbol → Place → Spot
spot_of inputs x AtNumber = Absolute (x.symbol).value
spot_of inputs x (InSection n) = Section (section_number inputs x.input n) (x.symbol).value
spot_of inputs x place = Nowhere

abbrev pub is_nowhere : Spot → Bool
is_nowhere Nowhere = true
is_nowhere spot = false

abbrev pub is_absolute : Spot → Bool
is_absolute (Absolute v) = true
is_absolute spot = false

abbrev pub is_block : Spot → Bool
is_block (Common k) = true
is_block spot = false

-- ---- the symbols of a name

-- what no input defines
abbrev pub undefined_target : Mode → ℕ → List InputSymbol → Target
undefined_target mode k xs = record {
  key = Name k;
  spot = Nowhere;
  reach = if is_closed mode (visibility_of xs) then Nothing else Dynamic;
  binding = if all_weak xs then STB_WEAK else STB_GLOBAL;
  kind = option_map_or (λ x. (x.symbol).kind) (first_of xs) STT_NOTYPE;
  visibility = visibility_of xs;
  size = 0;
  align = 1;
}

-- what is defined by the symbol that is taken
abbrev pub defined_target : Mode → List RelObject → ℕ → List InputSymbol → InputSymbol → Target
defined_target mode inputs k xs taken = record {
  key = Name k;
  spot = if is_common (taken.symbol).place then Common k else spot_of inputs taken (taken.symbol).place;
  reach = if is_preemptible mode (visibility_of xs) then Dynamic else Settled;
  binding = (taken.symbol).binding;
  kind = (taken.symbol).kind;
  visibility = visibility_of xs;
  size = if is_common (taken.symbol).place then common_size xs else (taken.symbol).size;
  align = if is_common (taken.symbol).place then common_align xs else 1;
}

abbrev pub joined_target : Mode → List RelObject → ℕ → List InputSymbol → Option InputSymbol → Target
joined_target mode inputs k xs None = undefined_target mode k xs
joined_target mode inputs k xs (Some taken) = defined_target mode inputs k xs taken

-- the number of a name
abbrev pub name_number : List RelObject → List ℕ → ℕ
name_number inputs name = unwrap_or (position (bytes_eq name) (names_of inputs)) 0

abbrev pub target_of_name : Mode → List RelObject → List ℕ → Target
target_of_name mode inputs name =
    let xs = of_name inputs name in
    joined_target mode inputs (name_number inputs name) xs (definition_taken xs)

-- those of all names
abbrev pub targets_of : Mode → List RelObject → List Target
targets_of mode inputs = map (target_of_name mode inputs) (names_of inputs)

-- ---- any symbol

abbrev pub own_target : List RelObject → InputSymbol → Target
own_target inputs x = record {
  key = Own x.input x.number;
  spot = spot_of inputs x (x.symbol).place;
  reach = Settled;
  binding = (x.symbol).binding;
  kind = (x.symbol).kind;
  visibility = (x.symbol).visibility;
  size = (x.symbol).size;
  align = 1;
}

-- what symbol n of input i is
unfoldable pub target_of : Mode → List RelObject → ℕ → ℕ → Target
target_of mode inputs i n =
    let s = symbol_of inputs i n in
    if is_joined s then target_of_name mode inputs (unwrap_or s.name []) else own_target inputs (record { input = i; number = n; symbol = s })

-- what a key stands for
abbrev pub target_of_key : Mode → List RelObject → Key → Target
target_of_key mode inputs (Name k) = target_of_name mode inputs (unwrap_or (slice_get (names_of inputs) k) [])
target_of_key mode inputs (Own i n) = target_of mode inputs i n

abbrev pub name_of_key : List RelObject → Key → Option (List ℕ)
name_of_key inputs (Name k) = slice_get (names_of inputs) k
name_of_key inputs (Own i n) = None

-- the numbers that tell keys apart
abbrev pub key_code : Key → List ℕ
key_code (Name k) = 0 ∷ k ∷ []
key_code (Own i n) = 1 ∷ i ∷ n ∷ []

abbrev pub is_same_key : Key → Key → Bool
is_same_key a b = bytes_eq (key_code a) (key_code b)

-- ---- tests

abbrev pub LinkTest : Type 0
LinkTest = Test LinkRefusal

abbrev pub refuses : LinkRefusal → Bool → LinkTest
refuses refusal fails = fails_with {Refusal = LinkRefusal} refusal fails

abbrev pub name_tests : Mode → List RelObject → List ℕ → List LinkTest
name_tests mode inputs name =
    let xs = of_name inputs name in
    refuses (Twice name) (nat_lt 1 (length (definitions_of STB_GLOBAL xs)))
    ∷ refuses (Undefined name) (is_none (definition_taken xs) && (not (all_weak xs) && is_closed mode (visibility_of xs)))
    ∷ []

-- by first appearance
unfoldable pub all_name_tests : Mode → List RelObject → List LinkTest
all_name_tests mode inputs = flat_map (name_tests mode inputs) (names_of inputs)
