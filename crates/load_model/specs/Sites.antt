-- What loading writes at the places that it fills, before anything is placed (ELF for the Arm Architecture, "Dynamic
-- relocations"; Arm FDPIC ABI, "Relocations" and "rofixup"), or why it can't.
use Rattle.std.specs.Prelude.{ℕ, ◌+◌, ◌%◌, ◌^◌, Bool, true, false, option_and_then, ◌&&◌, ◌||◌, ◌==◌, List, slice_get, Option, Some, None, Result, Ok, Err, if◌then◌else◌}
use Rattle.std.specs.Option.{option_map_or}
use Rattle.std.specs.List.{list_any, filter_map, flat_map}
use Rattle.std.specs.Result.{result_err}
use Rattle.elf_model.specs.Filled.{site_relocations}
use Rattle.elf_model.specs.declared.constants.TheConstants.{R_ARM_FUNCDESC, R_ARM_FUNCDESC_VALUE, R_ARM_RELATIVE, STT_SECTION}
use Rattle.elf_model.specs.declared.func.Func.{Func}
use Rattle.elf_model.specs.declared.object.Object.{Object}
use Rattle.elf_model.specs.declared.object.Place.{Place}
use Rattle.elf_model.specs.declared.object.Place.TheVariants.{Undefined, Absolute, Here, Common, Section, Dropped}
use Rattle.elf_model.specs.declared.object.Rel.{Rel}
use Rattle.elf_model.specs.declared.object.Segment.{Segment}
use Rattle.elf_model.specs.declared.object.Symbol.{Symbol}
use Rattle.elf_model.specs.Places.{file_word, is_held_in, is_executable_in}
use Rattle.symbol_scope.specs.declared.tables.Found.{Found}
use Rattle.load_model.specs.declared.error.LoadRefusal.{LoadRefusal}
use Rattle.load_model.specs.declared.error.LoadRefusal.TheVariants.{Unresolved as IsUnresolved, NotCode, BadAddress}
use Rattle.load_model.specs.declared.meaning.Definition.{Definition}
use Rattle.load_model.specs.declared.meaning.Definition.TheVariants.{Symbol as Is, Nothing, Unresolved}
use Rattle.load_model.specs.declared.meaning.SiteValue.{SiteValue}
use Rattle.load_model.specs.declared.meaning.SiteValue.TheVariants.{Place as Placed, Formula, Pair, Descriptor}
use Rattle.load_model.specs.declared.meaning.Value.{Value}
use Rattle.load_model.specs.declared.meaning.Value.TheVariants.{Address, Number}
use Rattle.load_model.specs.Definition.{Linkage, definition_of, name_at, symbol_at}

-- ---- sites

-- the addend is the file's word at the site
abbrev pub addend_of : Object → Rel → ℕ
addend_of o r = file_word o.segments r.site

-- ---- values of symbols

abbrev pub is_absolute : Place → Bool
is_absolute Undefined = false
is_absolute Absolute = true
is_absolute Here = false
is_absolute Common = false
is_absolute (Section n) = false
is_absolute Dropped = false

-- a symbol of module m: a link address, unless it is absolute
abbrev pub symbol_value : ℕ → Symbol → Value
symbol_value m s = if is_absolute s.place then Number s.value else Address (record { «module» = m; value = s.value })

abbrev pub value_of : Linkage → Found → Value
value_of l found =
    option_map_or (symbol_value found.module) (option_and_then (λ o. symbol_at o found.symbol) (l.objects found.module)) (Number 0)

-- ---- link addresses

-- whether a segment holds the link address or ends at it: then it is placed where the segment is
abbrev pub is_end_of_segment : Segment → ℕ → Bool
is_end_of_segment s v = v == s.vaddr + s.memsz

abbrev pub has_place : List Segment → ℕ → Bool
has_place ss v = list_any (λ s. is_held_in s v || is_end_of_segment s v) ss

abbrev pub is_placed : Linkage → Func → Bool
is_placed l f = option_map_or (λ o. has_place o.segments f.value) (l.objects f.module) false

-- whether an instruction may stand there
abbrev pub is_code : Linkage → Func → Bool
is_code l f = f.value % 4 == 0 && option_map_or (λ o. is_executable_in o.segments f.value) (l.objects f.module) false

-- ---- what a site refers to

-- a reference by symbol 0 or by a section's symbol: what it means is told by the addend
abbrev pub is_unnamed : Object → ℕ → Bool
is_unnamed o s = s == 0 || option_map_or (λ symbol. symbol.kind == STT_SECTION) (symbol_at o s) false

abbrev pub base_of : Object → ℕ → ℕ
base_of o s = if s == 0 then 0 else option_map_or (λ symbol. symbol.value) (symbol_at o s) 0

-- the link address of the module itself that such a reference names
abbrev pub own_address : ℕ → Object → Rel → Func
own_address m o r = record { «module» = m; value = (addend_of o r + base_of o r.symbol) % 2 ^ 32 }

-- the value of a symbol, where it is a number or has a place
abbrev pub placed_value : Linkage → ℕ → ℕ → Value → Result Value LoadRefusal
placed_value l m site (Number n) = Ok (Number n)
placed_value l m site (Address f) = if is_placed l f then Ok (Address f) else Err (BadAddress m site)

abbrev pub value_for : Linkage → ℕ → Object → Rel → Definition → Result Value LoadRefusal
value_for l m o r (Is found) = placed_value l m r.site (value_of l found)
value_for l m o r Nothing = Ok (Number 0)
value_for l m o r Unresolved = Err (IsUnresolved m (name_at o r.symbol))

-- S of a relocation
abbrev pub value_at : Linkage → ℕ → Object → Rel → Result Value LoadRefusal
value_at l m o r = if r.symbol == 0 then Ok (Number 0) else value_for l m o r (definition_of l m o r.symbol)

-- a function by a named symbol's value
abbrev pub coded_value : Linkage → ℕ → Option (List ℕ) → Value → Result (Option Func) LoadRefusal
coded_value l m name (Number n) = Err (NotCode m name)
coded_value l m name (Address f) = if is_code l f then Ok (Some f) else Err (NotCode m name)

abbrev pub function_for : Linkage → ℕ → Object → Rel → Definition → Result (Option Func) LoadRefusal
function_for l m o r (Is found) = coded_value l m (name_at o r.symbol) (value_of l found)
function_for l m o r Nothing = Ok None
function_for l m o r Unresolved = Err (IsUnresolved m (name_at o r.symbol))

-- the function that a site refers to
abbrev pub function_at : Linkage → ℕ → Object → Rel → Result (Option Func) LoadRefusal
function_at l m o r =
    if is_unnamed o r.symbol
    then (if is_code l (own_address m o r) then Ok (Some (own_address m o r)) else Err (BadAddress m r.site))
    else function_for l m o r (definition_of l m o r.symbol)

-- a link address of the module itself, told by the addend alone
abbrev pub relative_at : Linkage → ℕ → Object → Rel → Result Func LoadRefusal
relative_at l m o r =
    if is_placed l (record { «module» = m; value = addend_of o r }) then Ok (record { «module» = m; value = addend_of o r }) else Err (BadAddress m r.site)

-- ---- what is written

abbrev pub written : {X : Type 0} → (X → SiteValue) → Result X LoadRefusal → Result SiteValue LoadRefusal
written value (Ok x) = Ok (value x)
written value (Err r) = Err r

unfoldable pub site_value : Linkage → ℕ → Object → Rel → Result SiteValue LoadRefusal
site_value l m o r =
    if r.kind == R_ARM_RELATIVE then written Placed (relative_at l m o r)
    else if r.kind == R_ARM_FUNCDESC then written Descriptor (function_at l m o r)
    else if r.kind == R_ARM_FUNCDESC_VALUE then written Pair (function_at l m o r)
    else written Formula (value_at l m o r)

-- why sites of module m can't be filled, in the order of its sites
abbrev pub refusals_of : Linkage → ℕ → Object → List LoadRefusal
refusals_of l m o = filter_map (λ r. result_err (site_value l m o r)) (site_relocations o)

-- a module by number, with its object
abbrev pub Member : Type 0
Member = ℕ × Object

-- the first of all sites of these modules that can't be filled, and why
abbrev pub first_refusal : Linkage → List Member → Option LoadRefusal
first_refusal l members = slice_get (flat_map (λ m. refusals_of l m.0 m.1) members) 0
