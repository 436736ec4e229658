-- The descriptors of functions (Arm FDPIC ABI, "Function Descriptors"): one address for each function. A module may have
-- descriptors of its own functions; the first of each is the function's. Every other function that a site asks for gets
-- one of the loader's slots. The order in which slots are given is this loader's own.
use Rattle.std.specs.Prelude.{ℕ, Bool, false, not, ◌&&◌, ◌||◌, ◌==◌, List, filter, Option, None, is_some, option_map, Result, Ok, Err, if◌then◌else◌}
use Rattle.std.specs.Option.{option_map_or, option_or}
use Rattle.std.specs.List.{find, filter_map, flat_map}
use Rattle.elf_model.specs.declared.constants.TheConstants.{R_ARM_FUNCDESC_VALUE}
use Rattle.elf_model.specs.declared.func.Func.{Func}
use Rattle.elf_model.specs.declared.object.Object.{Object}
use Rattle.elf_model.specs.declared.object.Rel.{Rel}
use Rattle.symbol_scope.specs.Closure.{firsts}
use Rattle.load_model.specs.declared.error.LoadRefusal.{LoadRefusal}
use Rattle.load_model.specs.declared.meaning.SiteValue.{SiteValue}
use Rattle.load_model.specs.declared.meaning.SiteValue.TheVariants.{Place as Placed, Formula, Pair, Stub, Descriptor}
use Rattle.load_model.specs.Definition.{Linkage, is_own, symbol_at}
use Rattle.load_model.specs.Sites.{Member, site_value}

abbrev pub is_same_func : Func → Func → Bool
is_same_func f g = f.module == g.module && f.value == g.value

-- a descriptor of the module's own, of a function of the module: R_ARM_FUNCDESC_VALUE in DT_REL on symbol 0, or on a
-- symbol that is its own definition
abbrev pub is_private : Object → Rel → Bool
is_private o r = r.kind == R_ARM_FUNCDESC_VALUE && (r.symbol == 0 || option_map_or is_own (symbol_at o r.symbol) false)

-- the function of a descriptor pair
abbrev pub pair_of : Result SiteValue LoadRefusal → Option Func
pair_of (Ok (Placed f)) = None
pair_of (Ok (Formula v)) = None
pair_of (Ok (Pair f)) = f
pair_of (Ok (Stub z)) = None
pair_of (Ok (Descriptor f)) = None
pair_of (Err r) = None

-- the function whose descriptor's address is written
abbrev pub descriptor_of : Result SiteValue LoadRefusal → Option Func
descriptor_of (Ok (Placed f)) = None
descriptor_of (Ok (Formula v)) = None
descriptor_of (Ok (Pair f)) = None
descriptor_of (Ok (Stub z)) = None
descriptor_of (Ok (Descriptor f)) = f
descriptor_of (Err r) = None

-- the functions of a module that have a private descriptor, each with the site, in table order
abbrev pub private_at : Linkage → ℕ → Object → Rel → Option (Func × ℕ)
private_at l m o r = if is_private o r then option_map (λ f. (f, r.site)) (pair_of (site_value l m o r)) else None

abbrev pub privates_of : Linkage → Member → List (Func × ℕ)
privates_of l m = filter_map (private_at l m.0 m.1) m.1.rels

-- the same of these modules in order
abbrev pub privates : Linkage → List Member → List (Func × ℕ)
privates l members = flat_map (privates_of l) members

-- the functions whose descriptor's address a module's sites ask for, in table order
abbrev pub asked_of : Linkage → Member → List Func
asked_of l m = filter_map (λ r. descriptor_of (site_value l m.0 m.1 r)) m.1.rels

-- whether a function has a descriptor in this list
abbrev pub is_listed : {X : Type 0} → List (Func × X) → Func → Bool
is_listed entries f = is_some (find (λ e. is_same_func f e.0) entries)

-- The functions that need a slot, each once, in the order in which they are asked for: those that had no descriptor's
-- address before, and that have no private descriptor.
abbrev pub wanted : Linkage → (Func → Option ℕ) → List Member → List Func
wanted l had members =
    firsts is_same_func
    (filter (λ f. not (is_some (had f) || is_listed (privates l members) f)) (flat_map (asked_of l) members))

-- the address that a list gives a function
abbrev pub listed_addr : List (Func × ℕ) → Func → Option ℕ
listed_addr entries f = option_map (λ e. e.1) (find (λ e. is_same_func f e.0) entries)

-- Each function's address after a load: the one that it had, or that of its first private descriptor, where those are
-- placed at these addresses, or the next free slot.
abbrev pub descriptors_after : (Func → Option ℕ) → List (Func × ℕ) → List (Func × ℕ) → Func → Option ℕ
descriptors_after had placed given f = option_or (had f) (option_or (listed_addr placed f) (listed_addr given f))
