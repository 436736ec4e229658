-- What symbols mean: which symbol of which module is the definition of a symbol that a module refers to (gABI, "Shared
-- Object Dependencies" and "Symbol Table": a symbol that other objects can't reach is its own definition; else the first
-- exported definition of its name in the scope of its module; a weak symbol may have none). That scopes are fixed at
-- loading, and that weak and global definitions count alike, is this loader's own.
use Rattle.std.specs.Prelude.{ℕ, Bool, not, ◌&&◌, ◌||◌, ◌==◌, List, ◌∷◌, filter, slice_get, Option, Some, None, option_and_then, if◌then◌else◌}
use Rattle.std.specs.Option.{option_map_or}
use Rattle.elf_model.specs.declared.constants.TheConstants.{STB_LOCAL, STB_WEAK, STT_SECTION, STV_DEFAULT}
use Rattle.elf_model.specs.declared.object.Object.{Object}
use Rattle.elf_model.specs.declared.object.Symbol.{Symbol}
use Rattle.symbol_scope.specs.declared.tables.Found.{Found}
use Rattle.symbol_scope.specs.Definition.{first_definition}
use Rattle.symbol_scope.specs.Exported.{is_defined, first_export}
use Rattle.load_model.specs.declared.meaning.Definition.{Definition}
use Rattle.load_model.specs.declared.meaning.Definition.TheVariants.{Symbol as Is, Nothing, Unresolved}

-- what symbols are looked up in: the object of each live module by its number, and the scope of its group
pub record Linkage : Type 0 where
  pub objects : ℕ → Option Object
  pub scopes : ℕ → List ℕ

-- whether no other module's symbol can take its place
abbrev pub is_own : Symbol → Bool
is_own s = s.binding == STB_LOCAL || (s.kind == STT_SECTION || (is_defined s.place && not (s.visibility == STV_DEFAULT)))

abbrev pub symbol_at : Object → ℕ → Option Symbol
symbol_at o s = slice_get o.symbols s

abbrev pub name_at : Object → ℕ → Option (List ℕ)
name_at o s = option_and_then (λ symbol. symbol.name) (symbol_at o s)

-- the modules in which the symbols of module m are looked up, each once: m itself first where it is symbolic (DT_SYMBOLIC)
abbrev pub scope_of : Linkage → ℕ → Object → List ℕ
scope_of l m o = if o.symbolic then m ∷ filter (λ n. not (n == m)) (l.scopes m) else l.scopes m

-- the first exported definition of a name in a module
abbrev pub export_of : Linkage → List ℕ → ℕ → Option ℕ
export_of l name m = option_and_then (λ o. first_export o.symbols name) (l.objects m)

-- what a name means in module m, whose object is o
abbrev pub lookup : Linkage → ℕ → Object → Option (List ℕ) → Option Found
lookup l m o name = option_and_then (λ n. first_definition (export_of l n) (scope_of l m o)) name

abbrev pub definition_or : Option Found → Bool → Definition
definition_or (Some found) weak = Is found
definition_or None weak = if weak then Nothing else Unresolved

-- what symbol s of module m means there
abbrev pub definition_of : Linkage → ℕ → Object → ℕ → Definition
definition_of l m o s =
    option_map_or
    (λ symbol. if is_own symbol then Is (record { «module» = m; symbol = s })
    else definition_or (lookup l m o symbol.name) (symbol.binding == STB_WEAK))
    (symbol_at o s)
    Unresolved
