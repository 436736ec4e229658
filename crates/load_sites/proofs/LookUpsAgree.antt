-- What a symbol or a site means depends on the modules in its module's scope alone.
use Rattle.std.proofs.Common.{◌≡◌, ℕ, ◌%◌, ◌&&◌, false, not, cond, Option, Some, None, Ok, Err, List, [], ◌∷◌, refl, sym, ap, ◌∙◌, All}
use mathlib.Core.Path.{fun_ext}
use Rattle.std.specs.Prelude.{filter, find, is_some, option_map, option_and_then, ◌==◌, if◌then◌else◌}
use Rattle.std.specs.Option.{option_map_or}
use Rattle.std.specs.List.{filter_map}
use Rattle.std.specs.Result.{result_err}
use Rattle.std.proofs.lemmas.List.Elements.{All-head, All-tail}
use Rattle.elf_model.specs.declared.constants.TheConstants.{STB_WEAK, R_ARM_FUNCDESC, R_ARM_FUNCDESC_VALUE, R_ARM_RELATIVE}
use Rattle.elf_model.specs.declared.func.Func.{Func}
use Rattle.elf_model.specs.declared.object.Object.{Object}
use Rattle.elf_model.specs.declared.object.Rel.{Rel}
use Rattle.elf_model.specs.declared.object.Symbol.{Symbol}
use Rattle.symbol_scope.specs.declared.tables.Found.{Found}
use Rattle.symbol_scope.specs.Definition.{first_definition}
use Rattle.symbol_scope.specs.Exported.{first_export}
use Rattle.elf_model.specs.Places.{is_executable_in}
use Rattle.load_model.specs.declared.error.LoadRefusal.TheVariants.{BadAddress, NotCode}
use Rattle.load_model.specs.declared.meaning.Definition.{Definition}
use Rattle.load_model.specs.declared.meaning.Definition.TheVariants.{Symbol as Is, Nothing, Unresolved}
use Rattle.load_model.specs.declared.meaning.SiteValue.TheVariants.{Place as Placed, Formula, Pair, Descriptor}
use Rattle.load_model.specs.declared.meaning.Value.{Value}
use Rattle.load_model.specs.declared.meaning.Value.TheVariants.{Address, Number}
use Rattle.load_model.specs.Definition.{Linkage, is_own, symbol_at, name_at, scope_of, export_of, lookup, definition_or, definition_of}
use Rattle.load_model.specs.Sites.{symbol_value, value_of, has_place, is_placed, is_code, own_address, is_unnamed, addend_of, placed_value, value_for, value_at, coded_value, function_for, function_at, relative_at, written, site_value}
use Rattle.elf_model.specs.Filled.{site_relocations}
use Rattle.load_sites.specs.parts.Laws.{OwnSymbolsStayHome, AgreeFor, LookUpsAgree}
use Rattle.load_sites.proofs.ScopeModules.{answer, FoundIn, ValueIn, in_scope, definition_in, value_in}

-- ---- own symbols

pub stays_home : OwnSymbolsStayHome
stays_home l m o s symbol at own =
    ap (λ x. option_map_or (λ y. if is_own y then Is (record { «module» = m; symbol = s }) else definition_or (lookup l m o y.name) (y.binding == STB_WEAK)) x Unresolved) at
    ∙ ap (λ b. cond b (Is (record { «module» = m; symbol = s })) (definition_or (lookup l m o symbol.name) (symbol.binding == STB_WEAK))) own

-- ---- first definitions

module _ (f g : ℕ → Option ℕ) where
  one_first : (n : ℕ) (ns : List ℕ) (x : Option ℕ) → g n ≡ x → f n ≡ x → first_definition f ns ≡ first_definition g ns → first_definition f (n ∷ ns) ≡ first_definition g (n ∷ ns)
  one_first n ns None gn fn later =
      ap (λ x. answer f (cond (is_some x) (Some n) (find (λ m. is_some (f m)) ns))) fn ∙ later
      ∙ sym (ap (λ x. answer g (cond (is_some x) (Some n) (find (λ m. is_some (g m)) ns))) gn)
  one_first n ns (Some s) gn fn later =
      ap (λ x. answer f (cond (is_some x) (Some n) (find (λ m. is_some (f m)) ns))) fn ∙ ap (option_map (λ symbol. record { «module» = n; symbol = symbol })) fn
      ∙ sym (ap (λ x. answer g (cond (is_some x) (Some n) (find (λ m. is_some (g m)) ns))) gn ∙ ap (option_map (λ symbol. record { «module» = n; symbol = symbol })) gn)

  same_first : (ns : List ℕ) → All (λ n. f n ≡ g n) ns → first_definition f ns ≡ first_definition g ns
  same_first [] all = refl
  same_first (n ∷ ns) all = one_first n ns (g n) refl (All-head (λ k. f k ≡ g k) n ns all) (same_first ns (All-tail (λ k. f k ≡ g k) n ns all))

-- ---- what symbols mean

module _ (l k : Linkage) (m : ℕ) (o : Object) (agree : AgreeFor l k m) where
  abbrev Known : ℕ → Type 0
  Known n = k.objects n ≡ l.objects n

  all_known : All Known (scope_of l m o)
  all_known = in_scope l m o Known agree.own agree.members

  same_scope : scope_of k m o ≡ scope_of l m o
  same_scope = ap (λ ns. if o.symbolic then m ∷ filter (λ n. not (n == m)) ns else ns) agree.scopes

  same_exports : (name : List ℕ) → All (λ n. export_of k name n ≡ export_of l name n) (scope_of l m o)
  same_exports name = λ i d lt. ap (option_and_then (λ x. first_export x.symbols name)) (all_known i d lt)

  same_lookup : (name : Option (List ℕ)) → lookup k m o name ≡ lookup l m o name
  same_lookup None = refl
  same_lookup (Some name) = ap (first_definition (export_of k name)) same_scope ∙ same_first (export_of k name) (export_of l name) (scope_of l m o) (same_exports name)

  pub same_definition : (s : ℕ) → definition_of k m o s ≡ definition_of l m o s
  same_definition s = by (symbol_at o s)
    where
      by : (x : Option Symbol)
          → option_map_or (λ y. if is_own y then Is (record { «module» = m; symbol = s }) else definition_or (lookup k m o y.name) (y.binding == STB_WEAK)) x Unresolved
          ≡ option_map_or (λ y. if is_own y then Is (record { «module» = m; symbol = s }) else definition_or (lookup l m o y.name) (y.binding == STB_WEAK)) x Unresolved
      by None = refl
      by (Some y) = ap (λ found. if is_own y then Is (record { «module» = m; symbol = s }) else definition_or found (y.binding == STB_WEAK)) (same_lookup y.name)

  -- the module of a definition is known
  abbrev IsKnown : Definition → Type 0
  IsKnown d = FoundIn Known d

  known_definition : (s : ℕ) → IsKnown (definition_of l m o s)
  known_definition s = definition_in l m o Known agree.own agree.members s

  -- ---- what sites mean

  same_placed : (f : Func) → Known f.module → is_placed k f ≡ is_placed l f
  same_placed f known = ap (λ x. option_map_or (λ y. has_place y.segments f.value) x false) known

  same_code : (f : Func) → Known f.module → is_code k f ≡ is_code l f
  same_code f known = ap (λ x. (f.value % 4 == 0) && option_map_or (λ y. is_executable_in y.segments f.value) x false) known

  same_value : (found : Found) → Known found.module → value_of k found ≡ value_of l found
  same_value found known = ap (λ x. option_map_or (symbol_value found.module) (option_and_then (λ y. symbol_at y found.symbol) x) (Number 0)) known

  -- the module of a value is known
  abbrev HasHome : Value → Type 0
  HasHome v = ValueIn Known v

  home_of : (found : Found) → Known found.module → HasHome (value_of l found)
  home_of found known = value_in l Known found known

  same_placed_value : (site : ℕ) (v : Value) → HasHome v → placed_value k m site v ≡ placed_value l m site v
  same_placed_value site (Number n) home = refl
  same_placed_value site (Address f) home = ap (λ b. if b then Ok (Address f) else Err (BadAddress m site)) (same_placed f home)

  same_value_for : (r : Rel) (d : Definition) → IsKnown d → value_for k m o r d ≡ value_for l m o r d
  same_value_for r (Is found) known = ap (placed_value k m r.site) (same_value found known) ∙ same_placed_value r.site (value_of l found) (home_of found known)
  same_value_for r Nothing known = refl
  same_value_for r Unresolved known = refl

  same_value_at : (r : Rel) → value_at k m o r ≡ value_at l m o r
  same_value_at r =
      ap (λ x. if r.symbol == 0 then Ok (Number 0) else x)
      (ap (value_for k m o r) (same_definition r.symbol) ∙ same_value_for r (definition_of l m o r.symbol) (known_definition r.symbol))

  same_coded_value : (name : Option (List ℕ)) (v : Value) → HasHome v → coded_value k m name v ≡ coded_value l m name v
  same_coded_value name (Number n) home = refl
  same_coded_value name (Address f) home = ap (λ b. if b then Ok (Some f) else Err (NotCode m name)) (same_code f home)

  same_function_for : (r : Rel) (d : Definition) → IsKnown d → function_for k m o r d ≡ function_for l m o r d
  same_function_for r (Is found) known =
      ap (coded_value k m (name_at o r.symbol)) (same_value found known) ∙ same_coded_value (name_at o r.symbol) (value_of l found) (home_of found known)
  same_function_for r Nothing known = refl
  same_function_for r Unresolved known = refl

  same_function_at : (r : Rel) → function_at k m o r ≡ function_at l m o r
  same_function_at r =
      let f = own_address m o r in
      let own = ap (λ b. if b then Ok (Some f) else Err (BadAddress m r.site)) (same_code f agree.own) in
      let named = ap (function_for k m o r) (same_definition r.symbol) ∙ same_function_for r (definition_of l m o r.symbol) (known_definition r.symbol) in
      λ i. if is_unnamed o r.symbol then own i else named i

  same_relative_at : (r : Rel) → relative_at k m o r ≡ relative_at l m o r
  same_relative_at r =
      let f : Func = record { «module» = m; value = addend_of o r } in
      ap (λ b. if b then Ok f else Err (BadAddress m r.site)) (same_placed f agree.own)

  pub same_site_value : (r : Rel) → site_value k m o r ≡ site_value l m o r
  unfolding site_value
  same_site_value r = λ i.
      if r.kind == R_ARM_RELATIVE then written Placed (same_relative_at r i)
      else (if r.kind == R_ARM_FUNCDESC then written Descriptor (same_function_at r i)
      else (if r.kind == R_ARM_FUNCDESC_VALUE then written Pair (same_function_at r i)
      else written Formula (same_value_at r i)))

pub mean_the_same : LookUpsAgree
mean_the_same l k m o agree = record {
  definitions = same_definition l k m o agree;
  values = same_site_value l k m o agree;
  refusals = ap (λ f. filter_map (λ r. result_err (f r)) (site_relocations o)) (fun_ext (same_site_value l k m o agree));
}
