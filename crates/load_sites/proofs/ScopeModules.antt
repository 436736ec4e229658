-- What holds of a module and of those in its scope holds of the modules in which its symbols are found.
use Rattle.std.proofs.Common.{◌≡◌, ℕ, Bool, true, false, not, cond, Option, Some, None, List, [], ◌∷◌, refl, sym, ap, subst, ◌∙◌, All}
use Rattle.std.specs.Prelude.{filter, find, is_some, option_map, option_and_then, ◌==◌, if◌then◌else◌}
use Rattle.std.specs.Option.{option_map_or}
use Rattle.std.proofs.lemmas.List.Elements.{All-cons, All-head, All-tail, All-filter}
use Rattle.elf_model.specs.declared.constants.TheConstants.{STB_WEAK}
use Rattle.elf_model.specs.declared.object.Object.{Object}
use Rattle.elf_model.specs.declared.object.Symbol.{Symbol}
use Rattle.symbol_scope.specs.declared.tables.Found.{Found}
use Rattle.symbol_scope.specs.Definition.{first_definition}
use Rattle.load_model.specs.declared.meaning.Definition.{Definition}
use Rattle.load_model.specs.declared.meaning.Definition.TheVariants.{Symbol as Is, Nothing, Unresolved}
use Rattle.load_model.specs.declared.meaning.Value.{Value}
use Rattle.load_model.specs.declared.meaning.Value.TheVariants.{Address, Number}
use Rattle.load_model.specs.Definition.{Linkage, is_own, symbol_at, scope_of, export_of, lookup, definition_or, definition_of}
use Rattle.load_model.specs.Sites.{is_absolute, symbol_value, value_of}

abbrev pub answer : (ℕ → Option ℕ) → Option ℕ → Option Found
answer f place = option_and_then (λ m. option_map (λ symbol. record { «module» = m; symbol = symbol }) (f m)) place

-- the module of what is found is one of those that are looked through
found_among : (P : ℕ → Type 0) (f : ℕ → Option ℕ) (ns : List ℕ) → All P ns → (found : Found) → first_definition f ns ≡ Some found → P found.module
found_among P f [] all found is = absurd (none_found found is)
  where
    none_found : (found : Found) → None ≡ Some found → ⊥
    none_found found is = cc
found_among P f (n ∷ ns) all found is = here (f n) refl (λ later. found_among P f ns (All-tail P n ns all) found later)
  where
    here : (x : Option ℕ) → f n ≡ x → (first_definition f ns ≡ Some found → P found.module) → P found.module
    here None fn rest = rest (sym (ap (λ x. answer f (cond (is_some x) (Some n) (find (λ m. is_some (f m)) ns))) fn) ∙ is)
    here (Some s) fn rest =
        let made : Found = record { «module» = n; symbol = s } in
        let whole : Some made ≡ Some found =
        sym (ap (λ x. answer f (cond (is_some x) (Some n) (find (λ m. is_some (f m)) ns))) fn ∙ ap (option_map (λ symbol. record { «module» = n; symbol = symbol })) fn) ∙ is in
        let same : made ≡ found = cc in
        subst (λ x. P x.module) same (All-head P n ns all)

-- this holds of the module of a definition
abbrev pub FoundIn : (ℕ → Type 0) → Definition → Type 0
FoundIn P (Is found) = P found.module
FoundIn P Nothing = Unit {0}
FoundIn P Unresolved = Unit {0}

-- this holds of the module of a value
abbrev pub ValueIn : (ℕ → Type 0) → Value → Type 0
ValueIn P (Number n) = Unit {0}
ValueIn P (Address f) = P f.module

module _ (l : Linkage) (m : ℕ) (o : Object) (P : ℕ → Type 0) (own : P m) (members : All P (l.scopes m)) where
  pub in_scope : All P (scope_of l m o)
  in_scope = by o.symbolic
    where
      by : (b : Bool) → All P (cond b (m ∷ filter (λ n. not (n == m)) (l.scopes m)) (l.scopes m))
      by true = All-cons P m (filter (λ n. not (n == m)) (l.scopes m)) own (All-filter (λ n. not (n == m)) P (l.scopes m) members)
      by false = members

  found_or : (x : Option Found) (weak : Bool) → ((found : Found) → x ≡ Some found → P found.module) → FoundIn P (definition_or x weak)
  found_or (Some found) weak known = known found refl
  found_or None true known = tt
  found_or None false known = tt

  looked_up : (name : Option (List ℕ)) (found : Found) → lookup l m o name ≡ Some found → P found.module
  looked_up None found is = absurd (none_found found is)
    where
      none_found : (found : Found) → None ≡ Some found → ⊥
      none_found found is = cc
  looked_up (Some name) found is = found_among P (export_of l name) (scope_of l m o) in_scope found is

  of_symbol : (s : ℕ) (y : Symbol) (b : Bool) → FoundIn P (cond b (Is (record { «module» = m; symbol = s })) (definition_or (lookup l m o y.name) (y.binding == STB_WEAK)))
  of_symbol s y true = own
  of_symbol s y false = found_or (lookup l m o y.name) (y.binding == STB_WEAK) (looked_up y.name)

  pub definition_in : (s : ℕ) → FoundIn P (definition_of l m o s)
  definition_in s = by (symbol_at o s)
    where
      by : (x : Option Symbol)
          → FoundIn P (option_map_or (λ y. if is_own y then Is (record { «module» = m; symbol = s }) else definition_or (lookup l m o y.name) (y.binding == STB_WEAK)) x Unresolved)
      by None = tt
      by (Some y) = of_symbol s y (is_own y)

-- the value of a symbol is a place of its own module, or a number
pub value_in : (l : Linkage) (P : ℕ → Type 0) (found : Found) → P found.module → ValueIn P (value_of l found)
value_in l P found known = by (option_and_then (λ y. symbol_at y found.symbol) (l.objects found.module))
  where
    one : (b : Bool) (v : ℕ) → ValueIn P (cond b (Number v) (Address (record { «module» = found.module; value = v })))
    one true v = tt
    one false v = known

    by : (x : Option Symbol) → ValueIn P (option_map_or (symbol_value found.module) x (Number 0))
    by None = tt
    by (Some y) = one (is_absolute y.place) y.value
