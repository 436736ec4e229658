-- What the sites of a module name lies in the module itself, or in one of its scope.
use Rattle.std.proofs.Common.{◌≡◌, ◌⊎◌, inl, inr, ℕ, cond, Option, Some, None, Ok, Err, List, refl, subst, ◌∙◌, All}
use Rattle.std.specs.Prelude.{◌==◌}
use Rattle.fd_base.proofs.Members.{all_contained}
use Rattle.elf_model.specs.declared.constants.TheConstants.{R_ARM_FUNCDESC, R_ARM_FUNCDESC_VALUE, R_ARM_RELATIVE}
use Rattle.elf_model.specs.declared.func.Func.{Func}
use Rattle.elf_model.specs.declared.object.Object.{Object}
use Rattle.elf_model.specs.declared.object.Rel.{Rel}
use Rattle.load_model.specs.declared.error.LoadRefusal.TheVariants.{BadAddress, NotCode}
use Rattle.load_model.specs.declared.meaning.Definition.{Definition}
use Rattle.load_model.specs.declared.meaning.Definition.TheVariants.{Symbol as Is, Nothing, Unresolved}
use Rattle.load_model.specs.declared.meaning.SiteValue.{SiteValue}
use Rattle.load_model.specs.declared.meaning.SiteValue.TheVariants.{Place as Placed, Formula, Pair, Descriptor}
use Rattle.load_model.specs.declared.meaning.Value.{Value}
use Rattle.load_model.specs.declared.meaning.Value.TheVariants.{Address, Number}
use Rattle.load_model.specs.Definition.{Linkage, definition_of, name_at}
use Rattle.load_model.specs.Sites.{value_of, is_placed, is_code, own_address, is_unnamed, addend_of, placed_value, value_for, value_at, coded_value, function_for, function_at, relative_at, written, site_value}
use Rattle.load_sites.specs.parts.Laws.{IsNear, SitesNameNearModules, named_by}
use Rattle.load_sites.proofs.GivenValues.{IfGiven, tested, chosen, as_written}
use Rattle.load_sites.proofs.ScopeModules.{FoundIn, ValueIn, definition_in, value_in}

module _ (l : Linkage) (m : ℕ) (o : Object) where
  abbrev Near : ℕ → Type 0
  Near n = IsNear l m n

  members : All Near (l.scopes m)
  members = all_contained Near (l.scopes m) (λ n there. inr there)

  near_definition : (s : ℕ) → FoundIn Near (definition_of l m o s)
  near_definition s = definition_in l m o Near (inl refl) members s

  -- ---- what is named is near

  abbrev NearIf : Option Func → Type 0
  NearIf None = Unit {0}
  NearIf (Some f) = Near f.module

  abbrev NearValue : SiteValue → Type 0
  NearValue v = NearIf (named_by v)

  coded : (name : Option (List ℕ)) (v : Value) → ValueIn Near v → IfGiven NearIf (coded_value l m name v)
  coded name (Number n) near = tt
  coded name (Address f) near = tested NearIf (Some f) (NotCode m name) (is_code l f) (is_code l f) (λ is. near) refl

  function_near_for : (r : Rel) (d : Definition) → FoundIn Near d → IfGiven NearIf (function_for l m o r d)
  function_near_for r (Is found) near = coded (name_at o r.symbol) (value_of l found) (value_in l Near found near)
  function_near_for r Nothing near = tt
  function_near_for r Unresolved near = tt

  function_near : (r : Rel) → IfGiven NearIf (function_at l m o r)
  function_near r =
      let f = own_address m o r in
      chosen NearIf (is_unnamed o r.symbol) (cond (is_code l f) (Ok (Some f)) (Err (BadAddress m r.site))) (function_for l m o r (definition_of l m o r.symbol))
      (tested NearIf (Some f) (BadAddress m r.site) (is_code l f) (is_code l f) (λ is. inl refl) refl)
      (function_near_for r (definition_of l m o r.symbol) (near_definition r.symbol))

  value_near : (site : ℕ) (v : Value) → ValueIn Near v → IfGiven (ValueIn Near) (placed_value l m site v)
  value_near site (Number n) near = tt
  value_near site (Address f) near = tested (ValueIn Near) (Address f) (BadAddress m site) (is_placed l f) (is_placed l f) (λ is. near) refl

  value_near_for : (r : Rel) (d : Definition) → FoundIn Near d → IfGiven (ValueIn Near) (value_for l m o r d)
  value_near_for r (Is found) near = value_near r.site (value_of l found) (value_in l Near found near)
  value_near_for r Nothing near = tt
  value_near_for r Unresolved near = tt

  relative_near : (r : Rel) → IfGiven (λ f. Near f.module) (relative_at l m o r)
  relative_near r =
      let f : Func = record { «module» = m; value = addend_of o r } in
      tested (λ x. Near x.module) f (BadAddress m r.site) (is_placed l f) (is_placed l f) (λ is. inl refl) refl

  as_formula : (v : Value) → ValueIn Near v → NearValue (Formula v)
  as_formula (Number n) near = tt
  as_formula (Address f) near = near

  site_near : (r : Rel) → IfGiven NearValue (site_value l m o r)
  unfolding site_value
  site_near r =
      let place = written Placed (relative_at l m o r) in
      let descriptor = written Descriptor (function_at l m o r) in
      let pair = written Pair (function_at l m o r) in
      let formula = written Formula (value_at l m o r) in
      let formulas =
      as_written NearValue Formula (ValueIn Near) as_formula (value_at l m o r)
      (chosen (ValueIn Near) (r.symbol == 0) (Ok (Number 0)) (value_for l m o r (definition_of l m o r.symbol)) tt
      (value_near_for r (definition_of l m o r.symbol) (near_definition r.symbol))) in
      let pairs = as_written NearValue Pair NearIf (λ f p. p) (function_at l m o r) (function_near r) in
      let descriptors = as_written NearValue Descriptor NearIf (λ f p. p) (function_at l m o r) (function_near r) in
      let places = as_written NearValue Placed (λ f. Near f.module) (λ f p. p) (relative_at l m o r) (relative_near r) in
      let rest = cond (r.kind == R_ARM_FUNCDESC_VALUE) pair formula in
      chosen NearValue (r.kind == R_ARM_RELATIVE) place (cond (r.kind == R_ARM_FUNCDESC) descriptor rest) places
      (chosen NearValue (r.kind == R_ARM_FUNCDESC) descriptor rest descriptors
      (chosen NearValue (r.kind == R_ARM_FUNCDESC_VALUE) pair formula pairs formulas))

pub names_near : SitesNameNearModules
names_near l m o r v f is names =
    let near : IfGiven (NearValue l m o) (Ok v) = subst (IfGiven (NearValue l m o)) is (site_near l m o r) in
    subst (NearIf l m o) names near
