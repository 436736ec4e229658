-- Why new modules can't be linked, as the refusal of a load.
use Rattle.std.proofs.Common.{◌≡◌, ℕ, Bool, true, false, cond, Option, Some, Result, Ok, Err, List, subst}
use Rattle.std.specs.Prelude.{◌==◌}
use Rattle.std.specs.List.{flat_map}
use Rattle.std.specs.Result.{result_err}
use Rattle.fd_base.specs.Fetched.{Files}
use Rattle.elf_model.specs.declared.constants.TheConstants.{R_ARM_FUNCDESC, R_ARM_FUNCDESC_VALUE, R_ARM_RELATIVE}
use Rattle.elf_model.specs.declared.func.Func.{Func}
use Rattle.elf_model.specs.declared.object.Object.{Object}
use Rattle.elf_model.specs.declared.object.Rel.{Rel}
use Rattle.load_model.specs.declared.error.LoadErr.{LoadErr}
use Rattle.load_model.specs.declared.error.LoadErr.TheVariants.{Refused, StoreFault, Memory}
use Rattle.load_model.specs.declared.error.LoadRefusal.{LoadRefusal}
use Rattle.load_model.specs.declared.error.LoadRefusal.TheVariants.{NotBuilt, Elf, NoFile, TooLong, TooManyModules, Unresolved, NotCode, DescriptorsFull, NoRoom, BadAddress}
use Rattle.load_model.specs.declared.meaning.Definition.{Definition}
use Rattle.load_model.specs.declared.meaning.Definition.TheVariants.{Symbol as Is, Nothing, Unresolved as NoDefinition}
use Rattle.load_model.specs.declared.meaning.SiteValue.{SiteValue}
use Rattle.load_model.specs.declared.meaning.SiteValue.TheVariants.{Place as Placed, Formula, Pair, Descriptor}
use Rattle.load_model.specs.declared.meaning.Value.{Value}
use Rattle.load_model.specs.declared.meaning.Value.TheVariants.{Address, Number}
use Rattle.load_model.specs.Definition.{Linkage, definition_of, name_at}
use Rattle.load_model.specs.Explains.{Explains}
use Rattle.load_model.specs.Linkage.{linkage_with, members_of}
use Rattle.load_model.specs.Sites.{Member, value_of, is_placed, is_code, own_address, is_unnamed, addend_of, placed_value, value_for, value_at, coded_value, function_for, function_at, relative_at, written, site_value, refusals_of, first_refusal}
use Rattle.elf_model.specs.Filled.{site_relocations}
use Rattle.load_model.specs.Walk.{IsWalkRefused}
use Rattle.fd_base.proofs.Members.{in_filter_map, in_flat_map}
use Rattle.load_process.proofs.Lists.{at_some}
use Rattle.load_state.specs.Loaded.{LoadedModules}
use Rattle.load_state.specs.Refused.{IsRefused, HasUnfilledSite}
use Rattle.load_plan.specs.parts.LinkedLoad.{IsUnlinked}
use Rattle.load_plan.specs.parts.LinkedLoad.IsUnlinked.{Walking, Filling}

-- ---- the refusals of sites

abbrev pub IsOfSite : LoadRefusal → Type 0
IsOfSite (Unresolved m n) = Unit {0}
IsOfSite (NotCode m n) = Unit {0}
IsOfSite (BadAddress m site) = Unit {0}
IsOfSite other = ⊥

abbrev IfRefused : {X : Type 0} → Result X LoadRefusal → Type 0
IfRefused (Ok x) = Unit {0}
IfRefused (Err e) = IsOfSite e

chosen : {X : Type 0} (b : Bool) (x y : Result X LoadRefusal) → IfRefused x → IfRefused y → IfRefused (cond b x y)
chosen true x y px py = px
chosen false x y px py = py

as_written : {X : Type 0} (value : X → SiteValue) (x : Result X LoadRefusal) → IfRefused x → IfRefused (written value x)
as_written value (Ok x) p = tt
as_written value (Err e) p = p

coded : (l : Linkage) (m : ℕ) (name : Option (List ℕ)) (v : Value) → IfRefused (coded_value l m name v)
coded l m name (Number n) = tt
coded l m name (Address f) = chosen (is_code l f) (Ok (Some f)) (Err (NotCode m name)) tt tt

function_for_kind : (l : Linkage) (m : ℕ) (o : Object) (r : Rel) (d : Definition) → IfRefused (function_for l m o r d)
function_for_kind l m o r (Is found) = coded l m (name_at o r.symbol) (value_of l found)
function_for_kind l m o r Nothing = tt
function_for_kind l m o r NoDefinition = tt

function_kind : (l : Linkage) (m : ℕ) (o : Object) (r : Rel) → IfRefused (function_at l m o r)
function_kind l m o r =
    let f = own_address m o r in
    chosen (is_unnamed o r.symbol) (cond (is_code l f) (Ok (Some f)) (Err (BadAddress m r.site))) (function_for l m o r (definition_of l m o r.symbol))
    (chosen (is_code l f) (Ok (Some f)) (Err (BadAddress m r.site)) tt tt)
    (function_for_kind l m o r (definition_of l m o r.symbol))

placed_kind : (l : Linkage) (m site : ℕ) (v : Value) → IfRefused (placed_value l m site v)
placed_kind l m site (Number n) = tt
placed_kind l m site (Address f) = chosen (is_placed l f) (Ok (Address f)) (Err (BadAddress m site)) tt tt

value_for_kind : (l : Linkage) (m : ℕ) (o : Object) (r : Rel) (d : Definition) → IfRefused (value_for l m o r d)
value_for_kind l m o r (Is found) = placed_kind l m r.site (value_of l found)
value_for_kind l m o r Nothing = tt
value_for_kind l m o r NoDefinition = tt

value_kind : (l : Linkage) (m : ℕ) (o : Object) (r : Rel) → IfRefused (value_at l m o r)
value_kind l m o r =
    chosen (r.symbol == 0) (Ok (Number 0)) (value_for l m o r (definition_of l m o r.symbol)) tt (value_for_kind l m o r (definition_of l m o r.symbol))

relative_kind : (l : Linkage) (m : ℕ) (o : Object) (r : Rel) → IfRefused (relative_at l m o r)
relative_kind l m o r =
    let f : Func = record { «module» = m; value = addend_of o r } in
    chosen (is_placed l f) (Ok f) (Err (BadAddress m r.site)) tt tt

site_kind : (l : Linkage) (m : ℕ) (o : Object) (r : Rel) → IfRefused (site_value l m o r)
unfolding site_value
site_kind l m o r =
    let relative = written Placed (relative_at l m o r) in
    let descriptor = written Descriptor (function_at l m o r) in
    let pair = written Pair (function_at l m o r) in
    let formula = written Formula (value_at l m o r) in
    let last = cond (r.kind == R_ARM_FUNCDESC_VALUE) pair formula in
    let later = cond (r.kind == R_ARM_FUNCDESC) descriptor last in
    chosen (r.kind == R_ARM_RELATIVE) relative later (as_written Placed (relative_at l m o r) (relative_kind l m o r))
    (chosen (r.kind == R_ARM_FUNCDESC) descriptor last (as_written Descriptor (function_at l m o r) (function_kind l m o r))
    (chosen (r.kind == R_ARM_FUNCDESC_VALUE) pair formula (as_written Pair (function_at l m o r) (function_kind l m o r))
    (as_written Formula (value_at l m o r) (value_kind l m o r))))

kind_of : (x : Result SiteValue LoadRefusal) (r : LoadRefusal) → IfRefused x → result_err x ≡ Some r → IsOfSite r
kind_of (Ok v) r p is = absurd cc
kind_of (Err e) r p is = let same : e ≡ r = cc in subst IsOfSite same p

first_kind : (l : Linkage) (members : List Member) (r : LoadRefusal) → first_refusal l members ≡ Some r → IsOfSite r
first_kind l members r is =
    let refusals = λ (m : Member). refusals_of l m.0 m.1 in
    let found = in_flat_map refusals members r (at_some (flat_map refusals members) 0 r is).0 in
    let m = found.0 in
    let site = in_filter_map (λ s. result_err (site_value l m.0 m.1 s)) (site_relocations m.1) r found.2 in
    kind_of (site_value l m.0 m.1 site.0) r (site_kind l m.0 m.1 site.0) site.2

-- ---- the refusals of loads

walked : (l : LoadedModules) (files : Option Files) (root : List ℕ) (r : LoadRefusal) → IsWalkRefused l.process files root r → IsRefused l files root r
walked l files root TooManyModules w = w
walked l files root (TooLong n) w = w
walked l files root (NoFile n) w = w
walked l files root (Elf n r) w = w
walked l files root (Unresolved m n) w = absurd w
walked l files root (NotCode m n) w = absurd w
walked l files root (BadAddress m site) w = absurd w
walked l files root (DescriptorsFull n) w = absurd w
walked l files root (NoRoom i) w = absurd w
walked l files root (NotBuilt n) w = absurd w

unfilled : (l : LoadedModules) (files : Option Files) (root : List ℕ) (r : LoadRefusal) → IsOfSite r → HasUnfilledSite l.process files root r → IsRefused l files root r
unfilled l files root TooManyModules p s = absurd p
unfilled l files root (TooLong n) p s = absurd p
unfilled l files root (NoFile n) p s = absurd p
unfilled l files root (Elf n r) p s = absurd p
unfilled l files root (Unresolved m n) p s = s
unfilled l files root (NotCode m n) p s = s
unfilled l files root (BadAddress m site) p s = s
unfilled l files root (DescriptorsFull n) p s = absurd p
unfilled l files root (NoRoom i) p s = absurd p
unfilled l files root (NotBuilt n) p s = absurd p

unlinked : (l : LoadedModules) (files : Option Files) (root : List ℕ) (r : LoadRefusal) → IsUnlinked l.process files root r → IsRefused l files root r
unlinked l files root r (Walking w) = walked l files root r w
unlinked l files root r (Filling s) = unfilled l files root r (first_kind (linkage_with l.process s.joining s.scope) (members_of s.joining) r s.first) s

pub told_refused : (l : LoadedModules) (files : Option Files) (root : List ℕ) (old now : ℕ) (e : LoadErr) → Explains (IsUnlinked l.process files root) old now e
    → Explains (IsRefused l files root) old now e
told_refused l files root old now (Refused r) why = unlinked l files root r why
told_refused l files root old now StoreFault why = why
told_refused l files root old now Memory why = tt
