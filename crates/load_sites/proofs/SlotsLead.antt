-- Functions of slots are code, and placed link addresses have places.
use Rattle.std.proofs.Common.{◌≡◌, ℕ, true, cond, Option, Some, None, Ok, Err, List, refl, subst}
use Rattle.std.specs.Prelude.{◌==◌}
use Rattle.elf_model.specs.declared.constants.TheConstants.{R_ARM_FUNCDESC, R_ARM_FUNCDESC_VALUE, R_ARM_RELATIVE}
use Rattle.elf_model.specs.declared.func.Func.{Func}
use Rattle.elf_model.specs.declared.object.Object.{Object}
use Rattle.elf_model.specs.declared.object.Rel.{Rel}
use Rattle.load_model.specs.declared.error.LoadRefusal.TheVariants.{BadAddress, NotCode}
use Rattle.load_model.specs.declared.meaning.Definition.{Definition}
use Rattle.load_model.specs.declared.meaning.Definition.TheVariants.{Symbol as Is, Nothing, Unresolved}
use Rattle.load_model.specs.declared.meaning.SiteValue.{SiteValue}
use Rattle.load_model.specs.declared.meaning.SiteValue.TheVariants.{Place as Placed, Formula, Pair, Stub, Descriptor}
use Rattle.load_model.specs.declared.meaning.Value.{Value}
use Rattle.load_model.specs.declared.meaning.Value.TheVariants.{Address, Number}
use Rattle.load_model.specs.Definition.{Linkage, definition_of, name_at}
use Rattle.load_model.specs.Sites.{value_of, is_placed, is_code, own_address, is_unnamed, addend_of, placed_value, value_for, value_at, coded_value, function_for, function_at, relative_at, written, site_value}
use Rattle.load_sites.specs.parts.Laws.{SlotsLeadToCode, PlacedValuesHavePlaces}
use Rattle.load_sites.proofs.GivenValues.{IfGiven, tested, chosen, as_written}

-- ---- what holds of each value

abbrev IsCoded : Linkage → Option Func → Type 0
IsCoded l None = Unit {0}
IsCoded l (Some f) = is_code l f ≡ true

abbrev IsPlaced : Linkage → Value → Type 0
IsPlaced l (Number n) = Unit {0}
IsPlaced l (Address f) = is_placed l f ≡ true

abbrev IsFounded : Linkage → SiteValue → Type 0
IsFounded l (Placed f) = is_placed l f ≡ true
IsFounded l (Formula v) = IsPlaced l v
IsFounded l (Pair f) = IsCoded l f
IsFounded l (Stub z) = Unit {0}
IsFounded l (Descriptor f) = IsCoded l f

-- ---- functions

coded : (l : Linkage) (m : ℕ) (name : Option (List ℕ)) (v : Value) → IfGiven (IsCoded l) (coded_value l m name v)
coded l m name (Number n) = tt
coded l m name (Address f) = tested (IsCoded l) (Some f) (NotCode m name) (is_code l f) (is_code l f) (λ is. is) refl

function_for_coded : (l : Linkage) (m : ℕ) (o : Object) (r : Rel) (d : Definition) → IfGiven (IsCoded l) (function_for l m o r d)
function_for_coded l m o r (Is found) = coded l m (name_at o r.symbol) (value_of l found)
function_for_coded l m o r Nothing = tt
function_for_coded l m o r Unresolved = tt

function_coded : (l : Linkage) (m : ℕ) (o : Object) (r : Rel) → IfGiven (IsCoded l) (function_at l m o r)
function_coded l m o r =
    let f = own_address m o r in
    chosen (IsCoded l) (is_unnamed o r.symbol) (cond (is_code l f) (Ok (Some f)) (Err (BadAddress m r.site))) (function_for l m o r (definition_of l m o r.symbol))
    (tested (IsCoded l) (Some f) (BadAddress m r.site) (is_code l f) (is_code l f) (λ is. is) refl)
    (function_for_coded l m o r (definition_of l m o r.symbol))

-- ---- values

value_placed : (l : Linkage) (m site : ℕ) (v : Value) → IfGiven (IsPlaced l) (placed_value l m site v)
value_placed l m site (Number n) = tt
value_placed l m site (Address f) = tested (IsPlaced l) (Address f) (BadAddress m site) (is_placed l f) (is_placed l f) (λ is. is) refl

value_for_placed : (l : Linkage) (m : ℕ) (o : Object) (r : Rel) (d : Definition) → IfGiven (IsPlaced l) (value_for l m o r d)
value_for_placed l m o r (Is found) = value_placed l m r.site (value_of l found)
value_for_placed l m o r Nothing = tt
value_for_placed l m o r Unresolved = tt

relative_placed : (l : Linkage) (m : ℕ) (o : Object) (r : Rel) → IfGiven (λ f. is_placed l f ≡ true) (relative_at l m o r)
relative_placed l m o r =
    let f : Func = record { «module» = m; value = addend_of o r } in
    tested (λ x. is_placed l x ≡ true) f (BadAddress m r.site) (is_placed l f) (is_placed l f) (λ is. is) refl

-- ---- sites

founded : (l : Linkage) (m : ℕ) (o : Object) (r : Rel) → IfGiven (IsFounded l) (site_value l m o r)
unfolding site_value
founded l m o r =
    let P = IsFounded l in
    let place = written Placed (relative_at l m o r) in
    let descriptor = written Descriptor (function_at l m o r) in
    let pair = written Pair (function_at l m o r) in
    let formula = written Formula (value_at l m o r) in
    let formulas =
    as_written (IsFounded l) Formula (IsPlaced l) (λ v p. p) (value_at l m o r)
    (chosen (IsPlaced l) (r.symbol == 0) (Ok (Number 0)) (value_for l m o r (definition_of l m o r.symbol)) tt (value_for_placed l m o r (definition_of l m o r.symbol))) in
    let pairs = as_written (IsFounded l) Pair (IsCoded l) (λ f p. p) (function_at l m o r) (function_coded l m o r) in
    let descriptors = as_written (IsFounded l) Descriptor (IsCoded l) (λ f p. p) (function_at l m o r) (function_coded l m o r) in
    let places = as_written (IsFounded l) Placed (λ f. is_placed l f ≡ true) (λ f p. p) (relative_at l m o r) (relative_placed l m o r) in
    let rest = cond (r.kind == R_ARM_FUNCDESC_VALUE) pair formula in
    chosen P (r.kind == R_ARM_RELATIVE) place (cond (r.kind == R_ARM_FUNCDESC) descriptor rest) places
    (chosen P (r.kind == R_ARM_FUNCDESC) descriptor rest descriptors
    (chosen P (r.kind == R_ARM_FUNCDESC_VALUE) pair formula pairs formulas))

at_value : (l : Linkage) (m : ℕ) (o : Object) (r : Rel) (v : SiteValue) → site_value l m o r ≡ Ok v → IsFounded l v
at_value l m o r v is = subst (IfGiven (IsFounded l)) is (founded l m o r)

pub code_follows : SlotsLeadToCode
code_follows = record {
  pairs = λ l m o r f is. at_value l m o r (Pair (Some f)) is;
  descriptors = λ l m o r f is. at_value l m o r (Descriptor (Some f)) is;
}

pub places_follow : PlacedValuesHavePlaces
places_follow = record {
  places = λ l m o r f is. at_value l m o r (Placed f) is;
  formulas = λ l m o r f is. at_value l m o r (Formula (Address f)) is;
}
