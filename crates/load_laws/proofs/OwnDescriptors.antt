-- A module's own descriptors are of its own functions, and functions that sites ask for are code of a module.
use Rattle.std.proofs.Common.{◌≡◌, ◌≢◌, ℕ, inl, inr, Bool, true, false, cond, ◌||◌, List, Option, Some, None, Result, Ok, Err, refl, sym, ap, subst, ◌∙◌}
use Rattle.std.specs.Prelude.{Contains, ◌==◌, ◌%◌, option_map, option_and_then}
use Rattle.std.specs.Option.{option_map_or}
use Rattle.std.proofs.lemmas.Bool.{and_parts, cases_Bool, or_parts, eqb-true, false≢true, or_cases}
use Rattle.std.proofs.lemmas.Option.{some_pair_parts}
use Rattle.fd_base.proofs.Options.{cond_some_parts}
use Rattle.elf_model.specs.declared.constants.TheConstants.{R_ARM_RELATIVE, R_ARM_FUNCDESC, R_ARM_FUNCDESC_VALUE, STT_SECTION}
use Rattle.elf_model.specs.declared.func.Func.{Func}
use Rattle.elf_model.specs.declared.object.Object.{Object}
use Rattle.elf_model.specs.declared.object.Rel.{Rel}
use Rattle.elf_model.specs.declared.object.Symbol.{Symbol}
use Rattle.elf_model.specs.Places.{is_executable_in}
use Rattle.load_model.specs.declared.error.LoadRefusal.{LoadRefusal}
use Rattle.load_model.specs.declared.error.LoadRefusal.TheVariants.{NotCode, BadAddress}
use Rattle.load_model.specs.declared.meaning.Definition.{Definition}
use Rattle.load_model.specs.declared.meaning.Definition.TheVariants.{Symbol as Is, Nothing, Unresolved}
use Rattle.load_model.specs.declared.meaning.SiteValue.{SiteValue}
use Rattle.load_model.specs.declared.meaning.SiteValue.TheVariants.{Place, Formula, Pair, Descriptor}
use Rattle.load_model.specs.declared.meaning.Value.{Value}
use Rattle.load_model.specs.declared.meaning.Value.TheVariants.{Address, Number}
use Rattle.load_model.specs.Definition.{Linkage, is_own, symbol_at, name_at, definition_of}
use Rattle.load_model.specs.Descriptors.{is_private, pair_of, descriptor_of, private_at, privates_of, asked_of}
use Rattle.load_model.specs.Sites.{is_absolute, symbol_value, value_of, is_code, is_unnamed, own_address, coded_value, function_for, function_at, relative_at, value_at, written, site_value}
use Rattle.fd_base.proofs.Members.{in_filter_map}

-- ---- options

with_site : (x : Option Func) (s site : ℕ) (f : Func) → option_map {U = Func × ℕ} (λ g. (g, s)) x ≡ Some (f, site) → (x ≡ Some f) × (s ≡ site)
with_site None s site f is = absurd cc
with_site (Some g) s site f is = let parts = some_pair_parts g f s site is in (ap Some parts.0, parts.1)

some_or : {X : Type 0} (test : X → Bool) (x : Option X) → option_map_or test x false ≡ true → (y : X) × (x ≡ Some y) × (test y ≡ true)
some_or test None is = absurd (false≢true is)
some_or test (Some y) is = (y, refl, is)

-- ---- functions by values

found_one : (b : Bool) (g f : Func) (r : LoadRefusal) → cond b (Ok (Some g)) (Err r) ≡ Ok (Some f) → (b ≡ true) × (g ≡ f)
found_one true g f r is = (refl, cc)
found_one false g f r is = absurd cc

coded : (k : Linkage) (m : ℕ) (name : Option (List ℕ)) (v : Value) (f : Func) → coded_value k m name v ≡ Ok (Some f) → (is_code k f ≡ true) × (v ≡ Address f)
coded k m name (Number n) f is = absurd cc
coded k m name (Address g) f is =
    let parts = found_one (is_code k g) g f (NotCode m name) is in
    (subst (λ (h : Func). is_code k h ≡ true) parts.1 parts.0, ap Address parts.1)

placed_value : (b : Bool) (n m v : ℕ) (f : Func) → cond b (Number n) (Address (record { «module» = m; value = v })) ≡ Address f → f.module ≡ m
placed_value true n m v f is = absurd cc
placed_value false n m v f is = let same : record { «module» = m; value = v } ≡ f = cc in ap (λ g. g.module) (sym same)

-- a symbol of a module has a value in that module
value_in : (m : ℕ) (s : Option Symbol) (f : Func) → option_map_or (symbol_value m) s (Number 0) ≡ Address f → f.module ≡ m
value_in m None f is = absurd cc
value_in m (Some s) f is = placed_value (is_absolute s.place) s.value m s.value f is

-- ---- functions at sites

code_for : (k : Linkage) (m : ℕ) (o : Object) (r : Rel) (d : Definition) (f : Func) → function_for k m o r d ≡ Ok (Some f) → is_code k f ≡ true
code_for k m o r (Is found) f is = (coded k m (name_at o r.symbol) (value_of k found) f is).0
code_for k m o r Nothing f is = absurd cc
code_for k m o r Unresolved f is = absurd cc

-- the function that a site refers to is code
pub code_at : (k : Linkage) (m : ℕ) (o : Object) (r : Rel) (f : Func) → function_at k m o r ≡ Ok (Some f) → is_code k f ≡ true
code_at k m o r f is =
    elim (cases_Bool (is_unnamed o r.symbol)) [
      | inl holds ↦
          let own = own_address m o r in
          let here : cond (is_code k own) (Ok (Some own)) (Err (BadAddress m r.site)) ≡ Ok (Some f) = rw holds at is in
          let parts = found_one (is_code k own) own f (BadAddress m r.site) here in
          subst (λ (h : Func). is_code k h ≡ true) parts.1 parts.0
      | inr fails ↦
          let here : function_for k m o r (definition_of k m o r.symbol) ≡ Ok (Some f) = rw fails at is in
          code_for k m o r (definition_of k m o r.symbol) f here
    ]

-- by its own symbol a module refers to a function of its own
own_symbol : (k : Linkage) (m : ℕ) (o : Object) (r : Rel) (f : Func) → option_map_or is_own (symbol_at o r.symbol) false ≡ true
    → function_for k m o r (definition_of k m o r.symbol) ≡ Ok (Some f) → f.module ≡ m
own_symbol k m o r f own is =
    let found = some_or is_own (symbol_at o r.symbol) own in
    let itself : definition_of k m o r.symbol ≡ Is (record { «module» = m; symbol = r.symbol }) = rw (found.1, found.2) refl in
    let here : function_for k m o r (Is (record { «module» = m; symbol = r.symbol })) ≡ Ok (Some f) = rw itself at is in
    let value = (coded k m (name_at o r.symbol) (value_of k (record { «module» = m; symbol = r.symbol })) f here).1 in
    value_in m (option_and_then (λ p. symbol_at p r.symbol) (k.objects m)) f value

own_function : (k : Linkage) (m : ℕ) (o : Object) (r : Rel) (f : Func) → (r.symbol == 0 || option_map_or is_own (symbol_at o r.symbol) false) ≡ true
    → function_at k m o r ≡ Ok (Some f) → f.module ≡ m
own_function k m o r f own is =
    elim (cases_Bool (is_unnamed o r.symbol)) [
      | inl holds ↦
          let here : cond (is_code k (own_address m o r)) (Ok (Some (own_address m o r))) (Err (BadAddress m r.site)) ≡ Ok (Some f) = rw holds at is in
          let same = (found_one (is_code k (own_address m o r)) (own_address m o r) f (BadAddress m r.site) here).1 in
          ap (λ g. g.module) (sym same)
      | inr fails ↦
          let here : function_for k m o r (definition_of k m o r.symbol) ≡ Ok (Some f) = rw fails at is in
          let not_zero = (or_parts (r.symbol == 0) (option_map_or (λ s. s.kind == STT_SECTION) (symbol_at o r.symbol) false) fails).0 in
          elim (or_cases (r.symbol == 0) (option_map_or is_own (symbol_at o r.symbol) false) own) [
            | inl is_zero ↦ absurd (false≢true (sym not_zero ∙ is_zero))
            | inr own' ↦ own_symbol k m o r f own' here
          ]
    ]

-- ---- pairs and descriptors' addresses

paired : (x : Result (Option Func) LoadRefusal) (f : Func) → pair_of (written Pair x) ≡ Some f → x ≡ Ok (Some f)
paired (Ok g) f is = ap Ok is
paired (Err r) f is = absurd cc

pair_function : (k : Linkage) (m : ℕ) (o : Object) (r : Rel) (f : Func) → r.kind ≡ R_ARM_FUNCDESC_VALUE → pair_of (site_value k m o r) ≡ Some f → function_at k m o r ≡ Ok (Some f)
unfolding site_value
pair_function k m o r f kind is =
    let a : (r.kind == R_ARM_RELATIVE) ≡ false = ap (λ (n : ℕ). n == R_ARM_RELATIVE) kind in
    let b : (r.kind == R_ARM_FUNCDESC) ≡ false = ap (λ (n : ℕ). n == R_ARM_FUNCDESC) kind in
    let c : (r.kind == R_ARM_FUNCDESC_VALUE) ≡ true = ap (λ (n : ℕ). n == R_ARM_FUNCDESC_VALUE) kind in
    let pair : pair_of (written Pair (function_at k m o r)) ≡ Some f = rw (a, b, c) at is in
    paired (function_at k m o r) f pair

described : (x : Result (Option Func) LoadRefusal) (f : Func) → descriptor_of (written Descriptor x) ≡ Some f → x ≡ Ok (Some f)
described (Ok g) f is = ap Ok is
described (Err r) f is = absurd cc

no_descriptor : {X : Type 0} (value : X → SiteValue) (x : Result X LoadRefusal) (f : Func) → ((y : X) → descriptor_of (Ok (value y)) ≡ None) → descriptor_of (written value x) ≢ Some f
no_descriptor value (Ok y) f none is = let never : None ≡ Some f = sym (none y) ∙ is in absurd cc
no_descriptor value (Err r) f none is = absurd cc

-- only R_ARM_FUNCDESC asks for a descriptor's address
asked_function : (k : Linkage) (m : ℕ) (o : Object) (r : Rel) (f : Func) → descriptor_of (site_value k m o r) ≡ Some f → function_at k m o r ≡ Ok (Some f)
unfolding site_value
asked_function k m o r f is =
    elim (cases_Bool (r.kind == R_ARM_RELATIVE)) [
      | inl holds ↦
          let here : descriptor_of (written Place (relative_at k m o r)) ≡ Some f = rw holds at is in
          absurd (no_descriptor Place (relative_at k m o r) f (λ y. refl) here)
      | inr a ↦ elim (cases_Bool (r.kind == R_ARM_FUNCDESC)) [
        | inl holds ↦
            let here : descriptor_of (written Descriptor (function_at k m o r)) ≡ Some f = rw (a, holds) at is in
            described (function_at k m o r) f here
        | inr b ↦ elim (cases_Bool (r.kind == R_ARM_FUNCDESC_VALUE)) [
          | inl holds ↦
              let here : descriptor_of (written Pair (function_at k m o r)) ≡ Some f = rw (a, b, holds) at is in
              absurd (no_descriptor Pair (function_at k m o r) f (λ y. refl) here)
          | inr c ↦
              let here : descriptor_of (written Formula (value_at k m o r)) ≡ Some f = rw (a, b, c) at is in
              absurd (no_descriptor Formula (value_at k m o r) f (λ y. refl) here)
        ]
      ]
    ]

-- the module of a function that is asked for
pub asked_object : (k : Linkage) (m : ℕ) (o : Object) (f : Func) → Contains (asked_of k (m, o)) f → (p : Object) × (k.objects f.module ≡ Some p)
asked_object k m o f there =
    let found = in_filter_map (λ r. descriptor_of (site_value k m o r)) o.rels f there in
    let code = code_at k m o found.0 f (asked_function k m o found.0 f found.2) in
    let held = (and_parts (f.value % 4 == 0) (option_map_or (λ p. is_executable_in p.segments f.value) (k.objects f.module) false) code).1 in
    let object = some_or (λ p. is_executable_in p.segments f.value) (k.objects f.module) held in
    (object.0, object.1)

-- ---- a private descriptor

pub record IsPrivate (k : Linkage) (m : ℕ) (o : Object) (f : Func) (site : ℕ) : Type 0 where
  pub rel : Rel
  pub listed : Contains o.rels rel
  pub kind' : rel.kind ≡ R_ARM_FUNCDESC_VALUE
  pub site' : rel.site ≡ site
  pub tells : private_at k m o rel ≡ Some (f, site)
  pub own : f.module ≡ m

pub private_means : (k : Linkage) (m : ℕ) (o : Object) (f : Func) (site : ℕ) → Contains (privates_of k (m, o)) (f, site) → IsPrivate k m o f site
private_means k m o f site there =
    let found = in_filter_map (private_at k m o) o.rels (f, site) there in
    let r = found.0 in
    let parts = cond_some_parts (is_private o r) (option_map {U = Func × ℕ} (λ g. (g, r.site)) (pair_of (site_value k m o r))) (f, site) found.2 in
    let tests = and_parts (r.kind == R_ARM_FUNCDESC_VALUE) (r.symbol == 0 || option_map_or is_own (symbol_at o r.symbol) false) parts.0 in
    let kind = eqb-true r.kind R_ARM_FUNCDESC_VALUE tests.0 in
    let pair = with_site (pair_of (site_value k m o r)) r.site site f parts.1 in
    record {
      rel = r;
      listed = found.1;
      kind' = kind;
      site' = pair.1;
      tells = found.2;
      own = own_function k m o r f tests.1 (pair_function k m o r f kind pair.0);
    }
