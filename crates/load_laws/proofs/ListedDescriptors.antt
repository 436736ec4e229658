-- Every function whose descriptor a new module refers to has one after the load.
use Rattle.std.proofs.Common.{◌≡◌, ◌≢◌, ℕ, ◌≤◌, ◌⊎◌, inl, inr, Bool, true, false, cond, ◌||◌, List, [], ◌∷◌, ◌++◌, length, map, filter, Option, Some, None, refl, sym, ap, subst, ◌∙◌, arith}
use Rattle.std.specs.Prelude.{Contains, not, is_some, option_map, ◌==◌}
use Rattle.std.specs.Bool.{Decides}
use Rattle.std.specs.Option.{option_or}
use Rattle.std.specs.List.{find, zip}
use Rattle.std.proofs.lemmas.Bool.{and_parts, and_from, cases_Bool, false≢true, eqb-true, eq-eqb, or_cases}
use Rattle.fd_base.proofs.Bools.{not_either}
use Rattle.elf_model.specs.declared.func.Func.{Func}
use Rattle.symbol_scope.specs.Closure.{has, firsts}
use Rattle.symbol_scope.proofs.Growing.{gained, has_contained}
use Rattle.load_model.specs.Descriptors.{is_same_func, is_listed, listed_addr, descriptors_after}

-- ---- one function

abbrev func_made : ℕ → ℕ → Func
func_made m v = record { «module» = m; value = v }

same_is : (f g : Func) → is_same_func f g ≡ true → f ≡ g
same_is f g h =
    let parts = and_parts (f.module == g.module) (f.value == g.value) h in
    ap (λ m. func_made m f.value) (eqb-true f.module g.module parts.0) ∙ ap (func_made g.module) (eqb-true f.value g.value parts.1)

is_same : (f g : Func) → f ≡ g → is_same_func f g ≡ true
is_same f g e = and_from (f.module == g.module) (f.value == g.value) (eq-eqb f.module g.module (ap (λ h. h.module) e)) (eq-eqb f.value g.value (ap (λ h. h.value) e))

pub same_decides : (f g : Func) → Decides (is_same_func f g) (f ≡ g)
same_decides f g = (same_is f g, is_same f g)

-- ---- lists with addresses

-- two lists, of which the first counts
pub listed_append : (entries more : List (Func × ℕ)) (f : Func) → listed_addr (entries ++ more) f ≡ option_or (listed_addr entries f) (listed_addr more f)
listed_append [] more f = refl
listed_append (e ∷ entries) more f =
    elim (is_same_func f e.0) as (λ b.
    option_map (λ (y : Func × ℕ). y.1) (cond b (Some e) (find (λ y. is_same_func f y.0) (entries ++ more)))
    ≡ option_or (option_map (λ (y : Func × ℕ). y.1) (cond b (Some e) (find (λ y. is_same_func f y.0) entries))) (listed_addr more f)) [
      | true ↦ refl
      | false ↦ listed_append entries more f
    ]

-- a function among others has an address where each of them is listed with one
pub zip_lists : (fs : List Func) (addrs : List ℕ) (f : Func) → length fs ≤ length addrs → has is_same_func fs f ≡ true → listed_addr (zip fs addrs) f ≢ None
zip_lists [] addrs f few h = absurd (false≢true h)
zip_lists (g ∷ fs) [] f few h = absurd (omega arith)
zip_lists (g ∷ fs) (a ∷ addrs) f few h =
    elim (cases_Bool (is_same_func f g)) [
      | inl here ↦ rw here (λ none. absurd cc)
      | inr other ↦
          let later : has is_same_func fs f ≡ true = elim (or_cases (is_same_func f g) (has is_same_func fs f) h) [ inl here ↦ absurd (false≢true (sym other ∙ here)) | inr there ↦ there ] in
          rw other (zip_lists fs addrs f (omega arith) later)
    ]

-- a list with other values lists the same functions
pub map_lists : {X : Type 0} (entries : List (Func × X)) (place : Func × X → ℕ) (f : Func) → is_listed entries f ≡ true
    → listed_addr (map (λ e. (e.0, place e)) entries) f ≢ None
map_lists [] place f h = absurd (false≢true h)
map_lists (e ∷ entries) place f h =
    elim (cases_Bool (is_same_func f e.0)) [
      | inl here ↦ rw here (λ none. absurd cc)
      | inr other ↦
          let later : is_listed entries f ≡ true = rw other at h in
          rw other (map_lists entries place f later)
    ]

pub filter_has : {X : Type 0} (same : X → X → Bool) (passes : X → Bool) (dec : (a b : X) → Decides (same a b) (a ≡ b)) (xs : List X) (x : X) → passes x ≡ true → has same xs x ≡ true → has same (filter passes xs) x ≡ true
filter_has same passes dec [] x p h = h
filter_has {X} same passes dec (y ∷ xs) x p h =
    elim (or_cases (same x y) (has same xs x) h) [
      | inl here ↦
          let is : x ≡ y = (dec x y).0 here in
          let pass : passes y ≡ true = subst (λ (z : X). passes z ≡ true) is p in
          rw (pass, here) refl
      | inr there ↦
          elim (cases_Bool (passes y)) [
            | inl pass ↦ rw pass (or_right (same x y) (has same (filter passes xs) x) (filter_has same passes dec xs x p there))
            | inr fails ↦ rw fails (filter_has same passes dec xs x p there)
          ]
    ]
  where
    or_right : (a b : Bool) → b ≡ true → (a || b) ≡ true
    or_right true b e = refl
    or_right false b e = e

-- an address of its own, a listed one, or one of those that are given
first_of : (a b c : Option ℕ) → (a ≢ None) ⊎ ((b ≢ None) ⊎ (c ≢ None)) → option_or a (option_or b c) ≢ None
first_of (Some x) b c some none = absurd cc
first_of None (Some y) c some none = absurd cc
first_of None None (Some z) some none = absurd cc
first_of None None None some none = elim some [ inl h ↦ h refl | inr rest ↦ elim rest [ inl h ↦ h refl | inr h ↦ h refl ] ]

had_one : (a : Option ℕ) → (a ≢ None) ⊎ (is_some a ≡ false)
had_one None = inr refl
had_one (Some x) = inl (λ none. absurd cc)

-- a function that is asked for has an address, given to it or from before
pub asked_has_one : (had : Func → Option ℕ) (own : List (Func × ℕ)) (asked : List Func) (slots : List ℕ) (place : Func × ℕ → ℕ) (f : Func)
    → length (firsts is_same_func (filter (λ g. not (is_some (had g) || is_listed own g)) asked)) ≤ length slots
    → Contains asked f
    → descriptors_after had (map (λ e. (e.0, place e)) own) (zip (firsts is_same_func (filter (λ g. not (is_some (had g) || is_listed own g)) asked)) slots) f ≢ None
asked_has_one had own asked slots place f few here =
    let wanted = firsts is_same_func (filter (λ g. not (is_some (had g) || is_listed own g)) asked) in
    let listed = listed_addr (map (λ e. (e.0, place e)) own) f in
    let given = listed_addr (zip wanted slots) f in
    elim (had_one (had f)) [
      | inl some ↦ first_of (had f) listed given (inl some)
      | inr none ↦
          elim (cases_Bool (is_listed own f)) [
            | inl own' ↦ first_of (had f) listed given (inr (inl (map_lists own place f own')))
            | inr other ↦
                let passes = not_either (is_some (had f)) (is_listed own f) none other in
                let there = filter_has is_same_func (λ g. not (is_some (had g) || is_listed own g)) same_decides asked f passes (has_contained is_same_func same_decides asked f here) in
                let among : has is_same_func wanted f ≡ true = gained is_same_func same_decides [] (filter (λ g. not (is_some (had g) || is_listed own g)) asked) f there in
                first_of (had f) listed given (inr (inr (zip_lists wanted slots f few among)))
          ]
    ]
