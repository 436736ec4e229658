-- The slots that functions get.
use Rattle.std.proofs.Common.{◌≡◌, ℕ, suc, ◌<◌, ◌⊎◌, inl, inr, Bool, List, [], ◌∷◌, filter, slice_get, Option, Some, sym, ap, subst, ◌∙◌, arith, All}
use Rattle.std.specs.Prelude.{Contains, AllPairs, not, is_some, ◌||◌}
use Rattle.std.specs.List.{zip, flat_map}
use Rattle.std.proofs.lemmas.Bool.{cases_Bool, cases_lt}
use Rattle.std.proofs.lemmas.List.Elements.{All-nil, All-filter, All-contains, All-contains_itself}
use Rattle.fd_base.proofs.Options.{or_cases_of_three}
use Rattle.elf_model.specs.declared.func.Func.{Func}
use Rattle.elf_model.specs.declared.object.Object.{Object}
use Rattle.symbol_scope.specs.Closure.{firsts}
use Rattle.symbol_scope.proofs.Growing.{All-with_new}
use Rattle.load_model.specs.Definition.{Linkage}
use Rattle.load_model.specs.Descriptors.{is_same_func, is_listed, listed_addr, descriptors_after, asked_of, privates, wanted}
use Rattle.load_model.specs.Sites.{Member}
use Rattle.load_laws.proofs.ListedDescriptors.{same_decides}
use Rattle.fd_base.proofs.Members.{in_flat_map, nothing_in, first_or_later, contains_later, contains_first}
use Rattle.load_laws.proofs.OwnDescriptors.{asked_object}
use Rattle.fd_base.proofs.Lists.{pairs_at}

-- ---- where an address comes from

abbrev entry_of : Func → ℕ → Func × ℕ
entry_of f a = (f, a)

pub listed_in : (entries : List (Func × ℕ)) (f : Func) (a : ℕ) → listed_addr entries f ≡ Some a → Contains entries (f, a)
listed_in [] f a is = absurd cc
listed_in (e ∷ entries) f a is =
    elim (cases_Bool (is_same_func f e.0)) [
      | inl here ↦
          let first : Some e.1 ≡ Some a = rw here at is in
          let addr : e.1 ≡ a = cc in
          let func : e.0 ≡ f = sym ((same_decides f e.0).0 here) in
          contains_first e (f, a) entries (ap (λ g. entry_of g e.1) func ∙ ap (entry_of f) addr)
      | inr other ↦
          let later : listed_addr entries f ≡ Some a = rw other at is in
          contains_later e (f, a) entries (listed_in entries f a later)
    ]

-- had before, adopted or given
abbrev pub HasFrom : (Func → Option ℕ) → List (Func × ℕ) → List (Func × ℕ) → Func → ℕ → Type 0
HasFrom before adopted given f a = (before f ≡ Some a) ⊎ (Contains adopted (f, a) ⊎ Contains given (f, a))

pub has_from : (before : Func → Option ℕ) (adopted given : List (Func × ℕ)) (f : Func) (a : ℕ) → descriptors_after before adopted given f ≡ Some a → HasFrom before adopted given f a
has_from before adopted given f a is =
    elim (or_cases_of_three (before f) (listed_addr adopted f) (listed_addr given f) a is) [
      | inl had ↦ inl had
      | inr rest ↦ elim rest [
        | inl own ↦ inr (inl (listed_in adopted f a own))
        | inr slot ↦ inr (inr (listed_in given f a slot))
      ]
    ]

-- ---- functions with slots

-- the same place of two lists
pub record IsPair (fs : List Func) (slots : List ℕ) (f : Func) (a : ℕ) : Type 0 where
  pub index : ℕ
  pub func : slice_get fs index ≡ Some f
  pub slot : slice_get slots index ≡ Some a

pub in_zip : (fs : List Func) (slots : List ℕ) (f : Func) (a : ℕ) → Contains (zip fs slots) (f, a) → IsPair fs slots f a
in_zip [] slots f a there = absurd (nothing_in {X = Func × ℕ} (f, a) there)
in_zip (g ∷ fs) [] f a there = absurd (nothing_in {X = Func × ℕ} (f, a) there)
in_zip (g ∷ fs) (b ∷ slots) f a there =
    elim (first_or_later {X = Func × ℕ} (g, b) (f, a) (zip fs slots) there) [
      | inl is ↦ record { index = 0; func = ap (λ (e : Func × ℕ). Some e.0) is; slot = ap (λ (e : Func × ℕ). Some e.1) is }
      | inr later ↦ let rest = in_zip fs slots f a later in record { index = suc rest.index; func = rest.func; slot = rest.slot }
    ]

-- where slots rise, a slot is one function's
pub one_slot : (fs : List Func) (slots : List ℕ) (f g : Func) (a : ℕ) → AllPairs (λ a b. a < b) slots → IsPair fs slots f a → IsPair fs slots g a → f ≡ g
one_slot fs slots f g a rising p q =
    elim (cases_lt p.index q.index) [
      | inl lt ↦ absurd (not_below (pairs_at (λ a b. a < b) slots p.index q.index a a rising lt p.slot q.slot))
      | inr le ↦ elim (cases_lt q.index p.index) [
        | inl lt ↦ absurd (not_below (pairs_at (λ a b. a < b) slots q.index p.index a a rising lt q.slot p.slot))
        | inr ge ↦
            let at : p.index ≡ q.index = omega arith in
            let other : slice_get fs p.index ≡ Some g = subst (λ (n : ℕ). slice_get fs n ≡ Some g) (sym at) q.func in
            let first = p.func in
            cc
      ]
    ]
  where
    not_below : a < a → ⊥
    not_below lt = absurd (omega arith)

-- a function that gets a slot was asked for
pub wanted_object : (k : Linkage) (before : Func → Option ℕ) (members : List Member) (f : Func) → Contains (wanted k before members) f → (p : Object) × (k.objects f.module ≡ Some p)
wanted_object k before members f there =
    let asked = flat_map (asked_of k) members in
    let passes : Func → Bool = λ g. not (is_some (before g) || is_listed (privates k members) g) in
    let all : All (Contains asked) (firsts is_same_func (filter passes asked)) =
    All-with_new is_same_func (Contains asked) [] (filter passes asked) (All-nil (Contains asked)) (All-filter passes (Contains asked) asked (All-contains_itself asked)) in
    let from = in_flat_map (asked_of k) members f (All-contains (Contains asked) (wanted k before members) f all there) in
    asked_object k from.0.0 from.0.1 f from.2
