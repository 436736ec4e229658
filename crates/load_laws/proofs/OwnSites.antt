-- The function's own descriptor: the first private one.
use Rattle.std.proofs.Common.{◌≡◌, ◌≢◌, ℕ, inl, inr, cond, List, [], ◌∷◌, ◌++◌, map, Option, Some, None, refl, sym, ap, subst, ◌∙◌, All}
use Rattle.std.specs.Prelude.{Contains, option_and_then, option_map}
use Rattle.std.specs.Option.{option_or}
use Rattle.std.specs.List.{filter_map}
use Rattle.std.proofs.Math.Path.{fun_ext}
use Rattle.std.proofs.lemmas.Bool.{cases_Bool, false≢true}
use Rattle.std.proofs.lemmas.List.Elements.{All-contains}
use Rattle.fd_base.proofs.Members.{first_or_later, nothing_in}
use Rattle.fd_base.proofs.Options.{from_then, none_or, or_stays}
use Rattle.elf_model.specs.declared.func.Func.{Func}
use Rattle.elf_model.specs.declared.object.Object.{Object}
use Rattle.elf_model.specs.declared.object.Rel.{Rel}
use Rattle.load_model.specs.declared.module.Joining.{Joining}
use Rattle.load_model.specs.Definition.{Linkage}
use Rattle.load_model.specs.Descriptors.{is_private, is_same_func, listed_addr, pair_of, private_at, privates, privates_of}
use Rattle.load_model.specs.Linkage.{members_of}
use Rattle.load_model.specs.Sites.{site_value}
use Rattle.load_state.specs.Consistent.{own_site}
use Rattle.load_laws.specs.parts.Premises.{HaveOwnNumbers}
use Rattle.load_laws.proofs.GivenSlots.{listed_in}
use Rattle.load_laws.proofs.ListedDescriptors.{listed_append, same_decides}
use Rattle.load_laws.proofs.OwnDescriptors.{IsPrivate, private_means}

-- ---- what such an address means

-- the module has a private descriptor of the function there, and that is the first
pub record IsOwn (k : Linkage) (f : Func) (site : ℕ) : Type 0 where
  pub object : Object
  pub there : k.objects f.module ≡ Some object
  pub first : listed_addr (privates_of k (f.module, object)) f ≡ Some site
  pub private : IsPrivate k f.module object f site

pub own_means : (k : Linkage) (f : Func) (site : ℕ) → own_site k f ≡ Some site → IsOwn k f site
own_means k f site is =
    let found = from_then (λ o. listed_addr (privates_of k (f.module, o)) f) (k.objects f.module) site is in
    record {
      object = found.0;
      there = found.1;
      first = found.2;
      private = private_means k f.module found.0 f site (listed_in (privates_of k (f.module, found.0)) f site found.2);
    }

own_in : (k : Linkage) (f : Func) (o : Object) → k.objects f.module ≡ Some o → own_site k f ≡ listed_addr (privates_of k (f.module, o)) f
own_in k f o there = ap (option_and_then (λ x. listed_addr (privates_of k (f.module, x)) f)) there

listed_some : (entries : List (Func × ℕ)) (f : Func) (a : ℕ) → Contains entries (f, a) → listed_addr entries f ≢ None
listed_some [] f a there = absurd (nothing_in {X = Func × ℕ} (f, a) there)
listed_some (e ∷ entries) f a there =
    elim (cases_Bool (is_same_func f e.0)) [
      | inl here ↦ rw here (λ none. absurd cc)
      | inr other ↦ elim (first_or_later {X = Func × ℕ} e (f, a) entries there) [
        | inl is ↦ absurd (false≢true (sym other ∙ (same_decides f e.0).1 (sym (ap (λ (x : Func × ℕ). x.0) is))))
        | inr later ↦ rw other (listed_some entries f a later)
      ]
    ]

-- a function with a private descriptor has such an address
pub private_has_own : (k : Linkage) (f : Func) (o : Object) (site : ℕ) → k.objects f.module ≡ Some o → Contains (privates_of k (f.module, o)) (f, site) → own_site k f ≢ None
private_has_own k f o site there listed none = listed_some (privates_of k (f.module, o)) f site listed (sym (own_in k f o there) ∙ none)

-- ---- where sites mean the same

same_privates : (k q : Linkage) (m : ℕ) (o : Object) → ((r : Rel) → site_value k m o r ≡ site_value q m o r) → privates_of k (m, o) ≡ privates_of q (m, o)
same_privates k q m o same =
    let each : private_at k m o ≡ private_at q m o = fun_ext (λ r. ap (λ v. cond (is_private o r) (option_map {U = Func × ℕ} (λ f. (f, r.site)) (pair_of v)) None) (same r)) in
    ap (λ (own : Rel → Option (Func × ℕ)). filter_map own o.rels) each

pub same_own : (k q : Linkage) (f : Func) (o : Object) → k.objects f.module ≡ Some o → q.objects f.module ≡ Some o → ((r : Rel) → site_value k f.module o r ≡ site_value q f.module o r)
    → own_site k f ≡ own_site q f
same_own k q f o here there same = own_in k f o here ∙ ap (λ es. listed_addr es f) (same_privates k q f.module o same) ∙ sym (own_in q f o there)

-- ---- the private descriptors of several modules

-- a list with other values
listed_map : (entries : List (Func × ℕ)) (place : Func × ℕ → ℕ) (f : Func) (a : ℕ) → listed_addr entries f ≡ Some a
    → listed_addr (map (λ e. (e.0, place e)) entries) f ≡ Some (place (f, a))
listed_map [] place f a is = absurd cc
listed_map (e ∷ entries) place f a is =
    elim (cases_Bool (is_same_func f e.0)) [
      | inl here ↦
          let func : e.0 ≡ f = sym ((same_decides f e.0).0 here) in
          let first : Some e.1 ≡ Some a = rw here at is in
          let addr : e.1 ≡ a = cc in
          let both : ◌≡◌ {A = Func × ℕ} e (f, a) = λ i. (func i, addr i) in
          rw here (ap (λ (x : Func × ℕ). Some (place x)) both)
      | inr other ↦
          let later : listed_addr entries f ≡ Some a = rw other at is in
          rw other (listed_map entries place f a later)
    ]

-- a module has none of another's functions
not_there : (k : Linkage) (m : ℕ) (o : Object) (f : Func) → f.module ≢ m → listed_addr (privates_of k (m, o)) f ≡ None
not_there k m o f other =
    elim (none_or (listed_addr (privates_of k (m, o)) f)) [
      | inl none ↦ none
      | inr some ↦ absurd (other (private_means k m o f some.0 (listed_in (privates_of k (m, o)) f some.0 some.1)).own)
    ]

first_of_all : (k : Linkage) (joining : List Joining) (j : Joining) (f : Func) (site : ℕ) → HaveOwnNumbers joining → Contains joining j → f.module ≡ j.number
    → listed_addr (privates_of k (j.number, j.object)) f ≡ Some site → listed_addr (privates k (members_of joining)) f ≡ Some site
first_of_all k [] j f site own there number is = absurd (nothing_in j there)
first_of_all k (x ∷ joining) j f site own there number is =
    let here = listed_addr (privates_of k (x.number, x.object)) f in
    let later = listed_addr (privates k (members_of joining)) f in
    listed_append (privates_of k (x.number, x.object)) (privates k (members_of joining)) f
    ∙ elim (first_or_later x j joining there) [
      | inl same ↦ or_stays here later site (ap (λ (y : Joining). listed_addr (privates_of k (y.number, y.object)) f) same ∙ is)
      | inr behind ↦
          let apart : f.module ≢ x.number = λ e. All-contains (λ i. i.number ≢ x.number) joining j own.0 behind (sym number ∙ e) in
          ap (λ o. option_or o later) (not_there k x.number x.object f apart) ∙ first_of_all k joining j f site own.1 behind number is
    ]

-- the first private descriptor is adopted where it is placed
pub adopts_first : (k : Linkage) (joining : List Joining) (j : Joining) (place : Func × ℕ → ℕ) (f : Func) (site : ℕ) → HaveOwnNumbers joining → Contains joining j
    → f.module ≡ j.number → listed_addr (privates_of k (j.number, j.object)) f ≡ Some site
    → listed_addr (map (λ e. (e.0, place e)) (privates k (members_of joining))) f ≡ Some (place (f, site))
adopts_first k joining j place f site own there number is =
    listed_map (privates k (members_of joining)) place f site (first_of_all k joining j f site own there number is)
