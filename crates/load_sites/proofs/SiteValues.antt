-- Values of sites, one after another.
use Rattle.std.proofs.Common.{◌≡◌, ℕ, ◌+◌, ◌<◌, Some, None, Result, Ok, Err, List, [], ◌∷◌, ◌++◌, map, take, drop, length, get_or, sym, ap, subst, ◌∙◌}
use Rattle.std.specs.Prelude.{slice_get}
use Rattle.std.specs.List.{filter_map, flat_map, cons_option, AllZip}
use Rattle.std.specs.Result.{result_err}
use Rattle.std.proofs.lemmas.List.{take_more, at_drop_more, map-append}
use Rattle.fd_base.proofs.Lists.{zip_push}
use Rattle.elf_model.specs.declared.object.Rel.{Rel}
use Rattle.load_model.specs.declared.error.LoadRefusal.{LoadRefusal}
use Rattle.load_model.specs.declared.error.LoadErr.{LoadErr}
use Rattle.load_model.specs.declared.error.LoadErr.TheVariants.{Refused, StoreFault, Memory}
use Rattle.load_model.specs.declared.meaning.SiteValue.{SiteValue}
use Rattle.load_model.specs.declared.module.Joining.{Joining}
use Rattle.load_model.specs.Definition.{Linkage}
use Rattle.load_model.specs.Linkage.{members_of}
use Rattle.load_model.specs.Sites.{Member, refusals_of}
use Rattle.load_sites.specs.parts.Answers.{Tells}
use Rattle.load_sites.specs.parts.Values.{AreValuesOf, IsValues}

abbrev Meaning : Type 0
Meaning = Rel → Result SiteValue LoadRefusal

-- ---- one site more

pub one_value_more : (f : Meaning) (sites : List Rel) (values : List SiteValue) (i : ℕ) (r : Rel) (v : SiteValue) → i < length sites → r ≡ get_or sites i r
    → map f (take i sites) ≡ map Ok values → f r ≡ Ok v → map f (take (i + 1) sites) ≡ map Ok (values ++ v ∷ [])
one_value_more f sites values i r v lt is before now =
    ap (map f) (take_more sites i r lt ∙ ap (λ x. take i sites ++ x ∷ []) (sym is))
    ∙ map-append f (take i sites) (r ∷ [])
    ∙ ap (λ l. l ++ f r ∷ []) before
    ∙ ap (λ x. map Ok values ++ x ∷ []) now
    ∙ sym (map-append Ok values (v ∷ []))

next_refusals : (f : Meaning) (sites : List Rel) (i : ℕ) (r : Rel) → i < length sites → r ≡ get_or sites i r
    → filter_map (λ x. result_err (f x)) (drop i sites) ≡ cons_option (result_err (f r)) (filter_map (λ x. result_err (f x)) (drop (i + 1) sites))
next_refusals f sites i r lt is =
    at_drop_more (filter_map (λ x. result_err (f x))) sites i r lt
    ∙ ap (λ x. cons_option (result_err (f x)) (filter_map (λ y. result_err (f y)) (drop (i + 1) sites))) (sym is)

-- a site with a value has no refusal
pub no_refusal_more : (f : Meaning) (sites : List Rel) (i : ℕ) (r : Rel) (v : SiteValue) → i < length sites → r ≡ get_or sites i r
    → filter_map (λ x. result_err (f x)) (drop i sites) ≡ filter_map (λ x. result_err (f x)) sites → f r ≡ Ok v
    → filter_map (λ x. result_err (f x)) (drop (i + 1) sites) ≡ filter_map (λ x. result_err (f x)) sites
no_refusal_more f sites i r v lt is before now =
    ap (λ x. cons_option (result_err x) (filter_map (λ y. result_err (f y)) (drop (i + 1) sites))) (sym now)
    ∙ sym (next_refusals f sites i r lt is) ∙ before

-- the first site without a value has the first refusal
pub first_told : (f : Meaning) (sites : List Rel) (i : ℕ) (r : Rel) (e : LoadErr) → i < length sites → r ≡ get_or sites i r
    → filter_map (λ x. result_err (f x)) (drop i sites) ≡ filter_map (λ x. result_err (f x)) sites
    → Tells (λ x. f r ≡ Err x) e → Tells (λ x. slice_get (filter_map (λ y. result_err (f y)) sites) 0 ≡ Some x) e
first_told f sites i r (Refused x) lt is before h =
    ap (λ l. slice_get l 0) (sym before ∙ next_refusals f sites i r lt is)
    ∙ ap (λ y. slice_get (cons_option (result_err y) (filter_map (λ z. result_err (f z)) (drop (i + 1) sites))) 0) h
first_told f sites i r StoreFault lt is before h = h
first_told f sites i r Memory lt is before h = h

-- ---- one module more

abbrev member : Joining → Member
member j = (j.number, j.object)

pub one_module_more : (l : Linkage) (joining : List Joining) (all : List (List SiteValue)) (i : ℕ) (j : Joining) (values : List SiteValue) → i < length joining → j ≡ get_or joining i j
    → IsValues l (take i joining) all → AreValuesOf l (j.number, j.object) values → IsValues l (take (i + 1) joining) (all ++ values ∷ [])
one_module_more l joining all i j values lt is before now =
    let more : members_of (take (i + 1) joining) ≡ members_of (take i joining) ++ member j ∷ [] =
    ap (map member) (take_more joining i j lt ∙ ap (λ x. take i joining ++ x ∷ []) (sym is)) ∙ map-append member (take i joining) (j ∷ []) in
    subst (λ ms. AllZip (AreValuesOf l) ms (all ++ values ∷ [])) (sym more)
    (zip_push (AreValuesOf l) (members_of (take i joining)) all (member j) values before now)

abbrev all_refusals : Linkage → List Joining → List LoadRefusal
all_refusals l joining = flat_map (λ m. refusals_of l m.0 m.1) (members_of joining)

next_module : (l : Linkage) (joining : List Joining) (i : ℕ) (j : Joining) → i < length joining → j ≡ get_or joining i j
    → all_refusals l (drop i joining) ≡ refusals_of l j.number j.object ++ all_refusals l (drop (i + 1) joining)
next_module l joining i j lt is =
    at_drop_more (all_refusals l) joining i j lt
    ∙ ap (λ x. refusals_of l x.number x.object ++ all_refusals l (drop (i + 1) joining)) (sym is)

-- a module with all values has no refusal
pub no_refusals_more : (l : Linkage) (joining : List Joining) (i : ℕ) (j : Joining) → i < length joining → j ≡ get_or joining i j
    → all_refusals l (drop i joining) ≡ all_refusals l joining → refusals_of l j.number j.object ≡ []
    → all_refusals l (drop (i + 1) joining) ≡ all_refusals l joining
no_refusals_more l joining i j lt is before now =
    ap (λ x. x ++ all_refusals l (drop (i + 1) joining)) (sym now) ∙ sym (next_module l joining i j lt is) ∙ before

in_front : {X : Type 0} (xs ys : List X) (x : X) → slice_get xs 0 ≡ Some x → slice_get (xs ++ ys) 0 ≡ Some x
in_front [] ys x h = absurd (none_some x h)
  where
    none_some : {X : Type 0} (x : X) → None ≡ Some x → ⊥
    none_some x h = cc
in_front (y ∷ xs) ys x h = h

-- the first module without all values has the first refusal
pub first_module_told : (l : Linkage) (joining : List Joining) (i : ℕ) (j : Joining) (e : LoadErr) → i < length joining → j ≡ get_or joining i j
    → all_refusals l (drop i joining) ≡ all_refusals l joining
    → Tells (λ x. slice_get (refusals_of l j.number j.object) 0 ≡ Some x) e → Tells (λ x. slice_get (all_refusals l joining) 0 ≡ Some x) e
first_module_told l joining i j (Refused x) lt is before h =
    ap (λ r. slice_get r 0) (sym before ∙ next_module l joining i j lt is)
    ∙ in_front (refusals_of l j.number j.object) (all_refusals l (drop (i + 1) joining)) x h
first_module_told l joining i j StoreFault lt is before h = h
first_module_told l joining i j Memory lt is before h = h
