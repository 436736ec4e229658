-- Descriptors by the values of sites.
use Rattle.std.proofs.Common.{◌≡◌, ℕ, zero, suc, ◌<◌, ◌≤◌, Option, None, Result, Ok, List, [], ◌∷◌, ◌++◌, map, take, length, get_or, refl, sym, ap, subst, ◌∙◌, arith, append_assoc, not, ◌||◌, Bool}
use mathlib.Core.Path.{fun_ext}
use Rattle.std.specs.Prelude.{option_map, filter, if◌then◌else◌, unwrap_or}
use Rattle.std.specs.List.{filter_map, cons_option, zip}
use Rattle.elf_model.specs.declared.func.Func.{Func}
use Rattle.elf_model.specs.declared.object.Object.{Object}
use Rattle.elf_model.specs.declared.object.Rel.{Rel}
use Rattle.symbol_scope.specs.Closure.{firsts, has}
use Rattle.load_model.specs.declared.error.LoadRefusal.{LoadRefusal}
use Rattle.load_model.specs.declared.meaning.SiteValue.{SiteValue}
use Rattle.load_model.specs.declared.module.Joining.{Joining}
use Rattle.load_model.specs.Definition.{Linkage}
use Rattle.load_model.specs.Descriptors.{is_private, pair_of, descriptor_of, privates_of, asked_of, is_same_func}
use Rattle.load_model.specs.Sites.{Member, site_value}
use Rattle.elf_model.specs.Filled.{fixup_at}
use Rattle.load_sites.specs.parts.Descriptors.{privates_by, all_asked_by}
use Rattle.load_sites.specs.parts.Values.{AreValuesOf, IsValues}

abbrev Meant : Type 0
Meant = Result SiteValue LoadRefusal

-- ---- the first sites and the first values

zipped : {A : Type 0} (f : Rel → Meant) (g : Rel → Meant → Option A) (rels rest : List Rel) (values : List SiteValue) → map f (rels ++ rest) ≡ map Ok values
    → filter_map (λ e. g e.0 (Ok e.1)) (zip rels values) ≡ filter_map (λ r. g r (f r)) rels
zipped f g [] rest values e = refl
zipped f g (r ∷ rels) rest [] e = absurd (none_one (f r) (map f (rels ++ rest)) e)
  where
    none_one : (x : Meant) (xs : List Meant) → x ∷ xs ≡ [] → ⊥
    none_one x xs e = cc
zipped {A} f g (r ∷ rels) rest (v ∷ values) e =
    let here : f r ≡ Ok v = cc in
    let later : map f (rels ++ rest) ≡ map Ok values = cc in
    ap (λ x. cons_option (g r x) (filter_map (λ p. g p.0 (Ok p.1)) (zip rels values))) (sym here)
    ∙ ap (cons_option (g r (f r))) (zipped f g rels rest values later)

taken : {A : Type 0} (f : Rel → Meant) (g : Meant → Option A) (rels rest : List Rel) (values : List SiteValue) → map f (rels ++ rest) ≡ map Ok values
    → filter_map (λ v. g (Ok v)) (take (length rels) values) ≡ filter_map (λ r. g (f r)) rels
taken f g [] rest values e = refl
taken f g (r ∷ rels) rest [] e = absurd (none_one (f r) (map f (rels ++ rest)) e)
  where
    none_one : (x : Meant) (xs : List Meant) → x ∷ xs ≡ [] → ⊥
    none_one x xs e = cc
taken {A} f g (r ∷ rels) rest (v ∷ values) e =
    let here : f r ≡ Ok v = cc in
    let later : map f (rels ++ rest) ≡ map Ok values = cc in
    ap (λ x. cons_option (g x) (filter_map (λ w. g (Ok w)) (take (length rels) values))) (sym here)
    ∙ ap (cons_option (g (f r))) (taken f g rels rest values later)

within : (f : Rel → Meant) (rels rest : List Rel) (values : List SiteValue) → map f (rels ++ rest) ≡ map Ok values → length rels ≤ length values
within f [] rest values e = omega arith
within f (r ∷ rels) rest [] e = absurd (none_one (f r) (map f (rels ++ rest)) e)
  where
    none_one : (x : Meant) (xs : List Meant) → x ∷ xs ≡ [] → ⊥
    none_one x xs e = cc
within f (r ∷ rels) rest (v ∷ values) e =
    let later : map f (rels ++ rest) ≡ map Ok values = cc in
    omega (arith, within f rels rest values later)

-- ---- one module

behind : Object → List Rel
behind o = o.jmprels ++ map fixup_at (unwrap_or o.fixups [])

by_parts : (l : Linkage) (m : Member) (values : List SiteValue) → AreValuesOf l m values → map (site_value l m.0 m.1) (m.1.rels ++ behind m.1) ≡ map Ok values
unfolding behind
by_parts l m values are = ap (map (site_value l m.0 m.1)) (sym (append_assoc m.1.rels m.1.jmprels (map fixup_at (unwrap_or m.1.fixups [])))) ∙ are

pub enough_values : (l : Linkage) (m : Member) (values : List SiteValue) → AreValuesOf l m values → length m.1.rels ≤ length values
enough_values l m values are = within (site_value l m.0 m.1) m.1.rels (behind m.1) values (by_parts l m values are)

pub privates_same : (l : Linkage) (m : Member) (values : List SiteValue) → AreValuesOf l m values → privates_by m.1 values ≡ privates_of l m
privates_same l m values are =
    zipped (site_value l m.0 m.1) (λ r x. if is_private m.1 r then option_map (λ f. (f, r.site)) (pair_of x) else None) m.1.rels (behind m.1) values (by_parts l m values are)

pub asked_same : (l : Linkage) (m : Member) (values : List SiteValue) → AreValuesOf l m values → all_asked_by m.1 values ≡ asked_of l m
asked_same l m values are = taken (site_value l m.0 m.1) descriptor_of m.1.rels (behind m.1) values (by_parts l m values are)

-- ---- all modules

pub module_values : (l : Linkage) (joining : List Joining) (values : List (List SiteValue)) (i : ℕ) (j : Joining) (vs : List SiteValue) → IsValues l joining values → i < length joining
    → j ≡ get_or joining i j → vs ≡ get_or values i vs → AreValuesOf l (j.number, j.object) vs
module_values l [] values i j vs are lt is has = absurd (omega arith)
module_values l (k ∷ joining) [] i j vs are lt is has = absurd are
module_values l (k ∷ joining) (ws ∷ values) zero j vs are lt is has = subst (λ x. AreValuesOf l (x.number, x.object) vs) (sym is) (subst (AreValuesOf l (k.number, k.object)) (sym has) are.0)
module_values l (k ∷ joining) (ws ∷ values) (suc i) j vs are lt is has = let below : i < length joining = omega arith in module_values l joining values i j vs are.1 below is has

pub module_count : (l : Linkage) (joining : List Joining) (values : List (List SiteValue)) → IsValues l joining values → length values ≡ length joining
module_count l [] [] are = refl
module_count l [] (ws ∷ values) are = absurd are
module_count l (k ∷ joining) [] are = absurd are
module_count l (k ∷ joining) (ws ∷ values) are = omega (arith, module_count l joining values are.1)

-- ---- what is wanted

pub same_wanted : (had : Func → Bool) (p q : Func → Bool) (asked : List Func) → ((f : Func) → p f ≡ q f)
    → firsts is_same_func (filter (λ f. not (had f || p f)) asked) ≡ firsts is_same_func (filter (λ f. not (had f || q f)) asked)
same_wanted had p q asked same = ap (λ t. firsts is_same_func (filter (λ f. not (had f || t f)) asked)) (fun_ext same)
