-- Look-ups by tables, and in a symbolic module.
use Rattle.std.proofs.Common.{◌≡◌, ℕ, Bool, true, false, not, cond, Option, Some, None, List, [], ◌∷◌, refl, sym, ap, ◌∙◌}
use mathlib.Core.Path.{fun_ext}
use Rattle.std.specs.Prelude.{filter, find, is_some, option_map, option_and_then, ◌==◌}
use Rattle.std.specs.FinMap.{get}
use Rattle.std.proofs.lemmas.Bool.{eqb-true}
use Rattle.fd_base.proofs.Options.{then-map}
use Rattle.elf_model.specs.declared.object.Object.{Object}
use Rattle.symbol_scope.specs.declared.tables.Found.{Found}
use Rattle.symbol_scope.specs.Definition.{first_definition}
use Rattle.symbol_scope.specs.Exports.{exports_of}
use Rattle.symbol_scope.specs.parts.Laws.{ExportsAreFirst}
use Rattle.symbol_scope.specs.parts.Needs.{table_at, export_in}
use Rattle.symbol_scope.specs.parts.Slots.{Slots}
use Rattle.load_model.specs.Definition.{Linkage, export_of, lookup}

-- ---- tables

-- tables of these modules have their exports
pub same_exports : (tables : Slots) (l : Linkage) (name : List ℕ) → ExportsAreFirst
    → ((m : ℕ) → option_map (λ t. t.exports) (table_at tables m) ≡ option_map (λ o. exports_of o.symbols) (l.objects m))
    → export_in tables name ≡ export_of l name
same_exports tables l name first agree = fun_ext (λ m.
    sym (then-map (λ t. t.exports) (λ e. get e name) (table_at tables m))
    ∙ ap (option_and_then (λ e. get e name)) (agree m)
    ∙ then-map (λ o. exports_of o.symbols) (λ e. get e name) (l.objects m)
    ∙ ap (λ f. option_and_then f (l.objects m)) (fun_ext (λ o. first o.symbols name)))

-- ---- one module first

abbrev answer : (ℕ → Option ℕ) → Option ℕ → Option Found
answer f place = option_and_then (λ m. option_map (λ symbol. record { «module» = m; symbol = symbol }) (f m)) place

here_or : (f : ℕ → Option ℕ) (n : ℕ) (xs ys : List ℕ) (b : Bool) → first_definition f xs ≡ first_definition f ys
    → answer f (cond b (Some n) (find (λ m. is_some (f m)) xs)) ≡ answer f (cond b (Some n) (find (λ m. is_some (f m)) ys))
here_or f n xs ys true e = refl
here_or f n xs ys false e = e

passed : (f : ℕ → Option ℕ) (m : ℕ) (xs : List ℕ) → f m ≡ None → first_definition f (m ∷ xs) ≡ first_definition f xs
passed f m xs none = ap (λ o. answer f (cond (is_some o) (Some m) (find (λ n. is_some (f n)) xs))) none

skipped : (f : ℕ → Option ℕ) (m n : ℕ) (xs ys : List ℕ) (b : Bool) → f m ≡ None → (n == m) ≡ b → first_definition f ys ≡ first_definition f xs
    → first_definition f (cond (not b) (n ∷ ys) ys) ≡ first_definition f (n ∷ xs)
skipped f m n xs ys true none is e = e ∙ sym (passed f n xs (ap f (eqb-true n m is) ∙ none))
skipped f m n xs ys false none is e = here_or f n ys xs (is_some (f n)) e

-- a module without a definition changes nothing
pub left_out : (f : ℕ → Option ℕ) (m : ℕ) (xs : List ℕ) → f m ≡ None → first_definition f (filter (λ n. not (n == m)) xs) ≡ first_definition f xs
left_out f m [] none = refl
left_out f m (n ∷ xs) none = skipped f m n xs (filter (λ k. not (k == m)) xs) (n == m) none refl (left_out f m xs none)

-- ---- what a name means

by_scope : (l : Linkage) (m : ℕ) (o : Object) (name : List ℕ) (b : Bool) → o.symbolic ≡ b
    → lookup l m o (Some name) ≡ first_definition (export_of l name) (cond b (m ∷ filter (λ n. not (n == m)) (l.scopes m)) (l.scopes m))
by_scope l m o name b is = ap (λ s. first_definition (export_of l name) (cond s (m ∷ filter (λ n. not (n == m)) (l.scopes m)) (l.scopes m))) is

pub plain_lookup : (l : Linkage) (m : ℕ) (o : Object) (name : List ℕ) → o.symbolic ≡ false
    → lookup l m o (Some name) ≡ first_definition (export_of l name) (l.scopes m)
plain_lookup l m o name is = by_scope l m o name false is

pub own_lookup : (l : Linkage) (m : ℕ) (o : Object) (name : List ℕ) (s : ℕ) → o.symbolic ≡ true → export_of l name m ≡ Some s
    → lookup l m o (Some name) ≡ Some (record { «module» = m; symbol = s })
own_lookup l m o name s is has =
    by_scope l m o name true is
    ∙ ap (λ e. answer (export_of l name) (cond (is_some e) (Some m) (find (λ n. is_some (export_of l name n)) (filter (λ n. not (n == m)) (l.scopes m))))) has
    ∙ ap (option_map (λ symbol. record { «module» = m; symbol = symbol })) has

pub other_lookup : (l : Linkage) (m : ℕ) (o : Object) (name : List ℕ) → o.symbolic ≡ true → export_of l name m ≡ None
    → lookup l m o (Some name) ≡ first_definition (export_of l name) (l.scopes m)
other_lookup l m o name is none =
    by_scope l m o name true is ∙ passed (export_of l name) m (filter (λ n. not (n == m)) (l.scopes m)) none ∙ left_out (export_of l name) m (l.scopes m) none
