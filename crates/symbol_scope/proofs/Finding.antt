-- Exported names, and tables that are looked up.
use Rattle.std.proofs.Common.{◌≡◌, ℕ, zero, suc, ◌+◌, Bool, true, false, cond, ◌&&◌, Option, Some, None, List, [], ◌∷◌, ◌++◌, length, get_or, drop, drop-cons, add-one, refl, sym, ap, ◌∙◌, ◌<◌, arith, replicate, All}
use mathlib.Core.Path.{fun_ext}
use Rattle.std.specs.Prelude.{slice_get, option_map, option_and_then, is_some, IsNone, ◌↔◌}
use Rattle.std.specs.Ordering.{nat_cmp, eq_by_cmp}
use Rattle.std.specs.Cmp.Lexicographic.{slice_cmp}
use Rattle.std.specs.Str.{bytes_eq}
use Rattle.std.specs.Option.{option_map_or}
use Rattle.std.specs.List.{filter_map, cons_option, enumerate_from, position_from}
use Rattle.std.specs.FinMap.{get, find, get-from_entries}
use Rattle.std.specs.Cmp.Lexicographic.{nat_list_cmp_total}
use Rattle.std.proofs.lemmas.Bool.{false≢true}
use Rattle.std.proofs.lemmas.Map.Text.{is_eq-slice_cmp}
use Rattle.std.proofs.lemmas.Iterator.Adapters.{position_from-zero}
use Rattle.elf_model.specs.declared.object.Symbol.{Symbol}
use Rattle.symbol_scope.specs.declared.table.Table.{Table}
use Rattle.symbol_scope.specs.Exported.{is_exported, exports_as, first_export}
use Rattle.symbol_scope.specs.Exports.{export_entry, export_entries, exports_of}
use Rattle.std.specs.List.{find as first_of}
use Rattle.std.proofs.lemmas.List.Elements.{All-cons, All-head, All-tail}
use Rattle.symbol_scope.specs.declared.tables.Found.{Found}
use Rattle.symbol_scope.specs.Definition.{first_definition}
use Rattle.symbol_scope.specs.parts.Needs.{table_at, is_table_named, number_named, needed_by, needs, export_in}

-- a test of names by order is that by bytes
pub tied_names : (a b : List ℕ) → eq_by_cmp (slice_cmp nat_cmp) a b ≡ bytes_eq a b
tied_names a b = is_eq-slice_cmp a b

-- ---- the first export

abbrev found : List ℕ → List (List ℕ × ℕ) → Option ℕ
found name entries = find (slice_cmp nat_cmp) name entries

one_symbol : (name : List ℕ) (b : Bool) (own : Option (List ℕ)) (n : ℕ) (rest : List (List ℕ × ℕ))
    → found name (cons_option (cond b (option_map (λ k. (k, n)) own) None) rest) ≡ cond (b && option_map_or (bytes_eq name) own false) (Some n) (found name rest)
one_symbol name false own n rest = refl
one_symbol name true None n rest = refl
one_symbol name true (Some own) n rest = ap (λ t. cond t (Some n) (found name rest)) (tied_names name own)

first_from : (name : List ℕ) (n : ℕ) (symbols : List Symbol) → found name (filter_map export_entry (enumerate_from n symbols)) ≡ position_from (exports_as name) n symbols
first_from name n [] = refl
first_from name n (s ∷ ss) =
    one_symbol name (is_exported s) s.name n (filter_map export_entry (enumerate_from (n + 1) ss))
    ∙ ap (cond (exports_as name s) (Some n)) (first_from name (n + 1) ss)

pub exports_first : (symbols : List Symbol) (name : List ℕ) → get (exports_of symbols) name ≡ first_export symbols name
exports_first symbols name =
    get-from_entries nat_list_cmp_total (export_entries symbols) name ∙ first_from name 0 symbols ∙ sym (position_from-zero (exports_as name) symbols)

-- the entries of the symbols from one on are its own and those behind it
pub entries_more : (symbols : List Symbol) (i : ℕ) (s : Symbol) → i < length symbols → s ≡ get_or symbols i s
    → filter_map export_entry (enumerate_from i (drop i symbols)) ≡ cons_option (export_entry (i, s)) (filter_map export_entry (enumerate_from (i + 1) (drop (i + 1) symbols)))
entries_more symbols i s lt is =
    ap (λ l. filter_map export_entry (enumerate_from i l)) (drop-cons symbols i s lt)
    ∙ ap (λ x. cons_option (export_entry (i, x)) (filter_map export_entry (enumerate_from (i + 1) (drop (suc i) symbols)))) (sym is)
    ∙ ap (λ k. cons_option (export_entry (i, s)) (filter_map export_entry (enumerate_from (i + 1) (drop k symbols)))) (sym (add-one i))

-- ---- empty slots behind the tables

none_behind : (p : Option Table → Bool) (i k : ℕ) → p None ≡ false → position_from p i (replicate k None) ≡ None
none_behind p i zero none = refl
none_behind p i (suc k) none = ap (λ b. cond b (Some i) (position_from p (i + 1) (replicate k None))) none ∙ none_behind p (i + 1) k none

position_from-behind : (p : Option Table → Bool) (i k : ℕ) (slots : List (Option Table)) → p None ≡ false → position_from p i (slots ++ replicate k None) ≡ position_from p i slots
position_from-behind p i k [] none = none_behind p i k none
position_from-behind p i k (slot ∷ slots) none = ap (cond (p slot) (Some i)) (position_from-behind p (i + 1) k slots none)

pub number_named-behind : (slots : List (Option Table)) (k : ℕ) (name : List ℕ) → number_named (slots ++ replicate k None) name ≡ number_named slots name
number_named-behind slots k name =
    position_from-zero (is_table_named name) (slots ++ replicate k None) ∙ position_from-behind (is_table_named name) 0 k slots refl ∙ sym (position_from-zero (is_table_named name) slots)

abbrev joined : Option (Option Table) → Option Table
joined slot = option_and_then (λ s. s) slot

no_table : (k m : ℕ) → joined (slice_get (replicate k None) m) ≡ None
no_table zero m = refl
no_table (suc k) zero = refl
no_table (suc k) (suc m) = no_table k m

pub table_at-behind : (slots : List (Option Table)) (k m : ℕ) → table_at (slots ++ replicate k None) m ≡ table_at slots m
table_at-behind [] k m = no_table k m
table_at-behind (slot ∷ slots) k zero = refl
table_at-behind (slot ∷ slots) k (suc m) = table_at-behind slots k m

-- empty slots need nothing and export nothing
pub needs-behind : (slots : List (Option Table)) (k : ℕ) → needs slots ≡ needs (slots ++ replicate k None)
needs-behind slots k = fun_ext (λ m.
    ap (λ f. filter_map f (needed_by slots m)) (fun_ext (λ name. sym (number_named-behind slots k name)))
    ∙ ap (λ t. filter_map (number_named (slots ++ replicate k None)) (option_map_or (λ x. x.needed) t [])) (sym (table_at-behind slots k m)))

pub export_in-behind : (slots : List (Option Table)) (k : ℕ) (name : List ℕ) → export_in slots name ≡ export_in (slots ++ replicate k None) name
export_in-behind slots k name = fun_ext (λ m. ap (option_and_then (λ t. get t.exports name)) (sym (table_at-behind slots k m)))

-- ---- no definition

abbrev answer : (ℕ → Option ℕ) → Option ℕ → Option Found
answer f place = option_and_then (λ m. option_map (λ symbol. record { «module» = m; symbol = symbol }) (f m)) place

none_head : (f : ℕ → Option ℕ) (m : ℕ) (ms : List ℕ) (o : Option ℕ) → f m ≡ o → IsNone (answer f (cond (is_some (f m)) (Some m) (first_of (λ n. is_some (f n)) ms)))
    → (f m ≡ None) × IsNone (first_definition f ms)
none_head f m ms None e h = (e, rw e at h)
none_head f m ms (Some s) e h =
    let made : ℕ → Found = λ symbol. record { «module» = m; symbol = symbol } in
    let found : answer f (cond (is_some (f m)) (Some m) (first_of (λ n. is_some (f n)) ms)) ≡ Some (made s) =
    ap (λ o. answer f (cond (is_some o) (Some m) (first_of (λ n. is_some (f n)) ms))) e ∙ ap (option_map made) e in
    absurd (false≢true (sym h ∙ ap is_some found))

none_all : (f : ℕ → Option ℕ) (scope : List ℕ) → IsNone (first_definition f scope) → All (λ m. f m ≡ None) scope
none_all f [] h = λ k d lt. absurd (omega arith)
none_all f (m ∷ ms) h =
    let parts = none_head f m ms (f m) refl h in
    All-cons (λ n. f n ≡ None) m ms parts.0 (none_all f ms parts.1)

all_none : (f : ℕ → Option ℕ) (scope : List ℕ) → All (λ m. f m ≡ None) scope → first_definition f scope ≡ None
all_none f [] all = refl
all_none f (m ∷ ms) all =
    let here : f m ≡ None = All-head (λ n. f n ≡ None) m ms all in
    ap (λ o. answer f (cond (is_some o) (Some m) (first_of (λ n. is_some (f n)) ms))) here ∙ all_none f ms (All-tail (λ n. f n ≡ None) m ms all)

pub none_exactly : (f : ℕ → Option ℕ) (scope : List ℕ) (r : Option Found) → r ≡ first_definition f scope → IsNone r ↔ All (λ m. f m ≡ None) scope
none_exactly f scope r e = (λ h. none_all f scope (rw e at h), λ all. rw (e, all_none f scope all) refl)
