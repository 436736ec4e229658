-- Names that are entered in an index.
use Rattle.std.proofs.Common.{◌≡◌, ℕ, Bool, true, false, cond, Option, Some, None, List, [], ◌∷◌, ◌++◌, refl, sym, ap, ◌∙◌, ◌<◌, ◌+◌, length, get_or, drop, append_assoc}
use Rattle.std.specs.Prelude.{is_some, option_to_list}
use Rattle.std.specs.Option.{option_or}
use Rattle.std.specs.Ordering.{nat_cmp, eq_by_cmp}
use Rattle.std.specs.Cmp.Lexicographic.{slice_cmp, nat_list_cmp_total}
use Rattle.std.specs.FinMap.{get, find, nat_cmp-IsAntisymmetric, slice_cmp-IsAntisymmetric, same_map, get-from_entries}
use Rattle.std.specs.List.{filter_map, cons_option, enumerate_from}
use Rattle.std.specs.Str.{bytes_eq}
use Rattle.std.specs.Map.{lookup}
use Rattle.std.proofs.lemmas.Bool.{false≢true}
use Rattle.std.proofs.lemmas.Slice.Eq.{bytes_eq-Decides}
use Rattle.elf_model.specs.declared.object.Symbol.{Symbol}
use Rattle.symbol_scope.specs.Exports.{export_entry, export_map, exports_of}
use Rattle.symbol_scope.proofs.Finding.{tied_names, entries_more}

abbrev Entries : Type 0
Entries = List (List ℕ × ℕ)

-- the first number of a name
abbrev number_of : List ℕ → Entries → Option ℕ
number_of name entries = find (slice_cmp nat_cmp) name entries

pub looked_up : (name : List ℕ) (entries : Entries) → lookup (bytes_eq name) entries ≡ number_of name entries
looked_up name [] = refl
looked_up name (e ∷ es) = λ i. cond (sym (tied_names name e.0) i) (Some e.1) (looked_up name es i)

cond_or : (b : Bool) (x : ℕ) (y z : Option ℕ) → cond b (Some x) (option_or y z) ≡ option_or (cond b (Some x) y) z
cond_or true x y z = refl
cond_or false x y z = refl

number_of-append : (name : List ℕ) (xs ys : Entries) → number_of name (xs ++ ys) ≡ option_or (number_of name xs) (number_of name ys)
number_of-append name [] ys = refl
number_of-append name (x ∷ xs) ys =
    ap (cond (eq_by_cmp (slice_cmp nat_cmp) name x.0) (Some x.1)) (number_of-append name xs ys)
    ∙ cond_or (eq_by_cmp (slice_cmp nat_cmp) name x.0) x.1 (number_of name xs) (number_of name ys)

same_numbers : (xs ys : Entries) → ((name : List ℕ) → number_of name xs ≡ number_of name ys) → export_map xs ≡ export_map ys
same_numbers xs ys same =
    same_map nat_list_cmp_total (slice_cmp-IsAntisymmetric nat_cmp-IsAntisymmetric) (export_map xs) (export_map ys)
    (λ name. get-from_entries nat_list_cmp_total xs name ∙ same name ∙ sym (get-from_entries nat_list_cmp_total ys name))

numbers_same : (xs ys : Entries) (name : List ℕ) → export_map xs ≡ export_map ys → number_of name xs ≡ number_of name ys
numbers_same xs ys name same =
    sym (get-from_entries nat_list_cmp_total xs name) ∙ ap (λ m. get m name) same ∙ get-from_entries nat_list_cmp_total ys name

-- what stands behind leads to the same
pub same_behind : (xs ys zs : Entries) → export_map xs ≡ export_map ys → export_map (xs ++ zs) ≡ export_map (ys ++ zs)
same_behind xs ys zs same =
    same_numbers (xs ++ zs) (ys ++ zs)
    (λ name. number_of-append name xs zs ∙ ap (λ o. option_or o (number_of name zs)) (numbers_same xs ys name same) ∙ sym (number_of-append name ys zs))

has_number : (known given : Option ℕ) → is_some known ≡ true → option_or known given ≡ known
has_number None given is = absurd (false≢true is)
has_number (Some n) given is = refl

or_none : (o : Option ℕ) → option_or o None ≡ o
or_none None = refl
or_none (Some n) = refl

other_name : (name : List ℕ) (b : Bool) (k : List ℕ) (n : ℕ) (entries : Entries) → bytes_eq name k ≡ b → is_some (number_of k entries) ≡ true
    → option_or (number_of name entries) (cond b (Some n) None) ≡ number_of name entries
other_name name true k n entries is there =
    has_number (number_of name entries) (Some n) (ap (λ m. is_some (number_of m entries)) ((bytes_eq-Decides name k).0 is) ∙ there)
other_name name false k n entries is there = or_none (number_of name entries)

-- a name that is there keeps its number
pub entered_before : (entries : Entries) (k : List ℕ) (n : ℕ) → is_some (lookup (bytes_eq k) entries) ≡ true → export_map entries ≡ export_map (entries ++ (k, n) ∷ [])
entered_before entries k n there =
    same_numbers entries (entries ++ (k, n) ∷ [])
    (λ name. sym (number_of-append name entries ((k, n) ∷ [])
    ∙ ap (λ b. option_or (number_of name entries) (cond b (Some n) None)) (tied_names name k)
    ∙ other_name name (bytes_eq name k) k n entries refl (ap is_some (sym (looked_up k entries)) ∙ there)))

listed : (own : Option (List ℕ × ℕ)) (rest : Entries) → cons_option own rest ≡ option_to_list own ++ rest
listed None rest = refl
listed (Some e) rest = refl

-- a symbol more
pub indexed_more : (symbols : List Symbol) (i : ℕ) (s : Symbol) (old new : Entries) → i < length symbols → s ≡ get_or symbols i s
    → export_map new ≡ export_map (old ++ option_to_list (export_entry (i, s)))
    → export_map (old ++ filter_map export_entry (enumerate_from i (drop i symbols))) ≡ exports_of symbols
    → export_map (new ++ filter_map export_entry (enumerate_from (i + 1) (drop (i + 1) symbols))) ≡ exports_of symbols
indexed_more symbols i s old new lt is step before =
    let own : Entries = option_to_list (export_entry (i, s)) in
    let rest : Entries = filter_map export_entry (enumerate_from (i + 1) (drop (i + 1) symbols)) in
    same_behind new (old ++ own) rest step
    ∙ ap export_map (append_assoc old own rest ∙ ap (λ l. old ++ l) (sym (entries_more symbols i s lt is ∙ listed (export_entry (i, s)) rest)))
    ∙ before

none_there : (o : Option ℕ) → is_some o ≡ false → o ≡ None
none_there None is = refl
none_there (Some n) is = absurd (false≢true (sym is))

pub not_there : (name : List ℕ) (entries : Entries) → is_some (lookup (bytes_eq name) entries) ≡ false → lookup (bytes_eq name) entries ≡ None
not_there name entries is = none_there (lookup (bytes_eq name) entries) is
