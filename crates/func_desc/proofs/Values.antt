-- Maps from functions to addresses, and the addresses that they have.
use Rattle.std.proofs.Common.{◌≡◌, ◌≢◌, ℕ, inl, inr, Bool, true, false, cond, ◌&&◌, ◌||◌, T, Some, None, List, [], ◌∷◌, ◌++◌, length, map, refl, sym, ap, ◌∙◌, arith, Ordering}
use Rattle.std.specs.Prelude.{◌==◌}
use Rattle.std.specs.declared.cmp.Ordering.TheVariants.{Less, Equal, Greater}
use Rattle.std.specs.Ordering.{nat_cmp, is_eq, is_lt, eq_by_cmp, ordering_then}
use Rattle.std.specs.List.{list_any}
use Rattle.std.specs.Option.{option_or}
use Rattle.std.specs.Cmp.{IsTotalOrder, then_total, on_total, nat_cmp_total, tied_itself}
use Rattle.std.specs.FinMap.{IsAntisymmetric, nat_cmp-IsAntisymmetric, get, insert, empty, entries, entries_sorted, find, put, is_sorted, get-entries, entries-insert, get-insert, len-entries, len-empty}
use Rattle.std.specs.FinMap.Entries.{by_order, below_all}
use Rattle.std.proofs.lemmas.Bool.{false≢true, or_cases, or_right}
use Rattle.std.proofs.lemmas.Bool.Decides.{Decides-eqb}
use Rattle.fd_base.proofs.Options.{cond_none_parts}
use Rattle.elf_model.specs.declared.func.Func.{Func}
use Rattle.func_desc.specs.Functions.{func_cmp, AddrMap, has_addr}

-- ---- the order of functions

pub func_total : IsTotalOrder func_cmp
func_total = then_total (on_total (λ f. f.module) nat_cmp_total) (on_total (λ f. f.value) nat_cmp_total)

both_equal : (a b : Ordering) → ordering_then a b ≡ Equal → (a ≡ Equal) × (b ≡ Equal)
both_equal Less b e = absurd (false≢true (ap is_eq e))
both_equal Equal b e = (refl, e)
both_equal Greater b e = absurd (false≢true (ap is_eq e))

pub one_func : IsAntisymmetric func_cmp
one_func f g e =
    let parts = both_equal (nat_cmp f.module g.module) (nat_cmp f.value g.value) e in
    let first : f.module ≡ g.module = nat_cmp-IsAntisymmetric f.module g.module parts.0 in
    let second : f.value ≡ g.value = nat_cmp-IsAntisymmetric f.value g.value parts.1 in
    let made : ℕ → ℕ → Func = λ m v. record { «module» = m; value = v } in
    ap (λ m. made m f.value) first ∙ ap (made g.module) second

is_equal : (o : Ordering) → is_eq o ≡ true → o ≡ Equal
is_equal Less e = absurd (false≢true e)
is_equal Equal e = refl
is_equal Greater e = absurd (false≢true e)

-- functions that tie are one
pub tied_func : (f g : Func) → eq_by_cmp func_cmp f g ≡ true → f ≡ g
tied_func f g e = one_func f g (is_equal (func_cmp f g) e)

pub tied_self : (f : Func) → eq_by_cmp func_cmp f f ≡ true
tied_self f = ap is_eq (tied_itself func_total f)

-- ---- the addresses in entries

abbrev pub has_value : List (Func × ℕ) → ℕ → Bool
has_value es a = list_any (λ own. own == a) (map (λ e. e.1) es)

pub or_swap : (a b c : Bool) → (b || (a || c)) ≡ (a || (b || c))
or_swap true true c = refl
or_swap true false c = refl
or_swap false true c = refl
or_swap false false c = refl

has-put : (k : Func) (v : ℕ) (es : List (Func × ℕ)) (a : ℕ) → find func_cmp k es ≡ None → has_value (put func_cmp k v es) a ≡ (v == a || has_value es a)
has-put k v [] a none = refl
has-put k v (e ∷ es) a none =
    let other = cond_none_parts (eq_by_cmp func_cmp k e.0) e.1 (find func_cmp k es) none in
    elim (func_cmp k e.0) as (λ o. func_cmp k e.0 ≡ o → has_value (by_order o ((k, v) ∷ e ∷ es) ((e.0, v) ∷ es) (e ∷ put func_cmp k v es)) a ≡ (v == a || (e.1 == a || has_value es a))) [
      | Less ↦ λ o. refl
      | Equal ↦ λ o. absurd (false≢true (sym other.0 ∙ ap is_eq o))
      | Greater ↦ λ o. ap (λ b. e.1 == a || b) (has-put k v es a other.1) ∙ or_swap (v == a) (e.1 == a) (has_value es a)
    ] refl

pub has_addr-insert : (m : AddrMap) (f : Func) (v a : ℕ) → get m f ≡ None → has_addr (insert m f v) a ≡ (v == a || has_addr m a)
has_addr-insert m f v a none =
    ap (λ es. has_value es a) (entries-insert func_total m f v) ∙ has-put f v (entries m) a (sym (get-entries m f) ∙ none)

no_entries : (es : List (Func × ℕ)) (a : ℕ) → length es ≡ 0 → has_value es a ≡ false
no_entries [] a e = refl
no_entries (e ∷ es) a h = absurd (omega arith)

pub has_addr-empty : (a : ℕ) → has_addr (empty {X = ℕ} {R = func_cmp}) a ≡ false
has_addr-empty a = no_entries (entries (empty {X = ℕ} {R = func_cmp})) a (sym (len-entries (empty {X = ℕ} {R = func_cmp})) ∙ len-empty func_cmp ℕ)

has_found : (f : Func) (es : List (Func × ℕ)) (a : ℕ) → find func_cmp f es ≡ Some a → has_value es a ≡ true
has_found f [] a e = cc
has_found f (x ∷ es) a e =
    elim (eq_by_cmp func_cmp f x.0) as (λ b. cond b (Some x.1) (find func_cmp f es) ≡ Some a → (x.1 == a || has_value es a) ≡ true) [
      | true ↦ λ h. let same : x.1 ≡ a = cc in ap (λ b. b || has_value es a) ((Decides-eqb x.1 a).1 same)
      | false ↦ λ h. or_right (x.1 == a) (has_value es a) (has_found f es a h)
    ] e

-- the address of a function is had
pub has_addr_of : (m : AddrMap) (f : Func) (a : ℕ) → get m f ≡ Some a → has_addr m a ≡ true
has_addr_of m f a e = has_found f (entries m) a (sym (get-entries m f) ∙ e)

and_parts : (a b : Bool) → T (a && b) → T a × T b
and_parts true b t = (tt, t)
and_parts false b t = absurd t

not_less : (o : Ordering) → T (is_lt o) → is_eq o ≡ false
not_less Less t = refl
not_less Equal t = absurd t
not_less Greater t = absurd t

below_none : (f : Func) (es : List (Func × ℕ)) → T (below_all func_cmp f es) → find func_cmp f es ≡ None
below_none f [] t = refl
below_none f (e ∷ es) t =
    let parts = and_parts (is_lt (func_cmp f e.0)) (below_all func_cmp f es) t in
    ap (λ b. cond b (Some e.1) (find func_cmp f es)) (not_less (func_cmp f e.0) parts.0) ∙ below_none f es parts.1

found_value : (es : List (Func × ℕ)) (a : ℕ) → T (is_sorted func_cmp es) → has_value es a ≡ true → (f : Func) × (find func_cmp f es ≡ Some a)
found_value [] a sorted h = absurd (false≢true h)
found_value (e ∷ es) a sorted h =
    let parts = and_parts (below_all func_cmp e.0 es) (is_sorted func_cmp es) sorted in
    elim (or_cases (e.1 == a) (has_value es a) h) [
      | inl here ↦ (e.0, ap (λ b. cond b (Some e.1) (find func_cmp e.0 es)) (tied_self e.0) ∙ ap Some ((Decides-eqb e.1 a).0 here))
      | inr there ↦ later parts.0 (found_value es a parts.1 there)
    ]
  where
    later : T (below_all func_cmp e.0 es) → (f : Func) × (find func_cmp f es ≡ Some a) → (f : Func) × (find func_cmp f (e ∷ es) ≡ Some a)
    later below found = (
      found.0,
      elim (eq_by_cmp func_cmp found.0 e.0) as (λ b. eq_by_cmp func_cmp found.0 e.0 ≡ b → cond b (Some e.1) (find func_cmp found.0 es) ≡ Some a) [
        | true ↦ λ t. absurd (twice t)
        | false ↦ λ t. found.1
      ] refl,
    )
      where
        twice : eq_by_cmp func_cmp found.0 e.0 ≡ true → ⊥
        twice t =
            let none : find func_cmp found.0 es ≡ None = ap (λ g. find func_cmp g es) (tied_func found.0 e.0 t) ∙ below_none e.0 es below in
            let some = found.1 in
            cc

-- an address that is had is a function's
pub func_with : (m : AddrMap) (a : ℕ) → has_addr m a ≡ true → (f : Func) × (get m f ≡ Some a)
func_with m a h =
    let found = found_value (entries m) a (entries_sorted m) h in
    (found.0, get-entries m found.0 ∙ found.1)

pub unused : (m : AddrMap) (a : ℕ) → ((f : Func) → get m f ≢ Some a) → has_addr m a ≡ false
unused m a none =
    elim (has_addr m a) as (λ b. has_addr m a ≡ b → b ≡ false) [
      | true ↦ λ t. let found = func_with m a t in absurd (none found.0 found.1)
      | false ↦ λ t. refl
    ] refl

-- where a new address is given to a function without one, addresses stay distinct
pub distinct-insert : (m : AddrMap) (f : Func) (a : ℕ) → has_addr m a ≡ false → ((g h : Func) (b : ℕ) → get m g ≡ Some b → get m h ≡ Some b → g ≡ h)
    → (g h : Func) (b : ℕ) → get (insert m f a) g ≡ Some b → get (insert m f a) h ≡ Some b → g ≡ h
distinct-insert m f a new distinct g h b p q =
    both (eq_by_cmp func_cmp g f) (eq_by_cmp func_cmp h f) refl refl (sym (get-insert func_total m f a g) ∙ p) (sym (get-insert func_total m f a h) ∙ q)
  where
    never : (k : Func) → a ≡ b → get m k ≡ Some b → ⊥
    never k same e = false≢true (sym new ∙ has_addr_of m k a (e ∙ ap Some (sym same)))

    both : (s t : Bool) → eq_by_cmp func_cmp g f ≡ s → eq_by_cmp func_cmp h f ≡ t → cond s (Some a) (get m g) ≡ Some b → cond t (Some a) (get m h) ≡ Some b → g ≡ h
    both true true x y p q = tied_func g f x ∙ sym (tied_func h f y)
    both true false x y p q = absurd (never h (cc) q)
    both false true x y p q = absurd (never g (cc) p)
    both false false x y p q = distinct g h b p q

-- ---- entries one behind the other

pub find-append : (q : Func) (xs ys : List (Func × ℕ)) → find func_cmp q (xs ++ ys) ≡ option_or (find func_cmp q xs) (find func_cmp q ys)
find-append q [] ys = refl
find-append q (x ∷ xs) ys =
    elim (eq_by_cmp func_cmp q x.0) as (λ b. cond b (Some x.1) (find func_cmp q (xs ++ ys)) ≡ option_or (cond b (Some x.1) (find func_cmp q xs)) (find func_cmp q ys)) [
      | true ↦ refl
      | false ↦ find-append q xs ys
    ]
