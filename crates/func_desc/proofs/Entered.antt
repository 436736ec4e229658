-- Entries of functions, each once, and the slots that they leave free.
use Rattle.std.proofs.Common.{◌≡◌, ◌≢◌, ℕ, suc, ◌+◌, ◌<◌, ◌≤◌, ◌==◌, inl, inr, Bool, true, false, cond, not, ◌||◌, List, [], ◌∷◌, ◌++◌, length, map, drop, get_or, filter, Some, None, refl, sym, ap, ap₂, ◌∙◌, subst, arith, AllPairs, append_assoc}
use Rattle.std.specs.Prelude.{Contains, slice_get, is_some}
use Rattle.std.specs.List.{range_with_len}
use Rattle.std.specs.Ordering.{eq_by_cmp}
use Rattle.std.specs.FinMap.{get, find, len, get-from_entries, len-insert, len-empty}
use Rattle.std.proofs.lemmas.Bool.{false≢true, cases_eq, cases_Bool, eq-eqb, ne_eqb, or_right}
use Rattle.fd_base.proofs.Members.{contains_first, contains_later}
use Rattle.elf_model.specs.declared.func.Func.{Func}
use Rattle.func_desc.specs.Functions.{func_cmp, has_addr}
use Rattle.func_desc.specs.Pool.{slot_addr, free_slots}
use Rattle.func_desc.specs.parts.Dropped.{AreDropped}
use Rattle.func_desc.specs.parts.Inside.{addrs_of, is_entered, is_of_another, free_in, AreMarked, AreOnce}
use Rattle.func_desc.specs.parts.Slots.{unmarked}
use Rattle.func_desc.proofs.Values.{or_swap, func_total, tied_func, has_addr-insert, has_addr-empty}
use Rattle.func_desc.proofs.Contained.{slot_addrs, rising_slots}

-- ---- maps of entries

pub entered_get : (es : List (Func × ℕ)) (f : Func) → get (addrs_of es) f ≡ find func_cmp f es
entered_get es f = get-from_entries func_total es f

pub entered_addr : (es : List (Func × ℕ)) (a : ℕ) → AreOnce es → has_addr (addrs_of es) a ≡ is_entered es a
entered_addr [] a once = has_addr-empty a
entered_addr (e ∷ es) a once =
    has_addr-insert (addrs_of es) e.0 e.1 a (entered_get es e.0 ∙ once.0) ∙ ap (λ b. e.1 == a || b) (entered_addr es a once.1)

pub entered_len : (es : List (Func × ℕ)) → AreOnce es → len (addrs_of es) ≡ length es
entered_len [] once = len-empty func_cmp ℕ
entered_len (e ∷ es) once =
    len-insert func_total (addrs_of es) e.0 e.1
    ∙ ap (λ b. cond b (len (addrs_of es)) (len (addrs_of es) + 1)) (ap is_some (entered_get es e.0 ∙ once.0))
    ∙ ap (λ n. n + 1) (entered_len es once.1) ∙ omega arith

-- ---- the entries of other modules

find-others : (number : ℕ) (es : List (Func × ℕ)) (f : Func) → f.module ≢ number → find func_cmp f (filter (is_of_another number) es) ≡ find func_cmp f es
find-others number [] f other = refl
find-others number (e ∷ es) f other = elim (cases_Bool (is_of_another number e)) [
  | inl stays ↦ rw stays (ap (cond (eq_by_cmp func_cmp f e.0) (Some e.1)) (find-others number es f other))
  | inr goes ↦ rw goes (find-others number es f other ∙ sym (ap (λ b. cond b (Some e.1) (find func_cmp f es)) (apart goes)))
]
  where
    apart : is_of_another number e ≡ false → eq_by_cmp func_cmp f e.0 ≡ false
    apart goes = elim (cases_Bool (eq_by_cmp func_cmp f e.0)) [
      | inl same ↦ absurd (false≢true (sym goes ∙ ap not (ne_eqb e.0.module number (λ is. other (ap (λ g. g.module) (tied_func f e.0 same) ∙ is)))))
      | inr differ ↦ differ
    ]

find-gone : (number : ℕ) (es : List (Func × ℕ)) (f : Func) → f.module ≡ number → find func_cmp f (filter (is_of_another number) es) ≡ None
find-gone number [] f own = refl
find-gone number (e ∷ es) f own = elim (cases_Bool (is_of_another number e)) [
  | inl stays ↦ rw stays (ap (λ b. cond b (Some e.1) (find func_cmp f (filter (is_of_another number) es))) (apart stays) ∙ find-gone number es f own)
  | inr goes ↦ rw goes (find-gone number es f own)
]
  where
    apart : is_of_another number e ≡ true → eq_by_cmp func_cmp f e.0 ≡ false
    apart stays = elim (cases_Bool (eq_by_cmp func_cmp f e.0)) [
      | inl same ↦ absurd (false≢true (sym (ap not (eq-eqb e.0.module number (ap (λ g. g.module) (sym (tied_func f e.0 same)) ∙ own))) ∙ stays))
      | inr differ ↦ differ
    ]

pub once-others : (number : ℕ) (es : List (Func × ℕ)) → AreOnce es → AreOnce (filter (is_of_another number) es)
once-others number [] once = once
once-others number (e ∷ es) once = elim (cases_Bool (is_of_another number e)) [
  | inl stays ↦ rw stays (none e.0 once.0, once-others number es once.1)
  | inr goes ↦ rw goes (once-others number es once.1)
]
  where
    none : (f : Func) → find func_cmp f es ≡ None → find func_cmp f (filter (is_of_another number) es) ≡ None
    none f is = elim (cases_eq f.module number) [
      | inl own ↦ find-gone number es f own
      | inr other ↦ find-others number es f other ∙ is
    ]

pub dropped : (number : ℕ) (es : List (Func × ℕ)) → AreDropped number (addrs_of es) (addrs_of (filter (is_of_another number) es))
dropped number es = record {
  gone = λ f own. entered_get (filter (is_of_another number) es) f ∙ find-gone number es f own;
  others = λ f other. entered_get (filter (is_of_another number) es) f ∙ find-others number es f other ∙ sym (entered_get es f);
}

-- ---- free slots

pub free_slots_in : (base slots room : ℕ) (es : List (Func × ℕ)) → AreOnce es → free_slots (record { base = base; slots = slots; addrs = addrs_of es; room = room }) ≡ free_in base slots es
free_slots_in base slots room es once = same_filter (slot_addrs base slots)
  where
    same_filter : (xs : List ℕ) → filter (λ a. not (has_addr (addrs_of es) a)) xs ≡ filter (λ a. not (is_entered es a)) xs
    same_filter [] = refl
    same_filter (x ∷ xs) = ap₂ (λ b l. cond (not b) (x ∷ l) l) (entered_addr es x once) (same_filter xs)

-- the marks of slots tell which are free
unmarked_from : (base i : ℕ) (marks : List Bool) (es : List (Func × ℕ)) → ((k : ℕ) → k < length marks → get_or marks k false ≡ is_entered es (slot_addr base (i + k)))
    → unmarked base i marks ≡ filter (λ a. not (is_entered es a)) (map (slot_addr base) (range_with_len i (length marks)))
unmarked_from base i [] es marked = refl
unmarked_from base i (m ∷ marks) es marked =
    let at : i + 0 ≡ i = omega arith in
    let here : m ≡ is_entered es (slot_addr base i) = marked 0 (omega arith) ∙ ap (λ n. is_entered es (slot_addr base n)) at in
    step m ∙ ap₂ (λ b l. cond (not b) (slot_addr base i ∷ l) l) here (unmarked_from base (i + 1) marks es (λ k lt. marked (suc k) (omega arith) ∙ ap (λ n. is_entered es (slot_addr base n)) (next k)))
  where
    step : (b : Bool) → unmarked base i (b ∷ marks) ≡ cond (not b) (slot_addr base i ∷ unmarked base (i + 1) marks) (unmarked base (i + 1) marks)
    step true = refl
    step false = refl

    next : (k : ℕ) → i + suc k ≡ i + 1 + k
    next k = omega arith

pub unmarked_free : (base : ℕ) (marks : List Bool) (es : List (Func × ℕ)) → AreMarked base es marks → unmarked base 0 marks ≡ free_in base (length marks) es
unmarked_free base marks es marked = unmarked_from base 0 marks es (λ k lt. marked k lt ∙ ap (λ n. is_entered es (slot_addr base n)) (first k))
  where
    first : (k : ℕ) → k ≡ 0 + k
    first k = omega arith

-- an address that is given
pub free_with : (a : ℕ) (q : ℕ → Bool) (xs : List ℕ) → ¬ Contains xs a → filter (λ x. not (a == x || q x)) xs ≡ filter (λ x. not (q x)) xs
free_with a q [] off = refl
free_with a q (x ∷ xs) off =
    ap₂ (λ b l. cond (not (b || q x)) (x ∷ l) l) (ne_eqb a x (λ same. off (contains_first x a xs (sym same)))) (free_with a q xs (λ there. off (contains_later x a xs there)))

later_none : (x : ℕ) (xs : List ℕ) → AllPairs (λ a b. a < b) (x ∷ xs) → ¬ Contains xs x
later_none x xs rising there = let lt = rising 0 (suc there.0) x (omega arith) (omega (arith, there.1)) in let same = there.2 in omega (arith, lt, same)

rising_rest : (x : ℕ) (xs : List ℕ) → AllPairs (λ a b. a < b) (x ∷ xs) → AllPairs (λ a b. a < b) xs
rising_rest x xs rising i j d lt within = rising (suc i) (suc j) d (omega arith) (omega arith)

pub lowest_taken : (a : ℕ) (q : ℕ → Bool) (xs : List ℕ) → AllPairs (λ a b. a < b) xs → slice_get (filter (λ x. not (q x)) xs) 0 ≡ Some a
    → filter (λ x. not (a == x || q x)) xs ≡ drop 1 (filter (λ x. not (q x)) xs)
lowest_taken a q [] rising first = cc
lowest_taken a q (x ∷ xs) rising first = go (q x) refl (lowest_taken a q xs (rising_rest x xs rising)) first
  where
    go : (b : Bool) → q x ≡ b → (slice_get (filter (λ y. not (q y)) xs) 0 ≡ Some a → filter (λ y. not (a == y || q y)) xs ≡ drop 1 (filter (λ y. not (q y)) xs))
        → slice_get (cond (not b) (x ∷ filter (λ y. not (q y)) xs) (filter (λ y. not (q y)) xs)) 0 ≡ Some a
        → cond (not (a == x || q x)) (x ∷ filter (λ y. not (a == y || q y)) xs) (filter (λ y. not (a == y || q y)) xs)
        ≡ drop 1 (cond (not (q x)) (x ∷ filter (λ y. not (q y)) xs) (filter (λ y. not (q y)) xs))
    go true had rest f =
        ap (λ c. cond (not c) (x ∷ filter (λ y. not (a == y || q y)) xs) (filter (λ y. not (a == y || q y)) xs)) (or_right (a == x) (q x) had)
        ∙ rest f
        ∙ ap (λ c. drop 1 (cond (not c) (x ∷ filter (λ y. not (q y)) xs) (filter (λ y. not (q y)) xs))) (sym had)
    go false had rest f =
        let same : x ≡ a = cc in
        ap (λ c. cond (not (c || q x)) (x ∷ filter (λ y. not (a == y || q y)) xs) (filter (λ y. not (a == y || q y)) xs)) (eq-eqb a x (sym same))
        ∙ free_with a q xs (subst (λ z. ¬ Contains xs z) same (later_none x xs rising))
        ∙ ap (λ c. drop 1 (cond (not c) (x ∷ filter (λ y. not (q y)) xs) (filter (λ y. not (q y)) xs))) (sym had)

-- one entry fewer frees one slot at most
freed_one : (a : ℕ) (q : ℕ → Bool) (xs : List ℕ) → AllPairs (λ a b. a < b) xs → length (filter (λ x. not (q x)) xs) ≤ length (filter (λ x. not (a == x || q x)) xs) + 1
freed_one a q [] rising = omega arith
freed_one a q (x ∷ xs) rising = elim (cases_eq a x) [
  | inl is ↦
      let rest : length (filter (λ y. not (a == y || q y)) xs) ≡ length (filter (λ y. not (q y)) xs) = ap length (free_with a q xs (subst (λ z. ¬ Contains xs z) (sym is) (later_none x xs rising))) in
      rw (eq-eqb a x is) (most (q x) rest)
  | inr differ ↦ rw (ne_eqb a x differ) (both (q x) (freed_one a q xs (rising_rest x xs rising)))
]
  where
    most : (b : Bool) → length (filter (λ y. not (a == y || q y)) xs) ≡ length (filter (λ y. not (q y)) xs)
        → length (cond (not b) (x ∷ filter (λ y. not (q y)) xs) (filter (λ y. not (q y)) xs)) ≤ length (filter (λ y. not (a == y || q y)) xs) + 1
    most true is = omega arith
    most false is = omega arith

    both : (b : Bool) → length (filter (λ y. not (q y)) xs) ≤ length (filter (λ y. not (a == y || q y)) xs) + 1
        → length (cond (not b) (x ∷ filter (λ y. not (q y)) xs) (filter (λ y. not (q y)) xs)) ≤ length (cond (not b) (x ∷ filter (λ y. not (a == y || q y)) xs) (filter (λ y. not (a == y || q y)) xs)) + 1
    both true le = le
    both false le = omega arith

is_entered-middle : (front : List (Func × ℕ)) (e : Func × ℕ) (es : List (Func × ℕ)) (x : ℕ) → is_entered (front ++ e ∷ es) x ≡ (e.1 == x || is_entered (front ++ es) x)
is_entered-middle [] e es x = refl
is_entered-middle (first ∷ front) e es x = ap (λ b. first.1 == x || b) (is_entered-middle front e es x) ∙ or_swap (e.1 == x) (first.1 == x) (is_entered (front ++ es) x)

filter_same : (p q : ℕ → Bool) (xs : List ℕ) → ((x : ℕ) → p x ≡ q x) → filter p xs ≡ filter q xs
filter_same p q [] same = refl
filter_same p q (x ∷ xs) same = ap₂ (λ b l. cond b (x ∷ l) l) (same x) (filter_same p q xs same)

-- so entries and free slots together never become more
fewer : (base slots number : ℕ) (front es : List (Func × ℕ))
    → length (free_in base slots (front ++ filter (is_of_another number) es)) + length (filter (is_of_another number) es) ≤ length (free_in base slots (front ++ es)) + length es
fewer base slots number front [] = omega arith
fewer base slots number front (e ∷ es) = elim (cases_Bool (is_of_another number e)) [
  | inl stays ↦ rw stays (kept (fewer base slots number (front ++ e ∷ []) es))
  | inr goes ↦ rw goes (gone (fewer base slots number front es) (freed_one e.1 (is_entered (front ++ es)) (slot_addrs base slots) (rising_slots base slots)))
]
  where
    together : (xs : List (Func × ℕ)) → length (free_in base slots ((front ++ e ∷ []) ++ xs)) ≡ length (free_in base slots (front ++ e ∷ xs))
    together xs = ap (λ l. length (free_in base slots l)) (append_assoc front (e ∷ []) xs)

    kept : length (free_in base slots ((front ++ e ∷ []) ++ filter (is_of_another number) es)) + length (filter (is_of_another number) es) ≤ length (free_in base slots ((front ++ e ∷ []) ++ es)) + length es
        → length (free_in base slots (front ++ e ∷ filter (is_of_another number) es)) + suc (length (filter (is_of_another number) es)) ≤ length (free_in base slots (front ++ e ∷ es)) + suc (length es)
    kept le = omega (arith, le, together (filter (is_of_another number) es), together es)

    gone : length (free_in base slots (front ++ filter (is_of_another number) es)) + length (filter (is_of_another number) es) ≤ length (free_in base slots (front ++ es)) + length es
        → length (filter (λ x. not (is_entered (front ++ es) x)) (slot_addrs base slots)) ≤ length (filter (λ x. not (e.1 == x || is_entered (front ++ es) x)) (slot_addrs base slots)) + 1
        → length (free_in base slots (front ++ filter (is_of_another number) es)) + length (filter (is_of_another number) es) ≤ length (free_in base slots (front ++ e ∷ es)) + suc (length es)
    gone le one =
        let same : length (free_in base slots (front ++ e ∷ es)) ≡ length (filter (λ x. not (e.1 == x || is_entered (front ++ es) x)) (slot_addrs base slots)) =
        ap length (filter_same (λ x. not (is_entered (front ++ e ∷ es) x)) (λ x. not (e.1 == x || is_entered (front ++ es) x)) (slot_addrs base slots) (λ x. ap not (is_entered-middle front e es x))) in
        omega (arith, le, one, same)

pub others_fewer : (base slots number : ℕ) (es : List (Func × ℕ))
    → length (free_in base slots (filter (is_of_another number) es)) + length (filter (is_of_another number) es) ≤ length (free_in base slots es) + length es
others_fewer base slots number es = fewer base slots number [] es
