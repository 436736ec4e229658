-- Slots that are filled up to 64 places.
use Rattle.std.proofs.Common.{◌≡◌, ℕ, zero, suc, ◌+◌, ◌-◌, ◌<◌, ◌≤◌, Option, None, List, [], ◌∷◌, ◌++◌, length, set, get_or, replicate, refl, sym, ap, ◌∙◌, arith, append_assoc, length-append, length-set}
use Rattle.std.proofs.lemmas.List.{set-append_left, set-append_right, set-get_or}
use Rattle.symbol_scope.specs.declared.table.Table.{Table}
use Rattle.symbol_scope.specs.parts.Needs.{table_at}
use Rattle.symbol_scope.specs.parts.Slots.{filled_up}
use Rattle.symbol_scope.proofs.Finding.{table_at-behind}

pub filled_up_push : (slots : List (Option Table)) → length slots < 64 → filled_up (slots ++ None ∷ []) ≡ filled_up slots
filled_up_push slots lt =
    let len : length (slots ++ None ∷ []) ≡ length slots + 1 = length-append slots (None ∷ []) in
    let left : 64 - length slots ≡ suc (64 - (length slots + 1)) = omega arith in
    ap (λ n. (slots ++ None ∷ []) ++ replicate (64 - n) None) len ∙ append_assoc slots (None ∷ []) (replicate (64 - (length slots + 1)) None)
    ∙ ap (λ n. slots ++ replicate n None) (sym left)

pub filled_up-set : (slots : List (Option Table)) (n : ℕ) (slot : Option Table) → n < length slots → filled_up (set slots n slot) ≡ set (filled_up slots) n slot
filled_up-set slots n slot lt =
    ap (λ k. set slots n slot ++ replicate (64 - k) None) (length-set slots n slot) ∙ sym (set-append_left slots (replicate (64 - length slots) None) n slot lt)

abbrev no_slot : Option Table
no_slot = None

none_at : (k j : ℕ) → get_or (replicate k None) j None ≡ no_slot
none_at zero j = refl
none_at (suc k) zero = refl
none_at (suc k) (suc j) = none_at k j

pub filled_up-past : (slots : List (Option Table)) (n : ℕ) → length slots ≤ n → filled_up slots ≡ set (filled_up slots) n None
filled_up-past slots n le =
    let empty : List (Option Table) = replicate (64 - length slots) None in
    let j : ℕ = n - length slots in
    let same : set empty j None ≡ empty = ap (set empty j) (sym (none_at (64 - length slots) j)) ∙ set-get_or empty j None in
    sym (set-append_right slots empty (length slots) n None refl le ∙ ap (λ l. slots ++ l) same)

-- ---- what stands in a slot

slot_read : (slots : List (Option Table)) (n : ℕ) → get_or slots n None ≡ table_at slots n
slot_read [] n = refl
slot_read (slot ∷ slots) zero = refl
slot_read (slot ∷ slots) (suc n) = slot_read slots n

-- the table of a number, which is none behind the slots
pub table_read : (slots : List (Option Table)) (n : ℕ) → get_or slots n None ≡ table_at (filled_up slots) n
table_read slots n = slot_read slots n ∙ sym (table_at-behind slots (64 - length slots) n)
