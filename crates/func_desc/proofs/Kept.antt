-- What a pool keeps as functions come and go.
use Rattle.std.proofs.Common.{◌≡◌, ◌≢◌, ℕ, zero, suc, ◌+◌, ◌-◌, ◌<◌, ◌≤◌, inl, inr, Bool, false, not, List, [], ◌∷◌, length, drop, replicate, filter, Option, Some, None, refl, sym, ap, ◌∙◌, subst, arith}
use Rattle.std.specs.Prelude.{Contains, slice_get, IfSome, IfNone}
use Rattle.std.specs.FinMap.{get, find}
use Rattle.std.proofs.lemmas.Bool.{not-true, cases_eq}
use Rattle.fd_base.proofs.Members.{contains_at, in_filter}
use Rattle.elf_model.specs.declared.func.Func.{Func}
use Rattle.func_desc.specs.Functions.{func_cmp}
use Rattle.func_desc.specs.Pool.{IsSlot, free_slots}
use Rattle.func_desc.specs.parts.Inside.{addrs_of, is_entered, is_of_another, free_in, AreMarked, IsKept}
use Rattle.func_desc.specs.parts.Slots.{unmarked}
use Rattle.func_desc.proofs.Values.{distinct-insert, unused}
use Rattle.func_desc.proofs.Contained.{slot_addrs, rising_slots, slot_of}
use Rattle.func_desc.proofs.Entered.{entered_get, entered_addr, once-others, dropped, free_slots_in, unmarked_free, free_with, lowest_taken, others_fewer}

-- no function has an address at first

length-unmarked : (base i n : ℕ) → length (unmarked base i (replicate n false)) ≡ n
length-unmarked base i zero = refl
length-unmarked base i (suc n) = ap suc (length-unmarked base (i + 1) n)

none_marked : (base n : ℕ) → AreMarked base [] (replicate n false)
none_marked base zero i lt = refl
none_marked base (suc n) zero lt = refl
none_marked base (suc n) (suc i) lt = none_marked base n i (omega arith)

pub kept_none : (base n spare : ℕ) → n ≤ spare → IsKept base (length (replicate n false)) [] (unmarked base 0 (replicate n false)) spare
kept_none base n spare le = record {
  once = tt;
  distinct = λ f g a p q. absurd (nothing f a p);
  listed = unmarked_free base (replicate n false) [] (none_marked base n);
  room = omega (arith, le, length-unmarked base 0 n);
}
  where
    nothing : (f : Func) (a : ℕ) → get (addrs_of []) f ≡ Some a → ⊥
    nothing f a e = let h = sym (entered_get [] f) ∙ e in cc

module _ (base slots : ℕ) (es : List (Func × ℕ)) (free : List ℕ) (spare : ℕ) (kept : IsKept base slots es free spare) where
  pub kept_free : (room : ℕ) → free ≡ free_slots (record { base = base; slots = slots; addrs = addrs_of es; room = room })
  kept_free room = kept.listed ∙ sym (free_slots_in base slots room es kept.once)

  -- no other function has a function's address
  pub one_holder : (f : Func) (r : Option ℕ) → r ≡ find func_cmp f es → IfSome r (λ a. (g : Func) → get (addrs_of es) g ≡ Some a → g ≡ f)
  one_holder f None is = tt
  one_holder f (Some a) is = λ g p. kept.distinct g f a p (entered_get es f ∙ sym is)

  -- a function gets the lowest free slot
  module _ (f : Func) (a : ℕ) (none : find func_cmp f es ≡ None) (lowest : slice_get free 0 ≡ Some a) where
    in_free : Contains (free_in base slots es) a
    in_free = subst (λ l. Contains l a) kept.listed (contains_at free 0 a lowest)

    not_entered : is_entered es a ≡ false
    not_entered = not-true (is_entered es a) (in_filter (λ b. not (is_entered es b)) (slot_addrs base slots) a in_free).1

    pub some_spare : 0 < spare
    some_spare = let lt = (contains_at free 0 a lowest).1 in omega (arith, lt, kept.room)

    pub fewer_free : length (drop 1 free) + 1 ≡ length free
    fewer_free = go free lowest
      where
        go : (xs : List ℕ) → slice_get xs 0 ≡ Some a → length (drop 1 xs) + 1 ≡ length xs
        go [] is = cc
        go (x ∷ xs) is = omega arith

    pub kept_given : IsKept base slots ((f, a) ∷ es) (drop 1 free) (spare - 1)
    kept_given = record {
      once = (none, kept.once);
      distinct = distinct-insert (addrs_of es) f a (entered_addr es a kept.once ∙ not_entered) kept.distinct;
      listed = ap (drop 1) kept.listed ∙ sym (lowest_taken a (is_entered es) (slot_addrs base slots) (rising_slots base slots) (ap (λ l. slice_get l 0) (sym kept.listed) ∙ lowest));
      room = omega (arith, fewer_free, kept.room);
    }

  -- a function gets an address elsewhere
  pub kept_adopted : (f : Func) (a room : ℕ) → find func_cmp f es ≡ None → ((g : Func) → get (addrs_of es) g ≢ Some a)
      → ¬ IsSlot (record { base = base; slots = slots; addrs = addrs_of es; room = room }) a → length free < spare → IsKept base slots ((f, a) ∷ es) free (spare - 1)
  kept_adopted f a room none new elsewhere more = record {
    once = (none, kept.once);
    distinct = distinct-insert (addrs_of es) f a (unused (addrs_of es) a new) kept.distinct;
    listed = kept.listed ∙ sym (free_with a (is_entered es) (slot_addrs base slots) (λ there. elsewhere (slot_of base slots a there)));
    room = omega (arith, more);
  }

  pub kept_grows : (number : ℕ) (marks : List Bool) (spare' : ℕ) → length marks ≡ slots → AreMarked base (filter (is_of_another number) es) marks
      → spare' + length (filter (is_of_another number) es) ≡ spare + length es → spare - length free ≤ spare' - length (unmarked base 0 marks)
  kept_grows number marks spare' count marked sum =
      let others = filter (is_of_another number) es in
      omega (arith, ap length (unmarked_free base marks others marked), ap (λ n. length (free_in base n others)) count, others_fewer base slots number es, ap length kept.listed, kept.room, sum)

  -- the functions of a module go
  pub kept_dropped : (number : ℕ) (marks : List Bool) (spare' : ℕ) → length marks ≡ slots → AreMarked base (filter (is_of_another number) es) marks
      → spare' + length (filter (is_of_another number) es) ≡ spare + length es
      → IsKept base (length marks) (filter (is_of_another number) es) (unmarked base 0 marks) spare'
  kept_dropped number marks spare' count marked sum =
      let others = filter (is_of_another number) es in
      let listed : unmarked base 0 marks ≡ free_in base (length marks) others = unmarked_free base marks others marked in
      record {
        once = once-others number es kept.once;
        distinct = λ f g a p q. kept.distinct f g a (was f a p) (was g a q);
        listed = listed;
        room = omega (arith, ap length listed, ap (λ n. length (free_in base n others)) count, others_fewer base slots number es, ap length kept.listed, kept.room, sum);
      }
    where
      was : (f : Func) (a : ℕ) → get (addrs_of (filter (is_of_another number) es)) f ≡ Some a → get (addrs_of es) f ≡ Some a
      was f a p = elim (cases_eq f.module number) [
        | inl own ↦ let gone = (dropped number es).gone f own in cc
        | inr other ↦ sym ((dropped number es).others f other) ∙ p
      ]

pub if_none : (o : Option ℕ) (P : Type 0) → P → IfNone o P
if_none None P p = p
if_none (Some x) P p = tt
