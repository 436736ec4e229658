-- What the free slots contain.
use Rattle.std.proofs.Common.{◌≡◌, ℕ, ◌<◌, List, length, map, get_or, sym, ap, ◌∙◌, arith}
use Rattle.std.specs.Prelude.{not, Contains, AllPairs}
use Rattle.std.specs.List.{range_with_len}
use Rattle.std.proofs.lemmas.Bool.{false≢true, not-true}
use Rattle.std.proofs.lemmas.List.FromFn.{get_or-map-range_with_len, length-map-range_with_len}
use Rattle.std.proofs.lemmas.List.Kept.{AllPairs-filter}
use Rattle.fd_base.proofs.Members.{filter_in, in_filter}
use Rattle.func_desc.specs.Functions.{has_addr}
use Rattle.func_desc.specs.Pool.{Pool, IsSlot, slot_addr}
use Rattle.func_desc.specs.parts.Laws.{FreeSlotsAreFree}
use Rattle.func_desc.proofs.Values.{has_addr_of, unused}

abbrev pub slot_addrs : ℕ → ℕ → List ℕ
slot_addrs base n = map (slot_addr base) (range_with_len 0 n)

pub length-slot_addrs : (base n : ℕ) → length (slot_addrs base n) ≡ n
length-slot_addrs base n = length-map-range_with_len (slot_addr base) 0 n

at_slot : (base n i d : ℕ) → i < n → get_or (slot_addrs base n) i d ≡ slot_addr base i
at_slot base n i d lt = get_or-map-range_with_len (slot_addr base) 0 n i i d lt (omega arith)

pub rising_slots : (base n : ℕ) → AllPairs (λ a b. a < b) (slot_addrs base n)
rising_slots base n i j d lt within =
    let far : j < n = omega (arith, length-slot_addrs base n) in
    let near : i < n = omega arith in
    rw (at_slot base n i d near, at_slot base n j d far) (above i j lt)
  where
    above : (i j : ℕ) → i < j → slot_addr base i < slot_addr base j
    above i j lt = omega arith

-- an address of the list is a slot's
pub slot_of : (base n a : ℕ) → Contains (slot_addrs base n) a → (i : ℕ) × (i < n) × (a ≡ slot_addr base i)
slot_of base n a c =
    let lt : c.0 < n = omega (arith, c.1, length-slot_addrs base n) in
    (c.0, lt, sym c.2 ∙ at_slot base n c.0 a lt)

pub free_slots_free : FreeSlotsAreFree
free_slots_free = record {
  slots = λ pool a c.
      let in' = in_filter (λ b. not (has_addr pool.addrs b)) (slot_addrs pool.base pool.slots) a c in
      slot_of pool.base pool.slots a in'.0;
  unused = λ pool a f c e.
      let in' = in_filter (λ b. not (has_addr pool.addrs b)) (slot_addrs pool.base pool.slots) a c in
      false≢true (sym (not-true (has_addr pool.addrs a) in'.1) ∙ has_addr_of pool.addrs f a e);
  all = λ pool a slot none.
      filter_in (λ b. not (has_addr pool.addrs b)) (slot_addrs pool.base pool.slots) a (of_slot pool a slot) (ap not (unused pool.addrs a none));
  rising = λ pool. AllPairs-filter (λ a b. a < b) (λ b. not (has_addr pool.addrs b)) (slot_addrs pool.base pool.slots) (rising_slots pool.base pool.slots);
}
  where
    of_slot : (pool : Pool) (a : ℕ) → IsSlot pool a → Contains (slot_addrs pool.base pool.slots) a
    of_slot pool a slot =
        (slot.0, omega (arith, slot.1, length-slot_addrs pool.base pool.slots), at_slot pool.base pool.slots slot.0 a slot.1 ∙ sym slot.2)
