-- Bytes that are mapped can be read.
use Rattle.std.proofs.Common.{◌≡◌, ℕ, ◌+◌, ◌%◌, ◌^◌, ◌<◌, ◌≤◌, Bool, true, false, cond, Some, None, List, [], ◌∷◌, ◌++◌, length, take, drop, refl, ap, sym, ◌∙◌, arith, inl, inr}
use Rattle.std.specs.Prelude.{not, is_ok}
use Rattle.std.proofs.lemmas.List.{get_or_past, get_or-drop, length-drop, take_more}
use Rattle.std.proofs.lemmas.Bool.{cases_lt}
use Rattle.guest_mem.specs.Memory.{GuestMemory, IsMemory, byte_at, is_mapped_as, kind_at}
use Rattle.guest_mem.specs.Accesses.{fault_at, first_outside, number_at, read_of, read_refusal, unless}
use Rattle.guest_mem.proofs.Inside.{mapped_inside}
use Rattle.run_model.specs.Services.{bytes_from}

by_kind : (m : GuestMemory) (a : ℕ) (mapped : Bool) → is_ok (unless (fault_at (cond (not mapped) (Some a) None)) (number_at 1 m a)) ≡ mapped
by_kind m a true = refl
by_kind m a false = refl

pub is_read : (m : GuestMemory) (a : ℕ) → is_ok (read_of 1 m a) ≡ is_mapped_as (kind_at m a)
unfolding read_of read_refusal
is_read m a =
    let aligned : a % 1 ≡ 0 = omega arith in
    rw aligned (by_kind m a (is_mapped_as (kind_at m a)))

mapped_below : (m : GuestMemory) (a : ℕ) → IsMemory m → is_mapped_as (kind_at m a) ≡ true → a + 1 < 2 ^ 32
mapped_below m a whole h =
    let kinds : length m.kinds < 2 ^ 32 = omega (arith, whole.kinds, whole.size) in
    elim (cases_lt a (length m.kinds)) as (λ _. a + 1 < 2 ^ 32) [ inl l ↦ omega arith | inr l ↦ absurd (cc (h, ap is_mapped_as (get_or_past m.kinds a None l))) ]

-- behind a byte that is read there is an address
pub read_below : (m : GuestMemory) (a : ℕ) → IsMemory m → is_ok (read_of 1 m a) ≡ true → a + 1 < 2 ^ 32
read_below m a whole h = mapped_below m a whole (sym (is_read m a) ∙ h)

-- each byte of a mapped range lies inside the memory
pub copied_inside : (m : GuestMemory) (a len i : ℕ) → IsMemory m → first_outside is_mapped_as m a len ≡ None → i < len → a + i < length m.bytes
copied_inside m a len i whole none l =
    let within : a + len ≤ length m.kinds = mapped_inside m.kinds a len none (omega arith) in
    omega (arith, whole.kinds)

pub copied_small : (m : GuestMemory) (a len i : ℕ) → IsMemory m → first_outside is_mapped_as m a len ≡ None → i < len → a + i < 2 ^ 32
copied_small m a len i whole none l =
    let inside : a + i < length m.bytes = copied_inside m a len i whole none l in
    omega (arith, whole.size)

copied_more : (m : GuestMemory) (a i : ℕ) → a + i < length m.bytes → bytes_from m a (i + 1) ≡ bytes_from m a i ++ byte_at m (a + i) ∷ []
copied_more m a i l =
    let left : i < length (drop a m.bytes) = omega (arith, length-drop a m.bytes) in
    take_more (drop a m.bytes) i 0 left ∙ ap (λ b. take i (drop a m.bytes) ++ b ∷ []) (get_or-drop a m.bytes i 0)

pub copied_next : (m : GuestMemory) (a i b : ℕ) (old new : List ℕ) → a + i < length m.bytes → old ≡ bytes_from m a i → b ≡ byte_at m (a + i)
    → new ≡ old ++ b ∷ [] → new ≡ bytes_from m a (i + 1)
copied_next m a i b old new l o p n = n ∙ ap (λ xs. xs ++ b ∷ []) o ∙ ap (λ x. bytes_from m a i ++ x ∷ []) p ∙ sym (copied_more m a i l)

pub ruleset mapped = (is_read)
