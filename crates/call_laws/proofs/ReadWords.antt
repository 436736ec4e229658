-- Words that are read where their bytes are known.
use Rattle.std.proofs.Common.{◌≡◌, ℕ, zero, suc, ◌+◌, ◌%◌, ◌^◌, ◌<◌, Bool, true, false, cond, List, [], ◌∷◌, Option, Some, None, Ok, get_or, slice_index, sym, ap, ◌∙◌, arith, eq-eqb, append-nil}
use Rattle.std.specs.Prelude.{not}
use Rattle.std.specs.Int.{w32, to_le_bytes}
use Rattle.byteorder.specs.Endian.{little_number, little_bytes}
use Rattle.byteorder.specs.Numbers.{little_number-reads_back}
use Rattle.elf_model.specs.declared.object.Segment.{Segment}
use Rattle.elf_model.specs.Places.{file_byte, file_word}
use Rattle.fd_base.specs.Words.{word_in}
use Rattle.guest_mem.specs.declared.kind.Access.TheVariants.{Unaligned}
use Rattle.guest_mem.specs.declared.kind.MemKind.{MemKind}
use Rattle.guest_mem.specs.declared.kind.MemKind.TheVariants.{Code}
use Rattle.guest_mem.specs.Accesses.{first_outside, or_then, fault_at, unless, read_refusal, read_of, read32_of, fetch_of, number_at}
use Rattle.guest_mem.specs.Memory.{GuestMemory, byte_at, kind_at, is_code_as, is_mapped_as}
use Rattle.guest_mem.proofs.Pasted.{little_number-same}
use Rattle.guest_mem.proofs.Searches.{first_from-same}

-- ---- numbers

-- the number whose bytes these are
number_of : (m : GuestMemory) (a : ℕ) (xs : List ℕ) → ((i : ℕ) → i < 4 → byte_at m (a + i) ≡ get_or xs i 0) → number_at 4 m a ≡ little_number 4 xs
number_of m a xs bytes = little_number-same 4 xs m.bytes 0 a (λ i lt. bytes i lt ∙ ap (λ n. get_or xs n 0) (omega arith))

pub value_stands : (m : GuestMemory) (a v : ℕ) → v < 2 ^ 32 → ((i : ℕ) → i < 4 → byte_at m (a + i) ≡ slice_index (to_le_bytes w32 v) i) → number_at 4 m a ≡ v
value_stands m a v small bytes =
    number_of m a (little_bytes 4 v) bytes
    ∙ ap (little_number 4) (sym (append-nil (little_bytes 4 v))) ∙ little_number-reads_back 4 v [] small

pub file_word_stands : (m : GuestMemory) (a : ℕ) (ss : List Segment) (v : ℕ) → ((i : ℕ) → i < 4 → byte_at m (a + i) ≡ file_byte ss (v + i))
    → number_at 4 m a ≡ file_word ss v
unfolding word_in
file_word_stands m a ss v bytes = number_of m a (file_byte ss v ∷ file_byte ss (v + 1) ∷ file_byte ss (v + 2) ∷ file_byte ss (v + 3) ∷ []) each
  where
    each : (i : ℕ) → i < 4 → byte_at m (a + i) ≡ get_or (file_byte ss v ∷ file_byte ss (v + 1) ∷ file_byte ss (v + 2) ∷ file_byte ss (v + 3) ∷ []) i 0
    each zero lt = bytes 0 lt ∙ ap (file_byte ss) (omega arith)
    each (suc zero) lt = bytes 1 lt
    each (suc (suc zero)) lt = bytes 2 lt
    each (suc (suc (suc zero))) lt = bytes 3 lt
    each (suc (suc (suc (suc n)))) lt = absurd (omega arith)

-- ---- answers

not_refused : (allowed : Option MemKind → Bool) (m : GuestMemory) (a : ℕ) → a % 4 ≡ 0 → ((i : ℕ) → i < 4 → allowed (kind_at m (a + i)) ≡ true)
    → read_refusal allowed 4 4 m a ≡ None
unfolding read_refusal
not_refused allowed m a aligned kinds =
    let nowhere : first_outside allowed m a 4 ≡ None = first_from-same (λ b. false) (λ b. not (allowed (kind_at m b))) a 4 (λ i lt. ap not (kinds i lt)) in
    ap (λ b. or_then (cond b None (Some (Unaligned a))) (fault_at (first_outside allowed m a 4))) (eq-eqb (a % 4) 0 aligned) ∙ ap fault_at nowhere

pub read_there : (m : GuestMemory) (a v : ℕ) (kind : MemKind) → a % 4 ≡ 0 → ((i : ℕ) → i < 4 → kind_at m (a + i) ≡ Some kind) → number_at 4 m a ≡ v
    → read32_of m a ≡ Ok v
unfolding read_of
read_there m a v kind aligned kinds is =
    ap (λ r. unless r (number_at 4 m a)) (not_refused is_mapped_as m a aligned (λ i lt. ap is_mapped_as (kinds i lt))) ∙ ap (λ n. Ok n) is

pub fetched_there : (m : GuestMemory) (a v : ℕ) → a % 4 ≡ 0 → ((i : ℕ) → i < 4 → kind_at m (a + i) ≡ Some Code) → number_at 4 m a ≡ v → fetch_of m a ≡ Ok v
unfolding fetch_of
fetched_there m a v aligned kinds is =
    ap (λ r. unless r (number_at 4 m a)) (not_refused is_code_as m a aligned (λ i lt. ap is_code_as (kinds i lt))) ∙ ap (λ n. Ok n) is
