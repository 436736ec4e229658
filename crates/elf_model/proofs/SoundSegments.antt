-- The segments of an accepted object fit and are apart.
use Rattle.std.proofs.Common.{◌≡◌, ℕ, zero, suc, ◌+◌, ◌^◌, ◌<◌, ◌≤◌, Bool, true, false, not, cond, ◌&&◌, ◌||◌, ◌==◌, nat_lt, nat_le, List, [], ◌∷◌, ◌++◌, length, map, None, refl, sym, subst, inl, inr, arith, All, AllPairs, append-nil, length-append, length-drop, length-take}
use Rattle.std.specs.Int.{is_power_of_two}
use Rattle.std.specs.List.{list_any}
use Rattle.std.proofs.lemmas.List.{map-append}
use Rattle.std.proofs.lemmas.List.Elements.{All-nil, All-push, All-cons}
use Rattle.std.proofs.lemmas.List.Quantifiers.{all_pairs_push}
use Rattle.std.proofs.lemmas.List.FromFn.{filter_of_map_range_with_len_more}
use Rattle.std.proofs.lemmas.Bool.{and_parts, and_cases, or_parts, ltb-true, ltb-false, leb-true, leb-false, not-false}
use Rattle.elf_model.specs.declared.table.ProgramHeader.{ProgramHeader}
use Rattle.elf_model.specs.declared.refusal.ElfKind.TheVariants.{Tls, TooMany, SegmentRange, SegmentOverlap}
use Rattle.elf_model.specs.Test.{ElfTest, refuses, only_where, first_failing, each_below}
use Rattle.elf_model.specs.Header.{e_phnum}
use Rattle.elf_model.specs.Segments.{is_load, program_header, program_header_tests, program_header_test, header_offset, loads_below, loads, segment, segment_tests, memory_meets, is_in_range}
use Rattle.elf_model.specs.Sound.{IsSized, SegmentsApart}
use Rattle.elf_model.proofs.Tests.{both_pass, front_holds, three_hold}

-- what is known of some segments that were accepted
pub record AreSound (bytes : List ℕ) (hs : List ProgramHeader) : Type 0 where
  pub few : length hs ≤ 8
  pub in_range : All (λ h. is_in_range h (length bytes) ≡ true) hs
  pub sized : All IsSized (map (segment bytes) hs)
  pub apart : AllPairs SegmentsApart (map (segment bytes) hs)

apart_of : (a b : ProgramHeader) (bytes : List ℕ) → memory_meets b a ≡ false → SegmentsApart (segment bytes a) (segment bytes b)
unfolding memory_meets
apart_of a b bytes h =
    elim (and_cases (nat_lt b.vaddr (a.vaddr + a.memsz)) (nat_lt a.vaddr (b.vaddr + b.memsz)) h) [
      | inl above ↦ inl (ltb-false b.vaddr (a.vaddr + a.memsz) above)
      | inr below ↦ inr (ltb-false a.vaddr (b.vaddr + b.memsz) below)
    ]

all_apart_of : (b : ProgramHeader) (bytes : List ℕ) (hs : List ProgramHeader) → list_any (λ a. memory_meets b a) hs ≡ false
    → All (λ s. SegmentsApart s (segment bytes b)) (map (segment bytes) hs)
all_apart_of b bytes [] h = All-nil _
all_apart_of b bytes (a ∷ hs) h =
    let parts = or_parts (memory_meets b a) (list_any (λ c. memory_meets b c) hs) h in
    All-cons (λ s. SegmentsApart s (segment bytes b)) (segment bytes a) (map (segment bytes) hs) (apart_of a b bytes parts.0) (all_apart_of b bytes hs parts.1)

-- the four parts of a range test
pub record IsInRange (h : ProgramHeader) (len : ℕ) : Type 0 where
  pub file : h.offset + h.filesz ≤ len
  pub fits : h.filesz ≤ h.memsz
  pub end : h.vaddr + h.memsz < 2 ^ 32
  pub aligned : (h.align == 0 || is_power_of_two h.align) ≡ true

pub in_range : (h : ProgramHeader) (len : ℕ) → is_in_range h len ≡ true → IsInRange h len
unfolding is_in_range
in_range h len t =
    let one = and_parts (nat_le (h.offset + h.filesz) len) _ t in
    let two = and_parts (nat_le h.filesz h.memsz) _ one.1 in
    let three = and_parts (nat_lt (h.vaddr + h.memsz) (2 ^ 32)) _ two.1 in
    record {
      file = leb-true (h.offset + h.filesz) len one.0;
      fits = leb-true h.filesz h.memsz two.0;
      end = ltb-true (h.vaddr + h.memsz) (2 ^ 32) three.0;
      aligned = three.1;
    }

sized_of : (bytes : List ℕ) (h : ProgramHeader) → nat_lt 0 h.memsz ≡ true → is_in_range h (length bytes) ≡ true → IsSized (segment bytes h)
sized_of bytes h some range =
    let parts = in_range h (length bytes) range in
    record {
      some = ltb-true 0 h.memsz some;
      end = parts.end;
      filled = simp (length-take, length-drop) (omega (arith, parts.fits));
      aligned = parts.aligned;
    }

-- a header that passes its tests after these
sound_load : (bytes : List ℕ) (hs : List ProgramHeader) (h : ProgramHeader) → AreSound bytes hs → is_load h ≡ true
    → nat_le 8 (length hs) ≡ false → is_in_range h (length bytes) ≡ true → list_any (λ e. memory_meets h e) hs ≡ false
    → AreSound bytes (hs ++ h ∷ [])
sound_load bytes hs h before load few range apart =
    let some : nat_lt 0 h.memsz ≡ true = (and_parts (h.kind == 1) (nat_lt 0 h.memsz) load).1 in
    let more : map (segment bytes) (hs ++ h ∷ []) ≡ map (segment bytes) hs ++ segment bytes h ∷ [] = map-append (segment bytes) hs (h ∷ []) in
    let below : length hs < 8 = leb-false 8 (length hs) few in
    record {
      few = simp length-append (omega (arith, below));
      in_range = All-push (λ e. is_in_range e (length bytes) ≡ true) hs h before.in_range range;
      sized = rw more (All-push IsSized (map (segment bytes) hs) (segment bytes h) before.sized (sized_of bytes h some range));
      apart = rw more (all_pairs_push SegmentsApart (map (segment bytes) hs) (segment bytes h) before.apart (λ k d lt. all_apart_of h bytes hs apart k d lt));
    }

load_tests : (bytes : List ℕ) (hs : List ProgramHeader) (h : ProgramHeader) (offset : ℕ) → List ElfTest
load_tests bytes hs h offset =
    refuses TooMany offset (nat_le 8 (length hs))
    ∷ refuses SegmentRange offset (not (is_in_range h (length bytes)))
    ∷ refuses SegmentOverlap offset (list_any (λ e. memory_meets h e) hs)
    ∷ []

sound_by_load : (bytes : List ℕ) (hs : List ProgramHeader) (h : ProgramHeader) (offset : ℕ) → AreSound bytes hs
    → (b : Bool) → is_load h ≡ b → first_failing (only_where b (load_tests bytes hs h offset)) ≡ None
    → AreSound bytes (hs ++ cond b (h ∷ []) [])
unfolding load_tests
sound_by_load bytes hs h offset before false is t = rw append-nil before
sound_by_load bytes hs h offset before true is t =
    let held = three_hold
    (refuses TooMany offset (nat_le 8 (length hs)))
    (refuses SegmentRange offset (not (is_in_range h (length bytes))))
    (refuses SegmentOverlap offset (list_any (λ e. memory_meets h e) hs)) t in
    sound_load bytes hs h before is held.0 (not-false (is_in_range h (length bytes)) held.1) held.2

sound_more : (bytes : List ℕ) (hs : List ProgramHeader) (h : ProgramHeader) (offset : ℕ) → AreSound bytes hs
    → first_failing (program_header_tests (length bytes) offset h hs) ≡ None
    → AreSound bytes (hs ++ cond (is_load h) (h ∷ []) [])
unfolding program_header_tests load_tests
sound_more bytes hs h offset before passes =
    sound_by_load bytes hs h offset before (is_load h) refl (front_holds (refuses Tls offset (h.kind == 7 && nat_lt 0 h.memsz)) (only_where (is_load h) (load_tests bytes hs h offset)) passes).1

sound_below : (bytes : List ℕ) (n : ℕ) → first_failing (each_below n (program_header_test bytes)) ≡ None → AreSound bytes (loads_below bytes n)
unfolding each_below
sound_below bytes zero h = record { few = omega arith; in_range = All-nil _; sized = All-nil _; apart = λ i j d lt in'. absurd (omega arith) }
sound_below bytes (suc n) h =
    let parts = both_pass (each_below n (program_header_test bytes)) (program_header_test bytes n) h in
    let more : loads_below bytes (n + 1) ≡ loads_below bytes n ++ cond (is_load (program_header bytes n)) (program_header bytes n ∷ []) []
    = filter_of_map_range_with_len_more is_load (program_header bytes) 0 n n (omega arith) in
    let one : n + 1 ≡ suc n = omega arith in
    let next = sound_more bytes (loads_below bytes n) (program_header bytes n) (header_offset bytes n) (sound_below bytes n parts.0) parts.1 in
    subst (λ (k : ℕ). AreSound bytes (loads_below bytes k)) one (subst (λ (hs : List ProgramHeader). AreSound bytes hs) (sym more) next)

-- the segments of a file whose program headers pass their tests
pub sound_loads : (bytes : List ℕ) → first_failing (segment_tests bytes) ≡ None → AreSound bytes (loads bytes)
unfolding segment_tests
sound_loads bytes h = sound_below bytes (e_phnum bytes) h
