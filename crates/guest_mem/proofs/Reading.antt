-- Reads: what they depend on, and what an answer says.
use Rattle.std.proofs.Common.{◌≡◌, ℕ, zero, suc, ◌+◌, ◌*◌, ◌^◌, ◌<◌, ◌≤◌, Bool, true, false, List, Option, Some, None, Ok, Err, length, get_or, drop, refl, ap, sym, subst, ◌∙◌, arith}
use Rattle.std.specs.Prelude.{not}
use Rattle.byteorder.specs.Endian.{little_number}
use Rattle.guest_mem.specs.declared.kind.MemKind.{MemKind}
use Rattle.guest_mem.specs.declared.kind.Access.{Access}
use Rattle.guest_mem.specs.Memory.{GuestMemory, IsBytes, byte_at, kind_at, is_mapped_as, is_code_as}
use Rattle.guest_mem.specs.Accesses.{first_outside, or_then, unaligned, fault_at, unless, read_refusal, read_of, read_words_of, fetch_of, number_at, words_in}
use Rattle.guest_mem.specs.parts.Kept.{Agree}
use Rattle.guest_mem.proofs.Searches.{first_from-same, first_from-none_at}
use Rattle.guest_mem.proofs.Inside.{inside}
use Rattle.guest_mem.proofs.Pasted.{little_number-same, little_number-fits}

-- ---- what is alike in two memories is read alike

pub read_refusal-same : (allowed : Option MemKind → Bool) (width count : ℕ) (m n : GuestMemory) (a : ℕ) → ((i : ℕ) → i < count → kind_at n (a + i) ≡ kind_at m (a + i))
    → read_refusal allowed width count n a ≡ read_refusal allowed width count m a
unfolding read_refusal
read_refusal-same allowed width count m n a h =
    ap (λ o. or_then (unaligned width a) (fault_at o)) (first_from-same (λ b. not (allowed (kind_at m b))) (λ b. not (allowed (kind_at n b))) a count (λ i l. ap (λ kind. not (allowed kind)) (h i l)))

pub number_at-same : (width : ℕ) (m n : GuestMemory) (a : ℕ) → ((i : ℕ) → i < width → byte_at n (a + i) ≡ byte_at m (a + i)) → number_at width n a ≡ number_at width m a
number_at-same width m n a h = little_number-same width m.bytes n.bytes a a h

words_in-same : (count : ℕ) (xs ys : List ℕ) (a : ℕ) → ((i : ℕ) → i < 4 * count → get_or ys (a + i) 0 ≡ get_or xs (a + i) 0) → words_in ys a count ≡ words_in xs a count
words_in-same zero xs ys a h = refl
words_in-same (suc count) xs ys a h =
    let word : little_number 4 (drop a ys) ≡ little_number 4 (drop a xs) = little_number-same 4 xs ys a a (λ i l. h i (omega arith)) in
    let rest : words_in ys (a + 4) count ≡ words_in xs (a + 4) count = words_in-same count xs ys (a + 4) (λ i l. let e : a + 4 + i ≡ a + (4 + i) = omega arith in rw e (h (4 + i) (omega arith))) in
    rw (word, rest) refl

pub read_of-agrees : (width : ℕ) (m n : GuestMemory) (a : ℕ) → Agree m n a width → read_of width n a ≡ read_of width m a
unfolding read_of
read_of-agrees width m n a h =
    ap (λ r. unless r (number_at width n a)) (read_refusal-same is_mapped_as width width m n a h.kinds)
    ∙ ap (unless (read_refusal is_mapped_as width width m a)) (number_at-same width m n a h.bytes)

pub fetch_of-agrees : (m n : GuestMemory) (a : ℕ) → Agree m n a 4 → fetch_of n a ≡ fetch_of m a
unfolding fetch_of
fetch_of-agrees m n a h =
    ap (λ r. unless r (number_at 4 n a)) (read_refusal-same is_code_as 4 4 m n a h.kinds)
    ∙ ap (unless (read_refusal is_code_as 4 4 m a)) (number_at-same 4 m n a h.bytes)

pub read_words_of-agrees : (count : ℕ) (m n : GuestMemory) (a : ℕ) → Agree m n a (4 * count) → read_words_of n a count ≡ read_words_of m a count
unfolding read_words_of
read_words_of-agrees count m n a h =
    ap (λ r. unless r (words_in n.bytes a count)) (read_refusal-same is_mapped_as 4 (4 * count) m n a h.kinds)
    ∙ ap (unless (read_refusal is_mapped_as 4 (4 * count) m a)) (words_in-same count m.bytes n.bytes a h.bytes)

-- ---- what an answer says

pub unless-answered : {X : Type 0} (r : Option Access) (answer v : X) → unless r answer ≡ Ok v → (r ≡ None) × (answer ≡ v)
unless-answered None answer v h = (refl, cc)
unless-answered (Some e) answer v h = cc

pub unless-refused : {X : Type 0} (r : Option Access) (answer : X) (e : Access) → unless r answer ≡ Err e → r ≡ Some e
unless-refused None answer e h = cc
unless-refused (Some e') answer e h = cc

pub read_of-answered : (width : ℕ) (m : GuestMemory) (a v : ℕ) → read_of width m a ≡ Ok v → (read_refusal is_mapped_as width width m a ≡ None) × (number_at width m a ≡ v)
unfolding read_of
read_of-answered width m a v h = unless-answered (read_refusal is_mapped_as width width m a) (number_at width m a) v h

pub fetch_of-answered : (m : GuestMemory) (a v : ℕ) → fetch_of m a ≡ Ok v → (read_refusal is_code_as 4 4 m a ≡ None) × (number_at 4 m a ≡ v)
unfolding fetch_of
fetch_of-answered m a v h = unless-answered (read_refusal is_code_as 4 4 m a) (number_at 4 m a) v h

pub read_words_of-answered : (m : GuestMemory) (a count : ℕ) (vs : List ℕ) → read_words_of m a count ≡ Ok vs → (read_refusal is_mapped_as 4 (4 * count) m a ≡ None) × (words_in m.bytes a count ≡ vs)
unfolding read_words_of
read_words_of-answered m a count vs h = unless-answered (read_refusal is_mapped_as 4 (4 * count) m a) (words_in m.bytes a count) vs h

pub or_then-none : (x y : Option Access) → or_then x y ≡ None → (x ≡ None) × (y ≡ None)
or_then-none None y h = (refl, h)
or_then-none (Some e) y h = cc

fault_at-none : (o : Option ℕ) → fault_at o ≡ None → o ≡ None
fault_at-none None h = refl
fault_at-none (Some a) h = cc

not-false : (b : Bool) → not b ≡ false → b ≡ true
not-false true h = refl
not-false false h = cc

pub allowed_at : (allowed : Option MemKind → Bool) (width count : ℕ) (m : GuestMemory) (a k : ℕ) → read_refusal allowed width count m a ≡ None → a ≤ k → k < a + count → allowed (kind_at m k) ≡ true
unfolding read_refusal
allowed_at allowed width count m a k h l l' =
    let none : first_outside allowed m a count ≡ None = fault_at-none _ (or_then-none (unaligned width a) _ h).1 in
    not-false (allowed (kind_at m k)) (first_from-none_at (λ b. not (allowed (kind_at m b))) a count k none l l')

-- what is granted lies inside
pub granted_inside : (allowed : Option MemKind → Bool) → allowed None ≡ false → (width count : ℕ) (m : GuestMemory) (a : ℕ) → 0 < count → read_refusal allowed width count m a ≡ None → a + count ≤ length m.kinds
unfolding read_refusal
granted_inside allowed none width count m a p h = inside allowed none m.kinds a count (fault_at-none _ (or_then-none (unaligned width a) _ h).1) p

pub read_refusal-inside : (width count : ℕ) (m : GuestMemory) (a : ℕ) → 0 < count → read_refusal is_mapped_as width count m a ≡ None → a + count ≤ length m.kinds
read_refusal-inside width count m a p h = granted_inside is_mapped_as refl width count m a p h

pub read_of-inside : (width : ℕ) (m : GuestMemory) (a v : ℕ) → 0 < width → read_of width m a ≡ Ok v → a + width ≤ length m.kinds
read_of-inside width m a v p h = read_refusal-inside width width m a p (read_of-answered width m a v h).0

-- each byte of a fetched word is Code
pub fetch_of-code : (m : GuestMemory) (a v i : ℕ) → fetch_of m a ≡ Ok v → i < 4 → is_code_as (kind_at m (a + i)) ≡ true
fetch_of-code m a v i h l = allowed_at is_code_as 4 4 m a (a + i) (fetch_of-answered m a v h).0 (omega arith) (omega arith)

-- ---- sizes

-- numbers are as small as their bytes let them be
pub read_of-fits : (width : ℕ) (m : GuestMemory) (a v : ℕ) → IsBytes m → read_of width m a ≡ Ok v → v < 256 ^ width
read_of-fits width m a v bytes h = subst (λ (x : ℕ). x < 256 ^ width) (read_of-answered width m a v h).1 (little_number-fits width m.bytes a bytes)

pub fetch_of-fits : (m : GuestMemory) (a v : ℕ) → IsBytes m → fetch_of m a ≡ Ok v → v < 2 ^ 32
fetch_of-fits m a v bytes h = subst (λ (x : ℕ). x < 2 ^ 32) (fetch_of-answered m a v h).1 (little_number-fits 4 m.bytes a bytes)

words_in-fits : (bytes : List ℕ) (a count : ℕ) → ((b : ℕ) → get_or bytes b 0 < 256) → (j : ℕ) → get_or (words_in bytes a count) j 0 < 2 ^ 32
words_in-fits bytes a zero h j = omega arith
words_in-fits bytes a (suc count) h zero = little_number-fits 4 bytes a h
words_in-fits bytes a (suc count) h (suc j) = words_in-fits bytes (a + 4) count h j

pub read_words_of-fits : (m : GuestMemory) (a count : ℕ) (vs : List ℕ) → IsBytes m → read_words_of m a count ≡ Ok vs → (j : ℕ) → get_or vs j 0 < 2 ^ 32
read_words_of-fits m a count vs bytes h j = subst (λ (xs : List ℕ). get_or xs j 0 < 2 ^ 32) (read_words_of-answered m a count vs h).1 (words_in-fits m.bytes a count bytes j)

length-words_in : (bytes : List ℕ) (a count : ℕ) → length (words_in bytes a count) ≡ count
length-words_in bytes a zero = refl
length-words_in bytes a (suc count) = ap suc (length-words_in bytes (a + 4) count)

pub read_words_of-length : (m : GuestMemory) (a count : ℕ) (vs : List ℕ) → read_words_of m a count ≡ Ok vs → length vs ≡ count
read_words_of-length m a count vs h = ap length (sym (read_words_of-answered m a count vs h).1) ∙ length-words_in m.bytes a count
