-- Writes: what they keep, and what is read after them.
use Rattle.std.proofs.Common.{◌≡◌, ◌≢◌, ◌⊎◌, inl, inr, ℕ, ◌+◌, ◌^◌, ◌<◌, ◌≤◌, Bool, true, false, List, Option, Some, None, Ok, length, get_or, refl, ap, sym, subst, ◌∙◌, arith}
use Rattle.byteorder.specs.Endian.{little_bytes}
use Rattle.byteorder.specs.Numbers.{length-bytes_low_first}
use Rattle.fd_base.proofs.Ranges.{in_or_out}
use Rattle.guest_mem.specs.declared.kind.MemKind.{MemKind}
use Rattle.guest_mem.specs.declared.kind.MemKind.TheVariants.{Code, Data, Fixed}
use Rattle.guest_mem.specs.Memory.{GuestMemory, IsMemory, IsBytes, byte_at, kind_at, is_mapped_as, is_marked, is_watched, is_watched_as}
use Rattle.guest_mem.specs.Accesses.{first_watched, or_then, stray_at, unless, read_refusal, write_refusal, read_of, write_of, with_bytes, number_at}
use Rattle.guest_mem.specs.Ranges.{pasted}
use Rattle.guest_mem.specs.parts.Kept.{Keeps, Alters, SameMap, ChangesAlike}
use Rattle.guest_mem.proofs.Searches.{first_from-same, first_from-none_at}
use Rattle.guest_mem.proofs.Pasted.{length-pasted, get_or-pasted_other, get_or-pasted_there, pasted-fits, pasted-either, little_number-pasted}
use Rattle.guest_mem.proofs.Reading.{unless-answered, or_then-none, allowed_at, read_refusal-inside, read_refusal-same, read_of-answered}

stray_at-none : (o : Option ℕ) → stray_at o ≡ None → o ≡ None
stray_at-none None h = refl
stray_at-none (Some a) h = cc

pub write_of-answered : (width : ℕ) (m : GuestMemory) (a : ℕ) (new : List ℕ) (n : GuestMemory) → write_of width m a new ≡ Ok n → (write_refusal width (length new) m a ≡ None) × (with_bytes m a new ≡ n)
unfolding write_of
write_of-answered width m a new n h = unless-answered (write_refusal width (length new) m a) (with_bytes m a new) n h

-- what is written could be read
pub write_refusal-readable : (width count : ℕ) (m : GuestMemory) (a : ℕ) → write_refusal width count m a ≡ None → read_refusal is_mapped_as width count m a ≡ None
unfolding write_refusal
write_refusal-readable width count m a h = (or_then-none _ _ h).0

-- and isn't watched
pub write_refusal-unwatched : (width count : ℕ) (m : GuestMemory) (a k : ℕ) → write_refusal width count m a ≡ None → a ≤ k → k < a + count → is_watched m k ≡ false
unfolding write_refusal
write_refusal-unwatched width count m a k h l l' = first_from-none_at (is_watched m) a count k (stray_at-none _ (or_then-none _ _ h).1) l l'

-- writes are refused alike where kinds and marks are alike
pub write_refusal-same : (width count : ℕ) (m n : GuestMemory) (a : ℕ) → ((i : ℕ) → i < count → kind_at n (a + i) ≡ kind_at m (a + i)) → ((i : ℕ) → i < count → is_watched n (a + i) ≡ is_watched m (a + i))
    → write_refusal width count n a ≡ write_refusal width count m a
unfolding write_refusal
write_refusal-same width count m n a kinds watched =
    ap (λ r. or_then r (stray_at (first_watched n a count))) (read_refusal-same is_mapped_as width count m n a kinds)
    ∙ ap (λ o. or_then (read_refusal is_mapped_as width count m a) (stray_at o)) (first_from-same (is_watched m) (is_watched n) a count watched)

-- ---- what a write keeps

-- a byte that is mapped and not watched is none of those to be kept
not_kept : (kind : Option MemKind) (mark : Bool) → is_mapped_as kind ≡ true → is_watched_as kind mark ≡ false → (is_watched_as kind mark ≡ true) ⊎ (kind ≢ Some Data) → ⊥
not_kept None mark m w k = cc
not_kept (Some Data) mark m w (inl k) = cc
not_kept (Some Data) mark m w (inr k) = k refl
not_kept (Some Code) mark m w k = cc
not_kept (Some Fixed) mark m w k = cc

-- bytes that are put, whether or not a guest may write them
module _ (m : GuestMemory) (a : ℕ) (new : List ℕ) where
  pub with_bytes-alters : Alters a (length new) m (with_bytes m a new)
  with_bytes-alters = record {
    kinds = refl;
    marks = refl;
    size = length-pasted m.bytes new a;
    bytes = λ b out. get_or-pasted_other m.bytes new a b 0 out;
  }

  pub with_bytes-there : (i : ℕ) → a + length new ≤ length m.bytes → i < length new → byte_at (with_bytes m a new) (a + i) ≡ get_or new i 0
  with_bytes-there i h l = get_or-pasted_there m.bytes new a i 0 h l

  pub IsMemory-with_bytes : IsMemory m → IsMemory (with_bytes m a new)
  IsMemory-with_bytes whole = record {
    kinds = whole.kinds ∙ sym (length-pasted m.bytes new a);
    marks = whole.marks ∙ sym (length-pasted m.bytes new a);
    size = rw (length-pasted m.bytes new a) whole.size;
  }

  pub IsBytes-with_bytes : IsBytes m → ((k : ℕ) → get_or new k 0 < 256) → IsBytes (with_bytes m a new)
  IsBytes-with_bytes bytes l = pasted-fits m.bytes new a 256 bytes l

module _ (width : ℕ) (m : GuestMemory) (a : ℕ) (new : List ℕ) where
  put-keeps : write_refusal width (length new) m a ≡ None → Keeps m (with_bytes m a new)
  put-keeps granted = record {
    kinds = refl;
    marks = refl;
    size = length-pasted m.bytes new a;
    bytes = λ b k. elim (in_or_out a (length new) b) as (λ _. get_or (pasted m.bytes a new) b 0 ≡ get_or m.bytes b 0) [
      | inl in_range ↦ absurd (not_kept (kind_at m b) (is_marked m b) (allowed_at is_mapped_as width (length new) m a b (write_refusal-readable width (length new) m a granted) in_range.0 in_range.1)
          (write_refusal-unwatched width (length new) m a b granted in_range.0 in_range.1) k)
      | inr out ↦ get_or-pasted_other m.bytes new a b 0 out
    ];
  }

  -- a write alters only its range, and keeps what is watched or isn't Data
  pub write_of-alters : (n : GuestMemory) → write_of width m a new ≡ Ok n → Alters a (length new) m n
  write_of-alters n h = subst (Alters a (length new) m) (write_of-answered width m a new n h).1 (with_bytes-alters m a new)

  pub write_of-keeps : (n : GuestMemory) → write_of width m a new ≡ Ok n → Keeps m n
  write_of-keeps n h = let was = write_of-answered width m a new n h in subst (Keeps m) was.1 (put-keeps was.0)

-- bytes below 256 stay so
pub write_of-fits : (width : ℕ) (m : GuestMemory) (a : ℕ) (new : List ℕ) (n : GuestMemory) → IsBytes m → ((k : ℕ) → get_or new k 0 < 256) → write_of width m a new ≡ Ok n → IsBytes n
write_of-fits width m a new n bytes l h = subst IsBytes (write_of-answered width m a new n h).1 (IsBytes-with_bytes m a new bytes l)

-- a write to another memory of the same kinds and marks
pub write_of-alike : (width : ℕ) (m n : GuestMemory) (a : ℕ) (new : List ℕ) → n.kinds ≡ m.kinds → n.marks ≡ m.marks → write_of width n a new ≡ unless (write_refusal width (length new) m a) (with_bytes n a new)
unfolding write_of
write_of-alike width m n a new kinds marks =
    ap (λ r. unless r (with_bytes n a new)) (write_refusal-same width (length new) m n a
    (λ i _. ap (λ (ks : List (Option MemKind)). get_or ks (a + i) None) kinds)
    (λ i _. ap (λ (ks : List (Option MemKind)). is_watched_as (get_or ks (a + i) None) (is_marked n (a + i))) kinds ∙ ap (λ (ms : List Bool). is_watched_as (kind_at m (a + i)) (get_or ms (a + i) false)) marks))

pub SameMap-with_bytes : (m n : GuestMemory) (a : ℕ) (new : List ℕ) → SameMap m n → SameMap (with_bytes m a new) (with_bytes n a new)
SameMap-with_bytes m n a new h = record {
  kinds = h.kinds;
  marks = h.marks;
  size = length-pasted n.bytes new a ∙ h.size ∙ sym (length-pasted m.bytes new a);
}

pub with_bytes-change : (m n : GuestMemory) (a : ℕ) (new : List ℕ) → SameMap m n → ChangesAlike m n (with_bytes m a new) (with_bytes n a new)
with_bytes-change m n a new h = record { map = SameMap-with_bytes m n a new h; bytes = λ b. pasted-either new m.bytes n.bytes a b 0 h.size }

-- ---- what was put is read

pub number_at-put : (width : ℕ) (m : GuestMemory) (a v : ℕ) → v < 256 ^ width → a + width ≤ length m.bytes → number_at width (with_bytes m a (little_bytes width v)) a ≡ v
number_at-put width m a v l h = little_number-pasted width v m.bytes a l h

-- a number that stands where one could be read is read
pub read_of-put : (width : ℕ) (old new : GuestMemory) (a v w : ℕ) → new.kinds ≡ old.kinds → read_of width old a ≡ Ok w → number_at width new a ≡ v → read_of width new a ≡ Ok v
unfolding read_of
read_of-put width old new a v w kinds h e =
    ap (λ r. unless r (number_at width new a)) (read_refusal-same is_mapped_as width width old new a (λ i _. ap (λ (ks : List (Option MemKind)). get_or ks (a + i) None) kinds) ∙ (read_of-answered width old a w h).0)
    ∙ ap (λ x. Ok x) e

-- what was written is read
pub read_of-written : (width : ℕ) (m n : GuestMemory) (a v : ℕ) → 0 < width → length m.kinds ≡ length m.bytes → v < 256 ^ width → write_of width m a (little_bytes width v) ≡ Ok n → read_of width n a ≡ Ok v
unfolding read_of
read_of-written width m n a v some same l h =
    let was = write_of-answered width m a (little_bytes width v) n h in
    let count : length (little_bytes width v) ≡ width = length-bytes_low_first 0 width v in
    let readable : read_refusal is_mapped_as width width m a ≡ None = subst (λ k. read_refusal is_mapped_as width k m a ≡ None) count (write_refusal-readable width (length (little_bytes width v)) m a was.0) in
    let inside : a + width ≤ length m.kinds = read_refusal-inside width width m a some readable in
    subst (λ (x : GuestMemory). unless (read_refusal is_mapped_as width width x a) (number_at width x a) ≡ Ok v) was.1
    (ap (λ r. unless r (number_at width (with_bytes m a (little_bytes width v)) a)) (read_refusal-same is_mapped_as width width m (with_bytes m a (little_bytes width v)) a (λ i _. refl) ∙ readable)
    ∙ ap (λ x. Ok x) (number_at-put width m a v l (omega arith)))
