-- What stays is read as before.
use Rattle.std.proofs.Common.{◌≡◌, ◌≢◌, ◌⊎◌, inl, inr, ℕ, ◌+◌, ◌<◌, ◌≤◌, Bool, true, false, List, Option, Some, None, Ok, length, get_or, refl, ap, sym, ◌∙◌, arith}
use Rattle.guest_mem.specs.declared.kind.MemKind.{MemKind}
use Rattle.guest_mem.specs.declared.kind.MemKind.TheVariants.{Code, Data, Fixed}
use Rattle.guest_mem.specs.Memory.{GuestMemory, IsMemory, kind_at, is_code_as, is_marked, is_watched, is_watched_as}
use Rattle.guest_mem.specs.Accesses.{read_of, fetch_of}
use Rattle.guest_mem.specs.parts.Kept.{Keeps, Alters, Agree}
use Rattle.guest_mem.proofs.Reading.{read_of-agrees, fetch_of-agrees, fetch_of-code}

pub Keeps-same : (m : GuestMemory) → Keeps m m
Keeps-same m = record { kinds = refl; marks = refl; size = refl; bytes = λ a k. refl }

-- what is kept twice is kept
pub Keeps-then : (old mid new : GuestMemory) → Keeps old mid → Keeps mid new → Keeps old new
Keeps-then old mid new h k = record {
  kinds = k.kinds ∙ h.kinds;
  marks = k.marks ∙ h.marks;
  size = k.size ∙ h.size;
  bytes = λ a p. k.bytes a (rw (h.kinds, h.marks) p) ∙ h.bytes a p;
}

pub Keeps-IsMemory : (old new : GuestMemory) → Keeps old new → IsMemory old → IsMemory new
Keeps-IsMemory old new k h = record {
  kinds = ap length k.kinds ∙ h.kinds ∙ sym k.size;
  marks = ap length k.marks ∙ h.marks ∙ sym k.size;
  size = rw k.size h.size;
}

-- the map and the marks stay, so what is watched does
pub is_watched-same : (old new : GuestMemory) (a : ℕ) → new.kinds ≡ old.kinds → new.marks ≡ old.marks → is_watched new a ≡ is_watched old a
is_watched-same old new a kinds marks =
    ap (λ (ks : List (Option MemKind)). is_watched_as (get_or ks a None) (is_marked new a)) kinds
    ∙ ap (λ (ms : List Bool). is_watched_as (kind_at old a) (get_or ms a false)) marks

-- a range all of whose bytes are kept
pub Keeps-agree : (old new : GuestMemory) (a count : ℕ) → Keeps old new → ((i : ℕ) → i < count → (is_watched old (a + i) ≡ true) ⊎ (kind_at old (a + i) ≢ Some Data)) → Agree old new a count
Keeps-agree old new a count k h = record {
  bytes = λ i l. k.bytes (a + i) (h i l);
  kinds = λ i l. ap (λ (ks : List (Option MemKind)). get_or ks (a + i) None) k.kinds;
}

-- a range that meets no byte of the one that was altered
pub Alters-agree : (old new : GuestMemory) (start len a count : ℕ) → Alters start len old new → (a + count ≤ start) ⊎ (start + len ≤ a) → Agree old new a count
Alters-agree old new start len a count h (inl before) = record {
  bytes = λ i l. h.bytes (a + i) (inl (omega arith));
  kinds = λ i l. ap (λ (ks : List (Option MemKind)). get_or ks (a + i) None) h.kinds;
}
Alters-agree old new start len a count h (inr after) = record {
  bytes = λ i l. h.bytes (a + i) (inr (omega arith));
  kinds = λ i l. ap (λ (ks : List (Option MemKind)). get_or ks (a + i) None) h.kinds;
}

-- a number that is watched is read as before
pub read_of-kept : (width : ℕ) (old new : GuestMemory) (a : ℕ) → Keeps old new → ((i : ℕ) → i < width → is_watched old (a + i) ≡ true) → read_of width new a ≡ read_of width old a
read_of-kept width old new a k watched = read_of-agrees width old new a (Keeps-agree old new a width k (λ i l. inl (watched i l)))

code_is_no_data : (kind : Option MemKind) → is_code_as kind ≡ true → kind ≢ Some Data
code_is_no_data None h = cc
code_is_no_data (Some Code) h = λ e. cc
code_is_no_data (Some Data) h = cc
code_is_no_data (Some Fixed) h = cc

-- what was fetched is fetched
pub fetch_of-kept : (old new : GuestMemory) (a w : ℕ) → Keeps old new → fetch_of old a ≡ Ok w → fetch_of new a ≡ Ok w
fetch_of-kept old new a w k h =
    fetch_of-agrees old new a (Keeps-agree old new a 4 k (λ i l. inr (code_is_no_data (kind_at old (a + i)) (fetch_of-code old a w i h l)))) ∙ h
