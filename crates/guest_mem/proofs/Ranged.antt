-- Ranges that are mapped, unmapped and watched, at each place.
use Rattle.std.proofs.Common.{◌≡◌, ◌⊎◌, inl, inr, ℕ, ◌+◌, ◌<◌, ◌≤◌, true, false, Option, Some, None, length, refl, ap, ◌∙◌, arith}
use Rattle.guest_mem.specs.declared.kind.MemKind.{MemKind}
use Rattle.guest_mem.specs.declared.kind.MemKind.TheVariants.{Data}
use Rattle.guest_mem.specs.Memory.{GuestMemory, IsMemory, HaveKind, kind_at, is_marked, is_watched, is_watched_as}
use Rattle.guest_mem.specs.Ranges.{with_kind, with_marks}
use Rattle.guest_mem.specs.parts.Kept.{Agree}
use Rattle.guest_mem.proofs.Pasted.{length-filled, get_or-filled_other, get_or-filled_there}

module _ (m : GuestMemory) (start len : ℕ) (kind : Option MemKind) where
  pub kind_at-with_kind_there : (a : ℕ) → start + len ≤ length m.kinds → start ≤ a → a < start + len → kind_at (with_kind m start len kind) a ≡ kind
  kind_at-with_kind_there a h l l' = get_or-filled_there m.kinds start len a kind None h l l'

  pub kind_at-with_kind_other : (a : ℕ) → (a < start) ⊎ (start + len ≤ a) → kind_at (with_kind m start len kind) a ≡ kind_at m a
  kind_at-with_kind_other a out = get_or-filled_other m.kinds start len a kind None out

  pub is_marked-with_kind_there : (a : ℕ) → start + len ≤ length m.marks → start ≤ a → a < start + len → is_marked (with_kind m start len kind) a ≡ false
  is_marked-with_kind_there a h l l' = get_or-filled_there m.marks start len a false false h l l'

  pub is_marked-with_kind_other : (a : ℕ) → (a < start) ⊎ (start + len ≤ a) → is_marked (with_kind m start len kind) a ≡ is_marked m a
  is_marked-with_kind_other a out = get_or-filled_other m.marks start len a false false out

  -- there only the kind decides what is watched
  pub is_watched-with_kind_there : (a : ℕ) → IsMemory m → start + len ≤ length m.bytes → start ≤ a → a < start + len → is_watched (with_kind m start len kind) a ≡ is_watched_as kind false
  is_watched-with_kind_there a whole h l l' =
      let kinds : length m.kinds ≡ length m.bytes = whole.kinds in
      let marks : length m.marks ≡ length m.bytes = whole.marks in
      ap (λ (k : Option MemKind). is_watched_as k (is_marked (with_kind m start len kind) a)) (kind_at-with_kind_there a (omega arith) l l')
      ∙ ap (is_watched_as kind) (is_marked-with_kind_there a (omega arith) l l')

  pub is_watched-with_kind_other : (a : ℕ) → (a < start) ⊎ (start + len ≤ a) → is_watched (with_kind m start len kind) a ≡ is_watched m a
  is_watched-with_kind_other a out =
      ap (λ (k : Option MemKind). is_watched_as k (is_marked (with_kind m start len kind) a)) (kind_at-with_kind_other a out)
      ∙ ap (is_watched_as (kind_at m a)) (is_marked-with_kind_other a out)

  pub IsMemory-with_kind : IsMemory m → IsMemory (with_kind m start len kind)
  IsMemory-with_kind whole = record {
    kinds = length-filled m.kinds start len kind ∙ whole.kinds;
    marks = length-filled m.marks start len false ∙ whole.marks;
    size = whole.size;
  }

  -- what lies apart from the range is read as before
  pub with_kind-agree : (a count : ℕ) → (a + count ≤ start) ⊎ (start + len ≤ a) → Agree m (with_kind m start len kind) a count
  with_kind-agree a count (inl before) = record { bytes = λ i l. refl; kinds = λ i l. kind_at-with_kind_other (a + i) (inl (omega arith)) }
  with_kind-agree a count (inr after) = record { bytes = λ i l. refl; kinds = λ i l. kind_at-with_kind_other (a + i) (inr (omega arith)) }

module _ (m : GuestMemory) (start len : ℕ) where
  pub is_watched-with_marks_there : (a : ℕ) → start + len ≤ length m.marks → HaveKind m start len (Some Data) → start ≤ a → a < start + len → is_watched (with_marks m start len) a ≡ true
  is_watched-with_marks_there a h kinds l l' =
      ap (λ (k : Option MemKind). is_watched_as k (is_marked (with_marks m start len) a)) (kinds a l l')
      ∙ get_or-filled_there m.marks start len a true false h l l'

  pub is_watched-with_marks_other : (a : ℕ) → (a < start) ⊎ (start + len ≤ a) → is_watched (with_marks m start len) a ≡ is_watched m a
  is_watched-with_marks_other a out = ap (is_watched_as (kind_at m a)) (get_or-filled_other m.marks start len a true false out)

  pub IsMemory-with_marks : IsMemory m → IsMemory (with_marks m start len)
  IsMemory-with_marks whole = record { kinds = whole.kinds; marks = length-filled m.marks start len true ∙ whole.marks; size = whole.size }

  -- watching changes nothing that is read
  pub with_marks-agree : (a count : ℕ) → Agree m (with_marks m start len) a count
  with_marks-agree a count = record { bytes = λ i l. refl; kinds = λ i l. refl }
