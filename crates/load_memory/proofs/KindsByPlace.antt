-- Kinds and marks by place.
use Rattle.std.proofs.Common.{◌≡◌, ◌⊎◌, inl, inr, ℕ, ◌+◌, ◌≤◌, false, cond, Option, length, ap, sym, ◌∙◌, arith}
use Rattle.fd_base.proofs.Ranges.{is_inside, is_outside, in_or_out}
use Rattle.guest_mem.specs.declared.kind.MemKind.{MemKind}
use Rattle.guest_mem.specs.Memory.{GuestMemory, HaveKind, kind_at, is_marked}
use Rattle.guest_mem.specs.Ranges.{with_kind}
use Rattle.guest_mem.proofs.Ranged.{kind_at-with_kind_there, kind_at-with_kind_other, is_marked-with_kind_there, is_marked-with_kind_other}
use Rattle.fd_base.specs.Ranges.{is_in}

-- a range that is mapped, and all else
pub kind_at-with_kind : (m : GuestMemory) (start len : ℕ) (kind : Option MemKind) (a : ℕ) → start + len ≤ length m.kinds → kind_at (with_kind m start len kind) a ≡ cond (is_in start len a) kind (kind_at m a)
kind_at-with_kind m start len kind a h = elim (in_or_out start len a) [
  | inl there ↦ kind_at-with_kind_there m start len kind a h there.0 there.1 ∙ ap (λ b. cond b kind (kind_at m a)) (sym (is_inside start len a there.0 there.1))
  | inr other ↦ kind_at-with_kind_other m start len kind a other ∙ ap (λ b. cond b kind (kind_at m a)) (sym (is_outside start len a other))
]

-- no mark comes by mapping
pub is_marked-with_kind : (m : GuestMemory) (start len : ℕ) (kind : Option MemKind) (a : ℕ) → start + len ≤ length m.marks → is_marked m a ≡ false → is_marked (with_kind m start len kind) a ≡ false
is_marked-with_kind m start len kind a h none = elim (in_or_out start len a) [
  | inl there ↦ is_marked-with_kind_there m start len kind a h there.0 there.1
  | inr other ↦ is_marked-with_kind_other m start len kind a other ∙ none
]

-- a range apart from the one that is mapped
pub HaveKind-with_kind : (m : GuestMemory) (start len : ℕ) (kind : Option MemKind) (from count : ℕ) (k : Option MemKind) → (from + count ≤ start) ⊎ (start + len ≤ from)
    → HaveKind m from count k → HaveKind (with_kind m start len kind) from count k
HaveKind-with_kind m start len kind from count k (inl before) h = λ a l l'. kind_at-with_kind_other m start len kind a (inl (omega arith)) ∙ h a l l'
HaveKind-with_kind m start len kind from count k (inr after) h = λ a l l'. kind_at-with_kind_other m start len kind a (inr (omega arith)) ∙ h a l l'
