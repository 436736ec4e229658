-- What stays, and what is alike in two memories.
use Rattle.std.specs.Prelude.{◌≡◌, ◌≢◌, ◌⊎◌, ◌+◌, ◌<◌, ◌≤◌, ℕ, true, Some, length}
use Rattle.guest_mem.specs.declared.kind.MemKind.TheVariants.{Data}
use Rattle.guest_mem.specs.Memory.{GuestMemory, byte_at, kind_at, is_watched}

-- The map and the marks stay, and so does each byte that is watched or isn't mapped as Data.
pub record Keeps (old new : GuestMemory) : Type 0 where
  pub kinds : new.kinds ≡ old.kinds
  pub marks : new.marks ≡ old.marks
  pub size : length new.bytes ≡ length old.bytes
  pub bytes : (a : ℕ) → (is_watched old a ≡ true) ⊎ (kind_at old a ≢ Some Data) → byte_at new a ≡ byte_at old a

-- The map and the marks stay, and so does each byte outside a range.
pub record Alters (start len : ℕ) (old new : GuestMemory) : Type 0 where
  pub kinds : new.kinds ≡ old.kinds
  pub marks : new.marks ≡ old.marks
  pub size : length new.bytes ≡ length old.bytes
  pub bytes : (a : ℕ) → (a < start) ⊎ (start + len ≤ a) → byte_at new a ≡ byte_at old a

-- the bytes of a range and their kinds are alike in two memories
pub record Agree (m n : GuestMemory) (start len : ℕ) : Type 0 where
  pub bytes : (i : ℕ) → i < len → byte_at n (start + i) ≡ byte_at m (start + i)
  pub kinds : (i : ℕ) → i < len → kind_at n (start + i) ≡ kind_at m (start + i)

-- one map and the same marks in two memories
pub record SameMap (m n : GuestMemory) : Type 0 where
  pub kinds : n.kinds ≡ m.kinds
  pub marks : n.marks ≡ m.marks
  pub size : length n.bytes ≡ length m.bytes

-- What became of two memories: each byte stayed in both, or it is the same in both now.
pub record ChangesAlike (m n m' n' : GuestMemory) : Type 0 where
  pub map : SameMap m' n'
  pub bytes : (a : ℕ) → ((byte_at m' a ≡ byte_at m a) × (byte_at n' a ≡ byte_at n a)) ⊎ (byte_at n' a ≡ byte_at m' a)
