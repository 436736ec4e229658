-- What placing a module does to the memory, one part after another. Segments and the entries of the load map stand in
-- one order (FDPIC ABI, "Load maps").
use Rattle.std.specs.Prelude.{◌≡◌, ℕ, ◌+◌, ◌<◌, ◌≤◌, true, false, List, Some, slice_get, slice_index}
use Rattle.load_map.specs.declared.entry.MapEntry.{MapEntry}
use Rattle.elf_model.specs.declared.object.Segment.{Segment}
use Rattle.guest_mem.specs.Memory.{GuestMemory, byte_at, kind_at, is_marked}
use Rattle.guest_mem.specs.parts.Kept.{SameMap}
use Rattle.load_model.specs.Layout.{kind_of_segment}
use Rattle.fd_base.specs.Ranges.{is_in}

-- the entry's link addresses are the segment's
pub record IsPlacedBy (s : Segment) (e : MapEntry) : Type 0 where
  pub vaddr : e.vaddr ≡ s.vaddr
  pub memsz : e.memsz ≡ s.memsz

-- the entry's range lies between two addresses
abbrev pub LiesWithin : ℕ → ℕ → MapEntry → Type 0
LiesWithin low high e = (low ≤ e.addr) × (e.addr + e.memsz ≤ high)

-- an address is in none of the first n ranges
abbrev pub IsOutside : List MapEntry → ℕ → ℕ → Type 0
IsOutside load_map n a = (k : ℕ) (e : MapEntry) → k < n → slice_get load_map k ≡ Some e → is_in e.addr e.memsz a ≡ false

-- The first n segments are mapped, each byte as the kind of its segment, and nothing there is marked. All else is
-- mapped and marked as before.
pub record AreMapped (segments : List Segment) (load_map : List MapEntry) (n : ℕ) (old new : GuestMemory) : Type 0 where
  pub kinds : (k a : ℕ) (s : Segment) (e : MapEntry) → k < n → slice_get segments k ≡ Some s → slice_get load_map k ≡ Some e → is_in e.addr e.memsz a ≡ true
      → kind_at new a ≡ Some (kind_of_segment s)
  pub marks : (k a : ℕ) (e : MapEntry) → k < n → slice_get load_map k ≡ Some e → is_in e.addr e.memsz a ≡ true → is_marked new a ≡ false
  pub other_kinds : (a : ℕ) → IsOutside load_map n a → kind_at new a ≡ kind_at old a
  pub other_marks : (a : ℕ) → IsOutside load_map n a → is_marked new a ≡ is_marked old a

-- the first n segments have these bytes, and all other bytes are as before
pub record AreFilled (load_map : List MapEntry) (parts : List (List ℕ)) (n : ℕ) (old new : GuestMemory) : Type 0 where
  pub map : SameMap old new
  pub bytes : (k i : ℕ) (e : MapEntry) (part : List ℕ) → k < n → slice_get load_map k ≡ Some e → slice_get parts k ≡ Some part → i < e.memsz
      → byte_at new (e.addr + i) ≡ slice_index part i
  pub other_bytes : (a : ℕ) → IsOutside load_map n a → byte_at new a ≡ byte_at old a
