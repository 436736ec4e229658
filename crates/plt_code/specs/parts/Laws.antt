-- What holds of entries and of calls of the resolver.
use Rattle.std.specs.Prelude.{◌≡◌, ℕ, ◌+◌, ◌-◌, ◌*◌, ◌%◌, ◌^◌, ◌<◌, ◌≤◌, true, List, length, Some, slice_get}
use Rattle.elf_model.specs.declared.object.Object.{Object}
use Rattle.elf_model.specs.declared.object.Rel.{Rel}
use Rattle.elf_model.specs.declared.object.Segment.{Segment}
use Rattle.elf_model.specs.Places.{file_word, is_executable_in, spans, slot_of}
use Rattle.elf_model.specs.Sound.{IsSound}
use Rattle.plt_code.specs.declared.listing.Entry.{Entry}
use Rattle.plt_code.specs.Words.{entry_words}
use Rattle.plt_code.specs.Standing.{is_code_in, stand_at, is_near}
use Rattle.fd_base.specs.Sums.{minus}
use Rattle.plt_code.specs.Entries.{IsPltEntry, IsListing, lazy_place, slot_entered}

-- a segment of the list has the file's bytes of a range
pub record HasFileBytes (ss : List Segment) (v n : ℕ) : Type 0 where
  pub place : ℕ
  pub segment : Segment
  pub held : slice_get ss place ≡ Some segment
  pub begin : segment.vaddr ≤ v
  pub end : v + n ≤ segment.vaddr + length segment.filled
  pub small : v + n < 2 ^ 32
  pub executable : (i : ℕ) → i < n → is_executable_in ss (v + i) ≡ true

-- a segment of the list has the memory of the two words at a site and of the header of the GOT
pub record HasBoth (ss : List Segment) (site got : ℕ) : Type 0 where
  pub place : ℕ
  pub segment : Segment
  pub held : slice_get ss place ≡ Some segment
  pub has_site : spans segment site 8 ≡ true
  pub has_got : spans segment got 12 ≡ true

-- ---- the words

-- the five words of a call
pub record CallStands (o : Object) (at site : ℕ) : Type 0 where
  pub first : file_word o.segments at ≡ 0xe59f_c008
  pub second : file_word o.segments (at + 4) ≡ 0xe08c_c009
  pub third : file_word o.segments (at + 8) ≡ 0xe59c_9004
  pub fourth : file_word o.segments (at + 12) ≡ 0xe59c_f000
  pub offset : file_word o.segments (at + 16) ≡ minus site o.got

-- the five words of a call of the resolver
pub record LazyStands (o : Object) (k z : ℕ) : Type 0 where
  pub offset : file_word o.segments (z - 4) ≡ 8 * k
  pub first : file_word o.segments z ≡ 0xe51f_c00c
  pub second : file_word o.segments (z + 4) ≡ 0xe92d_1000
  pub third : file_word o.segments (z + 8) ≡ 0xe599_c004
  pub fourth : file_word o.segments (z + 12) ≡ 0xe599_f000

-- The ten words of a slot's entry stand in the code, and the slot leads to the seventh of them.
pub record IsWholeEntry (o : Object) (at slot : ℕ) : Type 0 where
  pub rel : Rel
  pub is_slot : slot_of o slot ≡ Some rel
  pub aligned : at % 4 ≡ 0
  pub code : is_code_in o.segments at 40 ≡ true
  pub words : stand_at o.segments at (entry_words (minus rel.site o.got) (8 * slot)) ≡ true
  pub near : is_near o.segments rel.site o.got ≡ true
  pub leads : file_word o.segments rel.site ≡ at + 24

-- ---- the laws

pub record EntriesStand : Type 0 where
  pub slots : (o : Object) (at slot : ℕ) → IsPltEntry o at slot → slot < length o.jmprels
  pub words : (o : Object) (at slot : ℕ) (r : Rel) → IsPltEntry o at slot → slot_of o slot ≡ Some r → CallStands o at r.site
  pub bytes : (o : Object) (at slot : ℕ) → IsSound o → IsPltEntry o at slot → HasFileBytes o.segments at 20
  pub near : (o : Object) (at slot : ℕ) (r : Rel) → IsPltEntry o at slot → slot_of o slot ≡ Some r → HasBoth o.segments r.site o.got

-- the entry of a slot stands where the slot is entered
abbrev pub SlotsEntered : Type 0
SlotsEntered = (o : Object) (v slot : ℕ) → slot_entered o v ≡ Some slot → IsPltEntry o v slot

-- an address has at most one entry
abbrev pub OneSlot : Type 0
OneSlot = (o : Object) (at j k : ℕ) → IsSound o → IsPltEntry o at j → IsPltEntry o at k → j ≡ k

-- the entries have one list
abbrev pub OneListing : Type 0
OneListing = (o : Object) (xs ys : List Entry) → IsListing o xs → IsListing o ys → xs ≡ ys

pub record LazyCallsStand : Type 0 where
  pub slots : (o : Object) (k z : ℕ) → lazy_place o k ≡ Some z → k < length o.jmprels
  pub site : (o : Object) (k z : ℕ) (r : Rel) → lazy_place o k ≡ Some z → slot_of o k ≡ Some r → file_word o.segments r.site ≡ z
  pub aligned : (o : Object) (k z : ℕ) → lazy_place o k ≡ Some z → (z % 4 ≡ 0) × (4 ≤ z)
  pub words : (o : Object) (k z : ℕ) → lazy_place o k ≡ Some z → LazyStands o k z
  pub bytes : (o : Object) (k z : ℕ) → IsSound o → lazy_place o k ≡ Some z → HasFileBytes o.segments (z - 4) 20

-- an entry with all its words is found, and its call of the resolver too
pub record WholeEntriesAreFound : Type 0 where
  pub entry : (o : Object) (at slot : ℕ) → IsWholeEntry o at slot → IsPltEntry o at slot
  pub lazy : (o : Object) (at slot : ℕ) → IsWholeEntry o at slot → lazy_place o slot ≡ Some (at + 24)
