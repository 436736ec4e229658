-- What a linker leaves of a relocation: what stands in the file at its site, and which entry the loader finds there.
use Rattle.std.specs.Prelude.{◌≡◌, ◌≢◌, ℕ, ◌+◌, ◌%◌, ◌^◌, ◌<◌, ◌≤◌, Some, All, Contains, slice_get}
use Rattle.elf_model.specs.declared.constants.TheConstants.{R_ARM_RELATIVE, R_ARM_FUNCDESC_VALUE}
use Rattle.elf_model.specs.declared.object.Object.{Object}
use Rattle.elf_model.specs.declared.object.Rel.{Rel}
use Rattle.elf_model.specs.declared.object.Segment.{Segment}
use Rattle.elf_model.specs.Filled.{sites_of, plain_site}
use Rattle.elf_model.specs.Places.{file_byte, file_word, filled_ranges}
use Rattle.elf_model.specs.Relocations.{word_site}
use Rattle.elf_model.specs.Sound.{RangesApart}
use Rattle.link_sites.specs.Loaded.{HoldsWord}

-- a word that loading leaves as it is
pub record IsPlain (o : Object) (v w : ℕ) : Type 0 where
  pub word : HoldsWord (file_byte o.segments) v w
  pub apart : All (RangesApart (word_site v)) (filled_ranges o)

-- a word with a link address, to which loading gives the placed address: by R_ARM_RELATIVE, or as a fixup
pub record IsRelative (o : Object) (v w : ℕ) : Type 0 where
  pub rel : Rel
  pub listed : Contains (sites_of o) (plain_site rel)
  pub kind' : rel.kind ≡ R_ARM_RELATIVE
  pub site' : rel.site ≡ v
  pub word : file_word o.segments v ≡ w

-- a word that loading fills by a symbol of the object, with an addend; it is no slot's
pub record IsDynamic (o : Object) (v kind symbol w : ℕ) : Type 0 where
  pub rel : Rel
  pub listed : Contains (sites_of o) (plain_site rel)
  pub kind' : rel.kind ≡ kind
  pub site' : rel.site ≡ v
  pub symbol' : rel.symbol ≡ symbol
  pub some : symbol ≢ 0
  pub word : file_word o.segments v ≡ w

-- a segment has two link addresses: the first is held, the second may be the segment's end
pub record ShareSegment (o : Object) (v u : ℕ) : Type 0 where
  pub segment : Segment
  pub place : ℕ
  pub held : slice_get o.segments place ≡ Some segment
  pub from : segment.vaddr ≤ v
  pub below : v < segment.vaddr + segment.memsz
  pub from' : segment.vaddr ≤ u
  pub below' : u ≤ segment.vaddr + segment.memsz
  -- at the end, no other segment begins there
  pub ends : u ≡ segment.vaddr + segment.memsz → (k : ℕ) (s : Segment) → slice_get o.segments k ≡ Some s → s.vaddr ≢ u

-- The descriptor of the object's own function at a link address: the two words that R_ARM_FUNCDESC_VALUE on symbol 0 fills
-- in, and the only one of that function. All of the object's own descriptors are on symbol 0.
pub record HasDescriptor (o : Object) (v value : ℕ) : Type 0 where
  pub rel : Rel
  pub listed : Contains o.rels rel
  pub kind' : rel.kind ≡ R_ARM_FUNCDESC_VALUE
  pub symbol' : rel.symbol ≡ 0
  pub site' : rel.site ≡ v
  pub small : value < 2 ^ 32
  pub word : file_word o.segments v ≡ value
  pub one : (r : Rel) → Contains o.rels r → r.kind ≡ R_ARM_FUNCDESC_VALUE → (r.symbol ≡ 0) × (file_word o.segments r.site % 2 ^ 32 ≡ value → r.site ≡ v)
