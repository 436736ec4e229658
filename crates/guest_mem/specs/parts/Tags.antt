-- The tags of words: what each says of the bytes of its word.
use Rattle.std.specs.Prelude.{◌≡◌, ◌⊎◌, ℕ, ◌+◌, ◌-◌, ◌*◌, ◌/◌, ◌%◌, ◌<◌, Bool, true, false, not, List, Option, Some, None, get_or}
use Rattle.guest_mem.specs.declared.kind.MemKind.{MemKind}
use Rattle.guest_mem.specs.declared.kind.MemKind.TheVariants as kind
use Rattle.guest_mem.specs.declared.search.Asked.{Asked}
use Rattle.guest_mem.specs.declared.search.Asked.TheVariants as asked
use Rattle.guest_mem.specs.declared.tags.WordTag.{WordTag}
use Rattle.guest_mem.specs.declared.tags.WordTag.TheVariants.{Mixed, Readable, Code, Plain}
use Rattle.guest_mem.specs.Memory.{GuestMemory, is_code_as, is_mapped_as, kind_at, is_marked}
use Rattle.guest_mem.specs.Ranges.{filled}

abbrev pub is_plain_as : Option MemKind → Bool → Bool
is_plain_as None mark = false
is_plain_as (Some kind.Code) mark = false
is_plain_as (Some kind.Data) mark = not mark
is_plain_as (Some kind.Fixed) mark = false

-- whether a tag is true of a byte
abbrev pub is_tagged_as : WordTag → Option MemKind → Bool → Bool
is_tagged_as Mixed kind mark = true
is_tagged_as Readable kind mark = is_mapped_as kind
is_tagged_as Code kind mark = is_code_as kind
is_tagged_as Plain kind mark = is_plain_as kind mark

abbrev pub tag_of : Option MemKind → WordTag
tag_of None = Mixed
tag_of (Some kind.Code) = Code
tag_of (Some kind.Data) = Plain
tag_of (Some kind.Fixed) = Readable

abbrev pub is_enough : WordTag → Asked → Bool
is_enough Mixed asked = false
is_enough Readable asked.Mapped = true
is_enough Readable asked.Code = false
is_enough Code asked = true
is_enough Plain asked.Mapped = true
is_enough Plain asked.Code = false

-- each tag is true of the four bytes of its word
abbrev pub AreTagged : List WordTag → List (Option MemKind) → List Bool → Type 0
AreTagged tags kinds marks = (w i : ℕ) → i < 4 → is_tagged_as (get_or tags w Mixed) (get_or kinds (4 * w + i) None) (get_or marks (4 * w + i) false) ≡ true

-- one tag for the words in a range of bytes, and none for those that reach over its ends
unfoldable pub retagged : List WordTag → ℕ → ℕ → WordTag → List WordTag
retagged tags start len tag = filled (filled tags (start / 4) ((start + len + 3) / 4 - start / 4) Mixed) ((start + 3) / 4) ((start + len) / 4 - (start + 3) / 4) tag

-- What a tag says of an access: it says nothing, or the access is aligned, and it is true of each byte.
pub record Knows (tag : WordTag) (width count : ℕ) (m : GuestMemory) (a : ℕ) : Type 0 where
  pub aligned : (tag ≡ Mixed) ⊎ (a % width ≡ 0)
  pub bytes : (i : ℕ) → i < count → is_tagged_as tag (kind_at m (a + i)) (is_marked m (a + i)) ≡ true
