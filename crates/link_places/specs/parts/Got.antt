-- Where needs stand in the GOT.
use Rattle.std.specs.Prelude.{◌≡◌, ℕ, ◌+◌, Bool, List, map, slice_get, Some}
use Rattle.link_model.specs.declared.need.Need.{Need}
use Rattle.link_model.specs.declared.need.UseKind.{UseKind}
use Rattle.link_model.specs.declared.need.UseKind.TheVariants.{Word, FuncWord, Descriptor, Slot}
use Rattle.link_model.specs.GotLayout.{is_word, is_descriptor, offset_behind}
use Rattle.link_model.specs.Needs.{kind_of}
use Rattle.link_places.specs.declared.got.Next.{Next}

abbrev pub kinds_of : List Need → List UseKind
kinds_of needs = map kind_of needs

abbrev pub is_word_need : Need → Bool
is_word_need need = is_word (kind_of need)

abbrev pub is_descriptor_need : Need → Bool
is_descriptor_need need = is_descriptor (kind_of need)

-- each need's offset, in their order
pub record AreOffsets (needs : List Need) (offsets : List ℕ) : Type 0 where
  pub each : (i : ℕ) (need : Need) → slice_get needs i ≡ Some need → slice_get offsets i ≡ Some (offset_behind (kinds_of needs) i (kind_of need))

-- ---- the next of each kind

abbrev pub place_for : UseKind → Next → ℕ
place_for Word next = next.word
place_for FuncWord next = next.word
place_for Descriptor next = next.descriptor
place_for Slot next = next.slot

abbrev pub next_after : UseKind → Next → Next
next_after Word next = record next { word = next.word + 4 }
next_after FuncWord next = record next { word = next.word + 4 }
next_after Descriptor next = record next { descriptor = next.descriptor + 8 }
next_after Slot next = record next { slot = next.slot + 8 }

-- behind the first i of all
abbrev pub next_behind : List UseKind → ℕ → Next
next_behind uses i = record { word = offset_behind uses i Word; descriptor = offset_behind uses i Descriptor; slot = offset_behind uses i Slot }
