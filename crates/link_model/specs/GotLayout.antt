-- The layout of a GOT (Arm FDPIC ABI, "Global Offset Table"): its header of three words, words with addresses,
-- descriptors of functions, and the slots of the PLT. Uses stand in a list, each once, by first appearance.
use Rattle.std.specs.Prelude.{ℕ, ◌+◌, ◌*◌, Bool, true, false, List, take, count_by}
use Rattle.elf_model.specs.declared.constants.TheConstants.{GOT_HEADER_SIZE}
use Rattle.link_model.specs.declared.need.UseKind.{UseKind}
use Rattle.link_model.specs.declared.need.UseKind.TheVariants.{Word, FuncWord, Descriptor, Slot}

-- ---- the three parts

abbrev pub is_word : UseKind → Bool
is_word Word = true
is_word FuncWord = true
is_word kind = false

abbrev pub is_descriptor : UseKind → Bool
is_descriptor Descriptor = true
is_descriptor kind = false

abbrev pub is_slot : UseKind → Bool
is_slot Slot = true
is_slot kind = false

-- the size of one, in bytes
abbrev pub use_size : UseKind → ℕ
use_size Word = 4
use_size FuncWord = 4
use_size Descriptor = 8
use_size Slot = 8

-- ---- offsets from the GOT

-- the words stand behind the header, the descriptors behind these, and the slots last
abbrev pub descriptors_start : List UseKind → ℕ
descriptors_start uses = GOT_HEADER_SIZE + 4 * count_by is_word uses

abbrev pub slots_start : List UseKind → ℕ
slots_start uses = descriptors_start uses + 8 * count_by is_descriptor uses

abbrev pub got_size : List UseKind → ℕ
got_size uses = slots_start uses + 8 * count_by is_slot uses

-- where a use of a kind begins that stands behind the first n of all
abbrev pub offset_behind : List UseKind → ℕ → UseKind → ℕ
offset_behind uses n Word = GOT_HEADER_SIZE + 4 * count_by is_word (take n uses)
offset_behind uses n FuncWord = GOT_HEADER_SIZE + 4 * count_by is_word (take n uses)
offset_behind uses n Descriptor = descriptors_start uses + 8 * count_by is_descriptor (take n uses)
offset_behind uses n Slot = slots_start uses + 8 * count_by is_slot (take n uses)
