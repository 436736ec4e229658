-- The link addresses of a linked object: the text from 0 on, with the PLT behind its sections; and in the data the GOT,
-- the sections and the common blocks. Addresses are whole numbers here, and may pass 32 bits.
use Rattle.std.specs.Prelude.{ℕ, ◌+◌, ◌*◌, ◌/◌, Bool, true, false, not, ◌==◌, ◌&&◌, nat_le, List, length, map, filter, position, unwrap_or, if◌then◌else◌}
use Rattle.elf_model.specs.declared.relocatable.RelObject.{RelObject}
use Rattle.link_layout.specs.declared.layout.Piece.{Piece}
use Rattle.link_layout.specs.Layout.{aligned, end_of, place_of}
use Rattle.link_model.specs.declared.input.Mode.{Mode}
use Rattle.link_model.specs.declared.limits.TheConstants.{SEGMENT_STEP, PLT_ENTRY_SIZE}
use Rattle.link_model.specs.declared.need.Need.{Need}
use Rattle.link_model.specs.declared.target.Key.{Key}
use Rattle.link_model.specs.declared.target.Spot.{Spot}
use Rattle.link_model.specs.declared.target.Spot.TheVariants.{Nowhere, Absolute, Section, Common}
use Rattle.link_model.specs.declared.target.Target.{Target}
use Rattle.link_model.specs.Needs.{all_needs, got_size, offset_of, slot_keys}
use Rattle.link_model.specs.Sections.{text_place, text_sections_end, filled_sections, data_sections, sections_end, place_among, is_text_section, is_in_text}
use Rattle.link_model.specs.Targets.{targets_of, is_block, is_same_key}

-- ---- the text

-- the first entry of the PLT
abbrev pub plt_place : List RelObject → ℕ
plt_place inputs = aligned 4 (text_sections_end inputs)

-- without an entry there is no PLT, and nothing to align
unfoldable pub text_end : Mode → List RelObject → ℕ
text_end mode inputs =
    if length (slot_keys mode inputs) == 0 then text_sections_end inputs
    else plt_place inputs + PLT_ENTRY_SIZE * length (slot_keys mode inputs)

-- the entry of the slot of this number
abbrev pub plt_entry : List RelObject → ℕ → ℕ
plt_entry inputs k = plt_place inputs + PLT_ENTRY_SIZE * k

-- the entry of a symbol
abbrev pub plt_entry_of : Mode → List RelObject → Key → ℕ
plt_entry_of mode inputs key = plt_entry inputs (unwrap_or (position (is_same_key key) (slot_keys mode inputs)) 0)

-- ---- the data

-- the GOT stands at its begin, the first multiple of the step above the text
unfoldable pub data_place : Mode → List RelObject → ℕ
data_place mode inputs = (text_end mode inputs / SEGMENT_STEP + 1) * SEGMENT_STEP

abbrev pub got_end : Mode → List RelObject → ℕ
got_end mode inputs = data_place mode inputs + got_size (all_needs mode inputs)

-- where a need stands
abbrev pub need_place : Mode → List RelObject → Need → ℕ
need_place mode inputs need = data_place mode inputs + offset_of (all_needs mode inputs) need

-- where those sections end that the file has bytes of, and where the zeros behind them end
abbrev pub filled_end : Mode → List RelObject → ℕ
filled_end mode inputs = sections_end (got_end mode inputs) (filled_sections inputs)

abbrev pub zeros_end : Mode → List RelObject → ℕ
zeros_end mode inputs = sections_end (got_end mode inputs) (data_sections inputs)

-- the link address of a section
unfoldable pub section_place : Mode → List RelObject → ℕ → ℕ
section_place mode inputs k = if is_text_section inputs k then text_place inputs k else place_among (got_end mode inputs) (data_sections inputs) k

-- ---- common blocks, by first appearance of their names

abbrev pub blocks_of : Mode → List RelObject → List Target
blocks_of mode inputs = filter (λ t. is_block t.spot) (targets_of mode inputs)

abbrev pub block_piece : Target → Piece
block_piece t = record { align = t.align; size = t.size }

abbrev pub is_block_of : ℕ → Spot → Bool
is_block_of k (Common n) = n == k
is_block_of k spot = false

abbrev pub block_place : Mode → List RelObject → ℕ → ℕ
block_place mode inputs k = place_of block_piece (λ t. is_block_of k t.spot) (zeros_end mode inputs) (blocks_of mode inputs)

unfoldable pub data_end : Mode → List RelObject → ℕ
data_end mode inputs = end_of (zeros_end mode inputs) (map block_piece (blocks_of mode inputs))

-- ---- definitions

-- S: the link address of a definition, or the number that it is
abbrev pub address_of : Mode → List RelObject → Spot → ℕ
address_of mode inputs Nowhere = 0
address_of mode inputs (Absolute v) = v
address_of mode inputs (Section k offset) = section_place mode inputs k + offset
address_of mode inputs (Common k) = block_place mode inputs k

-- whether a symbol is defined in a section of the data, or is a common block
abbrev pub is_in_data : List RelObject → Spot → Bool
is_in_data inputs (Section k offset) = not (is_text_section inputs k)
is_in_data inputs (Common k) = true
is_in_data inputs spot = false

-- whether it lies in its segment too, or at its end
abbrev pub is_within_text : Mode → List RelObject → Spot → Bool
is_within_text mode inputs spot = is_in_text inputs spot && nat_le (address_of mode inputs spot) (text_end mode inputs)

abbrev pub is_within_data : Mode → List RelObject → Spot → Bool
is_within_data mode inputs spot = is_in_data inputs spot && nat_le (address_of mode inputs spot) (data_end mode inputs)
