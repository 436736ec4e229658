-- The entries of the PLT in an object's code, and the places of their calls of the resolver (Arm FDPIC ABI,
-- "Procedure Linkage Table").
use Rattle.std.specs.Prelude.{◌≡◌, ℕ, ◌+◌, ◌-◌, ◌*◌, ◌%◌, ◌<◌, Bool, true, ◌&&◌, ◌==◌, nat_le, List, ◌∷◌, position, All, AllPairs, Contains, Option, Some, None, option_and_then, if◌then◌else◌}
use Rattle.fd_base.specs.Sums.{minus}
use Rattle.elf_model.specs.declared.object.Object.{Object}
use Rattle.elf_model.specs.declared.object.Rel.{Rel}
use Rattle.elf_model.specs.declared.object.Segment.{Segment}
use Rattle.elf_model.specs.declared.table.Site.{Site}
use Rattle.elf_model.specs.Places.{file_word, filled_ranges, slot_of}
use Rattle.elf_model.specs.Sound.{RangesApart}
use Rattle.plt_code.specs.declared.listing.Entry.{Entry}
use Rattle.plt_code.specs.Words.{call_words, lazy_words}
use Rattle.plt_code.specs.Standing.{is_code_in, stand_at, is_near}

-- ---- entries

-- The entry of a slot stands at a link address. Its first five words count, which are the whole of a call: the call's
-- words, and the offset of the slot's site from the GOT.
pub record IsPltEntry (o : Object) (at slot : ℕ) : Type 0 where
  pub rel : Rel
  pub is_slot : slot_of o slot ≡ Some rel
  pub aligned : at % 4 ≡ 0
  pub code : is_code_in o.segments at 20 ≡ true
  pub words : stand_at o.segments at call_words ≡ true
  pub offset : file_word o.segments (at + 16) ≡ minus rel.site o.got
  -- so that the offset is the same where the segments are placed
  pub near : is_near o.segments rel.site o.got ≡ true

-- whether an entry at a link address is that of a slot: its fifth word is the slot's offset from the GOT
abbrev pub is_entry_of : Object → ℕ → Rel → Bool
is_entry_of o v r = minus r.site o.got == file_word o.segments (v + 16) && is_near o.segments r.site o.got

-- whether the words of a call stand in the code at a link address
unfoldable pub is_call : Object → ℕ → Bool
is_call o v = v % 4 == 0 && (is_code_in o.segments v 20 && stand_at o.segments v call_words)

-- the slot whose entry stands at a link address
abbrev pub slot_entered : Object → ℕ → Option ℕ
slot_entered o v = if is_call o v then position (is_entry_of o v) o.jmprels else None

-- these are the entries, each once, by rising address
pub record IsListing (o : Object) (entries : List Entry) : Type 0 where
  pub sound : All (λ e. IsPltEntry o e.at e.slot) entries
  pub complete : (at slot : ℕ) → IsPltEntry o at slot → Contains entries (record { at = at; slot = slot })
  pub rising : AllPairs (λ d e. d.at < e.at) entries

-- ---- the calls of the resolver

-- whether slot k's call of the resolver stands in the code from a link address on: the byte offset of the slot's
-- relocation, of 8 bytes each, and the call's words
abbrev pub is_lazy_from : List Segment → ℕ → ℕ → Bool
is_lazy_from ss k v = is_code_in ss v 20 && stand_at ss v (8 * k ∷ lazy_words)

-- whether slot k's call of the resolver has its first instruction at z
abbrev pub is_lazy : List Segment → ℕ → ℕ → Bool
is_lazy ss k z = z % 4 == 0 && (nat_le 4 z && is_lazy_from ss k (z - 4))

-- where the word at a site leads, as far as slot k's call of the resolver stands there
abbrev pub lazy_at : List Segment → ℕ → ℕ → Option ℕ
lazy_at ss k site = let z = file_word ss site in if is_lazy ss k z then Some z else None

-- where slot k leads at first, as far as its call of the resolver stands there
abbrev pub lazy_place : Object → ℕ → Option ℕ
lazy_place o k = option_and_then (λ r. lazy_at o.segments k r.site) (slot_of o k)

-- ---- clear entries

abbrev pub entry_range : ℕ → Site
entry_range at = record { addr = at; size = 20 }

abbrev pub lazy_range : ℕ → Site
lazy_range z = record { addr = z - 4; size = 20 }

-- nothing that loading fills meets the entry, nor its slot's call of the resolver
pub record IsClear (o : Object) (at slot : ℕ) : Type 0 where
  pub entry : All (RangesApart (entry_range at)) (filled_ranges o)
  pub lazy : (z : ℕ) → lazy_place o slot ≡ Some z → All (RangesApart (lazy_range z)) (filled_ranges o)
