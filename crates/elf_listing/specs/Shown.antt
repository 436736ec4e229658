-- show F: the listing of what the bytes of a file are, or why they are refused.
use Rattle.std.specs.Prelude.{ℕ, ◌+◌, Bool, ◌&&◌, ◌==◌, nat_le, List, length, Option, Some, None, Result, Ok, Err, if◌then◌else◌}
use Rattle.elf_model.specs.declared.constants.TheConstants.{E_TYPE, ET_REL}
use Rattle.elf_model.specs.declared.refusal.ElfRefusal.{ElfRefusal}
use Rattle.elf_model.specs.Header.{e_type}
use Rattle.elf_model.specs.Object.{refusal_of, object_of}
use Rattle.elf_model.specs.Relocatable.{relocatable_refusal_of, relocatable_of}
use Rattle.elf_listing.specs.Listing.{object_listing}
use Rattle.elf_listing.specs.RelListing.{relocatable_listing}

-- Whether the bytes are read as a relocatable file: there are enough of them to have a type, and the type is that.
abbrev pub is_relocatable : List ℕ → Bool
is_relocatable bytes = nat_le (E_TYPE + 2) (length bytes) && e_type bytes == ET_REL

abbrev pub listed_unless : Option ElfRefusal → List ℕ → Result (List ℕ) ElfRefusal
listed_unless None text = Ok text
listed_unless (Some r) text = Err r

unfoldable pub listed_object : List ℕ → Result (List ℕ) ElfRefusal
listed_object bytes = listed_unless (refusal_of bytes) (object_listing (object_of bytes))

unfoldable pub listed_relocatable : List ℕ → Result (List ℕ) ElfRefusal
listed_relocatable bytes = listed_unless (relocatable_refusal_of bytes) (relocatable_listing (relocatable_of bytes))

-- All other bytes are read as an object.
unfoldable pub listing_of : List ℕ → Result (List ℕ) ElfRefusal
listing_of bytes = if is_relocatable bytes then listed_relocatable bytes else listed_object bytes
