-- Ranges that are watched: the header of the GOT and the descriptors of a module (Arm FDPIC ABI, "Function
-- Descriptors"). Stores can't change Code, so a range of a writable segment that is executable needs no mark.
use Rattle.std.specs.Prelude.{◌≡◌, ◌≢◌, ℕ, ◌+◌, ◌≤◌, true, false, ◌==◌, List, length, map, filter, Some, Contains, if◌then◌else◌}
use Rattle.load_map.specs.declared.entry.MapEntry.{MapEntry}
use Rattle.load_map.specs.Translation.{placed}
use Rattle.elf_model.specs.declared.constants.TheConstants.{R_ARM_FUNCDESC_VALUE}
use Rattle.elf_model.specs.declared.object.Rel.{Rel}
use Rattle.elf_model.specs.declared.object.Segment.{Segment}
use Rattle.elf_model.specs.Places.{is_executable_in}
use Rattle.guest_mem.specs.declared.kind.MemKind.TheVariants.{Code, Data}
use Rattle.guest_mem.specs.Memory.{GuestMemory, HaveKind, kind_at, is_marked, is_watched}
use Rattle.load_model.specs.declared.plan.TheConstants.{DESCRIPTOR_SIZE}
use Rattle.fd_base.specs.Ranges.{is_in}

-- the placed descriptors that relocations fill
abbrev pub pair_ranges : List MapEntry → List Rel → List (ℕ × ℕ)
pair_ranges load_map rels = map (λ r. (placed load_map r.site, DESCRIPTOR_SIZE)) (filter (λ r. r.kind == R_ARM_FUNCDESC_VALUE) rels)

-- len bytes at a link address that a segment holds, whose placed bytes are mapped as a writable segment is
pub record IsWatchable (segments : List Segment) (load_map : List MapEntry) (memory : GuestMemory) (v len : ℕ) : Type 0 where
  pub inside : placed load_map v + len ≤ length memory.bytes
  pub kinds : HaveKind memory (placed load_map v) len (Some (if is_executable_in segments v then Code else Data))

-- Each byte of these ranges is watched, besides what was watched before, and nothing else changed. Only Data is marked for it.
pub record AreWatched (ranges : List (ℕ × ℕ)) (old new : GuestMemory) : Type 0 where
  pub bytes : new.bytes ≡ old.bytes
  pub kinds : new.kinds ≡ old.kinds
  pub watched : (start len a : ℕ) → Contains ranges (start, len) → is_in start len a ≡ true → is_watched new a ≡ true
  pub kept : (a : ℕ) → is_watched old a ≡ true → is_watched new a ≡ true
  pub others : (a : ℕ) → ((start len : ℕ) → Contains ranges (start, len) → is_in start len a ≡ false) → is_watched new a ≡ is_watched old a
  pub unmarked : (a : ℕ) → kind_at old a ≢ Some Data → is_marked new a ≡ is_marked old a
