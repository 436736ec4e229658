-- New modules that can be placed: each segment has a range of free memory above the load maps, apart from all others.
use Rattle.std.specs.Prelude.{◌≡◌, ℕ, ◌<◌, ◌≤◌, List, length, None, All, AllPairs}
use Rattle.std.specs.List.{AllZip}
use Rattle.load_map.specs.declared.entry.MapEntry.{MapEntry}
use Rattle.elf_model.specs.Sound.{IsSound}
use Rattle.guest_mem.specs.Memory.{GuestMemory, HaveKind}
use Rattle.load_map.specs.Whole.{PlacedApart}
use Rattle.load_memory.specs.parts.PlacingSteps.{IsPlacedBy, LiesWithin}
use Rattle.load_model.specs.Image.{load_map_at}
use Rattle.load_model.specs.declared.module.Joining.{Joining}
use Rattle.load_laws.specs.parts.Premises.{HaveOwnNumbers}
use Rattle.load_map.specs.Maps.{map_at}
use Rattle.symbol_scope.specs.declared.tables.TheConstants.{MAX_MODULES}

-- one of them, with the bytes of its segments
pub record IsPlaceable (memory : GuestMemory) (maps : List (List MapEntry)) (j : Joining) (parts : List (List ℕ)) : Type 0 where
  pub number' : j.number < MAX_MODULES
  pub sound : IsSound j.object
  pub segments : AllZip IsPlacedBy j.object.segments (map_at maps j.number)
  pub inside : All (LiesWithin (load_map_at MAX_MODULES) (length memory.bytes)) (map_at maps j.number)
  pub free : All (λ e. HaveKind memory e.addr e.memsz None) (map_at maps j.number)
  pub apart : AllPairs PlacedApart (map_at maps j.number)
  pub sizes : AllZip (λ e part. length part ≡ e.memsz) (map_at maps j.number) parts

-- the segments of two modules share no address
abbrev pub ModulesApart : List (List MapEntry) → Joining → Joining → Type 0
ModulesApart maps i j = All (λ d. All (PlacedApart d) (map_at maps j.number)) (map_at maps i.number)

pub record ArePlaceable (memory : GuestMemory) (joining : List Joining) (maps : List (List MapEntry)) (parts : List (List (List ℕ))) : Type 0 where
  pub tables : load_map_at MAX_MODULES ≤ length memory.bytes
  pub each : AllZip (IsPlaceable memory maps) joining parts
  pub numbers : HaveOwnNumbers joining
  pub apart : AllPairs (ModulesApart maps) joining
