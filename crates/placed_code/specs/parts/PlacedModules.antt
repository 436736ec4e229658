-- What holds of the modules of a process and of their load maps.
use Rattle.std.specs.Prelude.{◌≡◌, ℕ, ◌≤◌, List, Some, All, length}
use Rattle.load_map.specs.declared.entry.MapEntry.{MapEntry}
use Rattle.elf_model.specs.declared.object.Object.{Object}
use Rattle.elf_model.specs.Sound.{IsSound}
use Rattle.load_map.specs.parts.IsLoadMap.{EndsInside}
use Rattle.symbol_scope.specs.declared.tables.TheConstants.{MAX_MODULES}
use Rattle.load_model.specs.declared.module.SymbolicProcess.{SymbolicProcess}
use Rattle.load_model.specs.Process.{object_at}
use Rattle.load_map.specs.Maps.{map_at}

-- each object is one that the reader accepts, and each segment ends at an address where it is linked and where it is placed
pub record ArePlaced (p : SymbolicProcess) (maps : List (List MapEntry)) : Type 0 where
  pub few : length p.modules ≤ MAX_MODULES
  pub sound : (m : ℕ) (o : Object) → object_at p m ≡ Some o → IsSound o
  pub ends : (m : ℕ) → All EndsInside (map_at maps m)
