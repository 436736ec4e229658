-- What loading makes of objects.
use Rattle.std.specs.Prelude.{◌≡◌, ℕ, ◌+◌, ◌-◌, ◌<◌, ◌≤◌, true, List, slice_get, slice_index, Option, Some, All, Contains}
use Rattle.std.specs.Int.{w32, to_le_bytes}
use Rattle.fd_base.specs.Fetched.{Files}
use Rattle.elf_model.specs.declared.object.Object.{Object}
use Rattle.guest_mem.specs.Memory.{byte_at, is_watched}
use Rattle.load_map.specs.declared.entry.MapEntry.{MapEntry}
use Rattle.load_map.specs.Maps.{map_at}
use Rattle.load_model.specs.declared.module.Joining.{Joining}
use Rattle.load_model.specs.Definition.{Linkage}
use Rattle.load_model.specs.Image.{Placing}
use Rattle.load_model.specs.Joined.{Asked}
use Rattle.load_model.specs.Linkage.{linkage_of}
use Rattle.load_model.specs.Process.{object_at}
use Rattle.load_process.specs.parts.TakenObjects.{IsTaken}
use Rattle.load_state.specs.declared.plan.GroupPlan.{GroupPlan}
use Rattle.load_state.specs.Accepted.{IsPlan, linkage_for, placing_by}
use Rattle.load_state.specs.Consistent.{IsConsistent}
use Rattle.load_state.specs.Loaded.{Loaded, placing_of}
use Rattle.link_sites.specs.Loaded.{IsModule, LoadedWord}

-- what a loader's modules are looked up in, and where they are placed
abbrev pub linkage_in : Loaded → Linkage
linkage_in l = linkage_of l.modules.process

abbrev pub placing_in : Loaded → Placing
placing_in l = placing_of l.modules.process l.modules.maps l.modules.addrs

-- each live module
abbrev pub LoadersHoldModules : Type 0
LoadersHoldModules =
    (l : Loaded) (m : ℕ) (o : Object) → IsConsistent l → object_at l.modules.process m ≡ Some o → IsModule (linkage_in l) (placing_in l) m o

-- each new module of a load that is accepted
abbrev pub PlansMakeModules : Type 0
PlansMakeModules =
    (l : Loaded) (files : Option Files) (root : List ℕ) (asked : Asked) (plan : GroupPlan) (j : Joining) → IsConsistent l
    → IsPlan l.modules files root asked plan → All (λ i. IsTaken i.object) plan.joining → Contains plan.joining j
    → IsModule (linkage_for l.modules plan.joining plan.scope) (placing_by l.modules.process l.modules.addrs plan.joining plan.maps plan.adopted plan.given)
    j.number j.object

-- each byte of a word that loading leaves in a segment of a module, while it is watched: until the program writes it
abbrev pub WordsStand : Type 0
WordsStand =
    (l : Loaded) (m : ℕ) (o : Object) (k : ℕ) (e : MapEntry) (v w : ℕ) → IsConsistent l → object_at l.modules.process m ≡ Some o
    → LoadedWord (linkage_in l) (placing_in l) m o v w
    → slice_get (map_at l.modules.maps m) k ≡ Some e → e.vaddr ≤ v → v + 4 ≤ e.vaddr + e.memsz
    → (i : ℕ) → i < 4 → is_watched l.memory (e.addr + (v - e.vaddr + i)) ≡ true
    → byte_at l.memory (e.addr + (v - e.vaddr + i)) ≡ slice_index (to_le_bytes w32 w) i
