-- What the image of a module stands on: over every change that leaves this, the image stands.
use Rattle.std.specs.Prelude.{◌≡◌, ℕ, ◌+◌, ◌<◌, true, slice_get, Some, Ok, Contains}
use Rattle.std.specs.FinMap.{get}
use Rattle.load_map.specs.declared.entry.MapEntry.{MapEntry}
use Rattle.load_map.specs.Maps.{map_at}
use Rattle.elf_model.specs.declared.func.Func.{Func}
use Rattle.elf_model.specs.declared.object.Object.{Object}
use Rattle.elf_model.specs.declared.object.Rel.{Rel}
use Rattle.elf_model.specs.Filled.{site_relocations}
use Rattle.guest_mem.specs.Memory.{is_watched}
use Rattle.load_model.specs.declared.meaning.SiteValue.TheVariants.{Descriptor}
use Rattle.load_model.specs.Linkage.{linkage_of}
use Rattle.load_model.specs.Process.{object_at}
use Rattle.load_model.specs.Sites.{site_value}
use Rattle.load_model.specs.Unbound.{unbound_of}
use Rattle.load_sites.specs.parts.Laws.{AgreeFor, IsNear}
use Rattle.load_state.specs.Committed.{IsSameAt}
use Rattle.load_state.specs.Consistent.{HoldsImage}
use Rattle.load_state.specs.Loaded.{Loaded}

-- Module m has the scope that it had and the same slots unbound; it and the modules of its scope are the objects that they
-- were and lie where they lay; the functions whose descriptors it refers to have the same; and its watched bytes are as
-- they were.
pub record IsFramed (old new : Loaded) (m : ℕ) (o : Object) : Type 0 where
  pub live : object_at old.modules.process m ≡ Some o
  pub agree : AgreeFor (linkage_of old.modules.process) (linkage_of new.modules.process) m
  pub places : (n : ℕ) → IsNear (linkage_of old.modules.process) m n → map_at new.modules.maps n ≡ map_at old.modules.maps n
  pub descriptors : (r : Rel) (f : Func) → Contains (site_relocations o) r → site_value (linkage_of old.modules.process) m o r ≡ Ok (Descriptor (Some f))
      → get new.modules.addrs f ≡ get old.modules.addrs f
  pub flags : unbound_of new.modules.process m ≡ unbound_of old.modules.process m
  pub bytes : (k : ℕ) (e : MapEntry) → slice_get (map_at new.modules.maps m) k ≡ Some e → (i : ℕ) → i < e.memsz
      → is_watched new.memory (e.addr + i) ≡ true → IsSameAt old.memory new.memory (e.addr + i)

-- the law
abbrev pub ImagesStand : Type 0
ImagesStand = (old new : Loaded) (m : ℕ) (o : Object) → IsFramed old new m o → HoldsImage old m o → HoldsImage new m o
