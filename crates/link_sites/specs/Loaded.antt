-- An object that is loaded as a module of a process, whatever else is loaded, and wherever its segments lie.
use Rattle.std.specs.Prelude.{◌≡◌, ℕ, ◌+◌, ◌<◌, Bool, List, [], slice_index, Some}
use Rattle.std.specs.Int.{w32, to_le_bytes}
use Rattle.std.specs.List.{AllZip}
use Rattle.load_map.specs.declared.entry.MapEntry.{MapEntry}
use Rattle.load_map.specs.Translation.{placed}
use Rattle.elf_model.specs.declared.func.Func.{Func}
use Rattle.elf_model.specs.declared.object.Object.{Object}
use Rattle.elf_model.specs.declared.object.Segment.{Segment}
use Rattle.elf_model.specs.Sound.{IsSound}
use Rattle.load_model.specs.Definition.{Linkage}
use Rattle.load_model.specs.Descriptors.{privates_of, listed_addr}
use Rattle.load_model.specs.Image.{Placing, image_of}
use Rattle.load_model.specs.Sites.{refusals_of}

-- an entry of a load map places this segment somewhere
abbrev pub IsPlacedAs : Segment → MapEntry → Type 0
IsPlacedAs s e = (e.vaddr ≡ s.vaddr) × (e.memsz ≡ s.memsz)

-- Module m is this object, which the reader accepts. Each of its sites can be filled, and each of its segments is placed.
-- A function of which it has private descriptors is known by the first of them.
pub record IsModule (l : Linkage) (p : Placing) (m : ℕ) (o : Object) : Type 0 where
  pub sound : IsSound o
  pub live : l.objects m ≡ Some o
  pub filled : refusals_of l m o ≡ []
  pub mapped : AllZip IsPlacedAs o.segments (p.maps m)
  pub got' : p.gots m ≡ Some o.got
  pub own : (f : Func) (site : ℕ) → listed_addr (privates_of l (m, o)) f ≡ Some site → p.descriptors f ≡ Some (placed (p.maps m) site)

-- these bytes have a word at a link address, from its lowest byte on
abbrev pub HoldsWord : (ℕ → ℕ) → ℕ → ℕ → Type 0
HoldsWord byte_at v w = (i : ℕ) → i < 4 → byte_at (v + i) ≡ slice_index (to_le_bytes w32 w) i

-- the word that stands at a link address of module m after loading, whichever of its slots are unbound
abbrev pub LoadedWord : Linkage → Placing → ℕ → Object → ℕ → ℕ → Type 0
LoadedWord l p m o v w = (unbound : List Bool) → HoldsWord (image_of l p m o unbound) v w
