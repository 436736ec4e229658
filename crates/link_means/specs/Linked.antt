-- What it means that an object is linked from these inputs: it is the object of the definitions, and loading makes each
-- relocation mean what its kind says.
use Rattle.std.specs.Prelude.{◌≡◌, ◌≢◌, ℕ, ◌+◌, ◌<◌, true, Bool, ◌==◌, List, get_or, None, filter, Contains, All, AllPairs}
use Rattle.elf_model.specs.declared.constants.TheConstants.{R_ARM_FUNCDESC_VALUE}
use Rattle.elf_model.specs.declared.object.Object.{Object}
use Rattle.elf_model.specs.declared.object.Rel.{Rel}
use Rattle.elf_model.specs.declared.relocatable.RelObject.{RelObject}
use Rattle.elf_model.specs.declared.relocatable.RelSection.{RelSection}
use Rattle.elf_model.specs.Places.{file_word}
use Rattle.elf_model.specs.RelSound.{IsRelSound}
use Rattle.elf_model.specs.Test.{first_failing}
use Rattle.elf_write.specs.TableSegment.{with_tables}
use Rattle.load_map.specs.Translation.{placed}
use Rattle.load_model.specs.Definition.{Linkage}
use Rattle.load_model.specs.Image.{Placing, got_of}
use Rattle.link_model.specs.declared.input.Lib.{Lib}
use Rattle.link_model.specs.declared.input.Mode.{Mode}
use Rattle.link_model.specs.declared.need.Need.TheVariants.{Descriptor}
use Rattle.link_model.specs.Inputs.{InputRel, all_rels}
use Rattle.link_model.specs.Needs.{all_needs}
use Rattle.link_model.specs.Object.{object_of}
use Rattle.link_model.specs.Places.{need_place}
use Rattle.link_model.specs.Refusals.{tests}
use Rattle.link_model.specs.Targets.{is_static}
use Rattle.link_writes.specs.Linked.{written_sizes}
use Rattle.link_sites.specs.Loaded.{IsModule, LoadedWord}
use Rattle.link_means.specs.Means.{Means}

-- a static object fills its own descriptors: the placed address of the function, and that of the GOT
abbrev pub DescriptorsStand : Mode → List RelObject → Linkage → Placing → ℕ → Object → Type 0
DescriptorsStand mode inputs l p m o =
    (a : ℕ) → Contains (all_needs mode inputs) (Descriptor a) → is_static mode ≡ true
    → LoadedWord l p m o (need_place mode inputs (Descriptor a)) (placed (p.maps m) a)
    × LoadedWord l p m o (need_place mode inputs (Descriptor a) + 4) (got_of p m)

-- bytes are numbers below 256
abbrev pub HasBytes : RelSection → Type 0
HasBytes s = (k : ℕ) → get_or s.filled k 0 < 256

abbrev pub IsOfBytes : RelObject → Type 0
IsOfBytes o = All HasBytes o.sections

abbrev pub is_pair : Rel → Bool
is_pair r = r.kind == R_ARM_FUNCDESC_VALUE

-- The file has a segment more, of the object's tables, which is loaded too.
pub record IsLinked (mode : Mode) (soname : List ℕ) (inputs : List RelObject) (libs : List Lib) (o : Object) : Type 0 where
  pub layout : o ≡ object_of mode soname inputs libs
  pub sites : (l : Linkage) (p : Placing) (m : ℕ) (x : InputRel) → IsModule l p m (with_tables o) → Contains (all_rels inputs) x
      → Means mode inputs l p m (with_tables o) x
  pub static : (l : Linkage) (p : Placing) (m : ℕ) → IsModule l p m (with_tables o) → DescriptorsStand mode inputs l p m (with_tables o)
  -- a function has one descriptor
  pub one_descriptor : AllPairs (λ r q. file_word o.segments r.site ≢ file_word o.segments q.site) (filter is_pair o.rels)

-- the law: of accepted files whose bytes are bytes
abbrev pub LinkedMeans : Type 0
LinkedMeans =
    (mode : Mode) (soname : List ℕ) (inputs : List RelObject) (libs : List Lib) → All IsRelSound inputs → All IsOfBytes inputs
    → first_failing (tests written_sizes mode soname inputs libs) ≡ None → IsLinked mode soname inputs libs (object_of mode soname inputs libs)
