-- What is written of an object is read back, with the segment of its tables as one segment more.
use Rattle.std.specs.Prelude.{ℕ, ◌^◌, ◌<◌, ◌≤◌, length, All, IfSome}
use Rattle.elf_model.specs.declared.object.Extent.{Extent}
use Rattle.elf_model.specs.declared.object.Object.{Object}
use Rattle.elf_model.specs.Object.{IsObject}
use Rattle.elf_write.specs.declared.limits.TheConstants.{MAX_FILE_BYTES}
use Rattle.elf_write.specs.TableSegment.{with_tables}
use Rattle.elf_write.specs.ObjectFile.{object_file}
use Rattle.elf_write.specs.WritableObject.{IsWritableObject}

abbrev pub IsWord : ℕ → Type 0
IsWord n = n < 2 ^ 32

abbrev pub IsExtentFit : Extent → Type 0
IsExtentFit e = IsWord e.addr × IsWord e.size

-- Each number fits its field of the file. It does in every value of a program: here numbers have no width.
pub record FitsObjectFields (o : Object) : Type 0 where
  pub entry : IsWord o.entry
  pub got : IsWord o.got
  pub flags : All (λ s. IsWord s.flags) o.segments
  pub values : All (λ s. IsWord s.value) o.symbols
  pub sizes : All (λ s. IsWord s.size) o.symbols
  pub sites : All (λ r. IsWord r.site) o.rels
  pub slot_sites : All (λ r. IsWord r.site) o.jmprels
  pub fixups : IfSome o.fixups (All IsWord)
  pub init : IfSome (o.inits).init IsWord
  pub fini : IfSome (o.inits).fini IsWord
  pub starts : IfSome (o.inits).init_array IsExtentFit
  pub ends : IfSome (o.inits).fini_array IsExtentFit

-- the law, of files that are not too long to be written
abbrev pub WrittenObjectIsRead : Type 0
WrittenObjectIsRead = (o : Object) → IsWritableObject o → FitsObjectFields o → length (object_file o) ≤ MAX_FILE_BYTES → IsObject (object_file o) (with_tables o)
