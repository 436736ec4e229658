-- What is written of a relocatable file is read back.
use Rattle.std.specs.Prelude.{◌^◌, ◌<◌, ◌≤◌, length, All}
use Rattle.elf_model.specs.declared.relocatable.RelObject.{RelObject}
use Rattle.elf_model.specs.Relocatable.{IsRelocatable}
use Rattle.elf_write.specs.declared.limits.TheConstants.{MAX_FILE_BYTES}
use Rattle.elf_write.specs.RelFile.{rel_file}
use Rattle.elf_write.specs.WritableRel.{IsWritableRel}

-- Each number fits its field of the file. It does in every value of a program: here numbers have no width.
pub record FitsFields (r : RelObject) : Type 0 where
  pub flags : All (λ s. s.flags < 2 ^ 32) r.sections
  pub kinds : All (λ s. All (λ rel. rel.kind < 2 ^ 8) s.rels) r.sections
  pub values : All (λ s. s.value < 2 ^ 32) r.symbols
  pub sizes : All (λ s. s.size < 2 ^ 32) r.symbols

-- the law, of files that are not too long to be written
abbrev pub WrittenIsRead : Type 0
WrittenIsRead = (r : RelObject) → IsWritableRel r → FitsFields r → length (rel_file r) ≤ MAX_FILE_BYTES → IsRelocatable (rel_file r) r
