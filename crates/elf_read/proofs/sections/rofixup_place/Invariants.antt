use Rattle.std.proofs.Common.{◌≡◌, ℕ, ◌<◌, false}
use Rattle.std.specs.Prelude.{codes}
use Rattle.elf_model.specs.Sections as spec
use Rattle.elf_read.proofs.sections.rofixup_place.Given as goal

abbrev pub invariant-loop-i : goal.invariant-loop-i
invariant-loop-i l = (k : ℕ) → k < l.i → spec.is_named (spec.section_names l.bytes) (codes ".rofixup") (spec.section_header l.bytes k) ≡ false
