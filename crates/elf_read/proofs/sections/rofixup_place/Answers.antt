use Rattle.std.proofs.Common.{◌≡◌, sym, true, arith}
use Rattle.std.proofs.lemmas.Grind.{common_steps}
use Rattle.std.specs.Prelude.{codes}
use Rattle.elf_model.specs.Header.{e_shnum}
use Rattle.elf_model.specs.Sections as spec
use Rattle.elf_model.specs.Sections.{rofixup_place}
use Rattle.elf_read.proofs.Places.{place_is, no_place}
use Rattle.elf_read.proofs.sections.rofixup_place.Goals as goal

pub returns-then-is_named-clause-place : goal.returns-then-is_named-clause-place
unfolding rofixup_place
returns-then-is_named-clause-place c =
    let here : spec.is_named (spec.section_names c.args.bytes.now) (codes ".rofixup") (spec.section_header c.args.bytes.now c.loop-i.i) ≡ true = grind (arith, common_steps) in
    sym (place_is (spec.is_named (spec.section_names c.args.bytes.now) (codes ".rofixup")) (spec.section_header c.args.bytes.now) (e_shnum c.args.bytes.now) c.loop-i.i (omega arith) c.loop-i.invariant here)

pub returns-clause-place : goal.returns-clause-place
unfolding rofixup_place
returns-clause-place c =
    sym (no_place (spec.is_named (spec.section_names c.args.bytes.now) (codes ".rofixup")) (spec.section_header c.args.bytes.now) (e_shnum c.args.bytes.now) (λ k h. c.loop-i.invariant k (omega arith)))
