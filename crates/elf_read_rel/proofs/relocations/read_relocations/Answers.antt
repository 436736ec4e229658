use Rattle.std.proofs.Common.{◌≡◌, ℕ, List, arith}
use Rattle.std.proofs.lemmas.Result.{err_from_is_err_and}
use Rattle.elf_model.specs.Header.{e_shnum}
use Rattle.elf_model.specs.Sections.{section_header}
use Rattle.elf_model.specs.Test.{ElfTest, only_where}
use Rattle.elf_model.specs.RelEntries.{relocates, relocating_tests, all_relocating_tests}
use Rattle.elf_model.proofs.Tests.{below_none, below_more}
use Rattle.elf_read.proofs.Loops.{below_stops}
use Rattle.elf_read_rel.proofs.Listing.{all_listed}
use Rattle.elf_read_rel.proofs.relocations.read_relocations.Goals as goal

pub loop-i-init : goal.loop-i-init
loop-i-init c = record { passed = below_none _; lists = c.in_ok-lists.ensures }

pub returns-in_err-take : goal.returns-in_err-take
unfolding all_relocating_tests
returns-in_err-take c =
    let p = err_from_is_err_and c.from_residual-in_err-take.result c.from_residual-in_err-take.ensures.1 in
    let bytes = c.args.bytes.now in
    let tests : ℕ → List ElfTest = λ i. only_where (relocates bytes (section_header bytes i)) (relocating_tests bytes i) in
    rw (p.1, p.2) (below_stops c.in_err-take.field-0.0 tests (e_shnum bytes) c.loop-i.i (omega arith) c.loop-i.invariant.passed c.in_err-take.ensures.tests)

pub loop-i-preserved : goal.loop-i-preserved
loop-i-preserved c =
    let bytes = c.args.bytes.now in
    let tests : ℕ → List ElfTest = λ i. only_where (relocates bytes (section_header bytes i)) (relocating_tests bytes i) in
    record {
      passed = below_more tests c.loop-i.i c.loop-i.invariant.passed c.in_ok-take.ensures.tests;
      lists = c.in_ok-take.ensures.lists;
    }

pub returns : goal.returns
unfolding all_relocating_tests
returns c =
    let all : c.loop-i.i ≡ e_shnum c.args.bytes.now = omega arith in
    (rw (← all) c.loop-i.invariant.passed, all_listed c.args.bytes.now c.loop-i.i c.loop-i.lists all c.loop-i.invariant.lists)
