use Rattle.std.proofs.Common.{◌≡◌, ◌+◌, ◌^◌, ◌<◌, ◌∙◌, length, None, arith}
use Rattle.elf_model.specs.declared.table.ProgramHeader.{ProgramHeader}
use Rattle.std.proofs.lemmas.List.Elements.{All-push}
use Rattle.std.proofs.lemmas.Result.{err_from_is_err_and}
use Rattle.elf_read.proofs.Filtered.{kept, skipped}
use Rattle.elf_model.specs.Header.{e_phnum}
use Rattle.elf_model.specs.Test.{first_failing}
use Rattle.elf_model.specs.Segments as spec
use Rattle.elf_model.specs.Segments.{segment_tests}
use Rattle.elf_model.proofs.Tests.{below_none, below_more}
use Rattle.elf_read.specs.parts.Passes.{IsRefusal}
use Rattle.elf_read.proofs.Loops.{below_stops}
use Rattle.elf_read.proofs.segments.loads.Goals as goal
use Rattle.elf_read.proofs.segments.loads.Goals.{then-is_load+in_ok-push, else-is_load}

abbrev IsBelow : ProgramHeader → Type 0
IsBelow h = h.vaddr + h.memsz < 2 ^ 32

pub loop-i-init : goal.loop-i-init
loop-i-init c = record { passed = below_none (spec.program_header_test c.args.bytes.now); in_file = rw c.new-loads.ensures.items (λ k d lt. absurd (omega arith)); below = rw c.new-loads.ensures.items (λ k d lt. absurd (omega arith)); found = c.new-loads.ensures.items }

pub returns-in_err-check_program_header-clause-tests : goal.returns-in_err-check_program_header-clause-tests
unfolding segment_tests
returns-in_err-check_program_header-clause-tests c =
    let p = err_from_is_err_and c.from_residual.result c.from_residual.ensures.1 in
    let earlier = c.deref.ensures.value ∙ c.loop-i.invariant.found in
    let here : IsRefusal c.in_err-check_program_header.field-0.0 (spec.program_header_test c.args.bytes.now c.loop-i.i) =
    rw (← c.header_offset.ensures, ← c.program_header-h.ensures, ← earlier) c.in_err-check_program_header.ensures.tests in
    rw (p.1, p.2) (below_stops c.in_err-check_program_header.field-0.0 (spec.program_header_test c.args.bytes.now) (e_phnum c.args.bytes.now) c.loop-i.i (omega arith) c.loop-i.invariant.passed here)

pub loop-i-preserved : goal.loop-i-preserved
loop-i-preserved c =
    let earlier = c.deref.ensures.value ∙ c.loop-i.invariant.found in
    let here : first_failing (spec.program_header_test c.args.bytes.now c.loop-i.i) ≡ None =
    rw (← c.header_offset.ensures, ← c.program_header-h.ensures, ← earlier) c.in_ok-check_program_header.ensures.tests in
    record {
      in_file =
          elim c.if-is_load.branch [
            | then-is_load+in_ok-push w ↦
                rw (w.loads-is, w.in_ok-push.ensures.items)
                (All-push (spec.InFile (length c.args.bytes.now)) c.loop-i.loads.items c.program_header-h.result c.loop-i.invariant.in_file (c.in_ok-check_program_header.ensures.in_file w.if-is_load.ensures))
            | else-is_load w ↦ rw w.loads-is c.loop-i.invariant.in_file
          ];
      below =
          elim c.if-is_load.branch [
            | then-is_load+in_ok-push w ↦
                rw (w.loads-is, w.in_ok-push.ensures.items)
                (All-push IsBelow c.loop-i.loads.items c.program_header-h.result c.loop-i.invariant.below (c.in_ok-check_program_header.ensures.below w.if-is_load.ensures))
            | else-is_load w ↦ rw w.loads-is c.loop-i.invariant.below
          ];
      passed = below_more (spec.program_header_test c.args.bytes.now) c.loop-i.i c.loop-i.invariant.passed here;
      found =
          elim c.if-is_load.branch [
            | then-is_load+in_ok-push w ↦
                rw (w.loads-is, w.in_ok-push.ensures.items)
                (kept spec.is_load (spec.program_header c.args.bytes.now) c.loop-i.i c.program_header-h.result c.loop-i.loads.items c.program_header-h.ensures w.if-is_load.ensures c.loop-i.invariant.found)
            | else-is_load w ↦
                rw w.loads-is
                (skipped spec.is_load (spec.program_header c.args.bytes.now) c.loop-i.i c.program_header-h.result c.loop-i.loads.items c.program_header-h.ensures w.if-is_load.ensures c.loop-i.invariant.found)
          ];
    }

pub returns-clause-tests : goal.returns-clause-tests
unfolding segment_tests
returns-clause-tests c =
    let all : c.loop-i.i ≡ e_phnum c.args.bytes.now = omega arith in
    rw (← all) (c.loop-i.invariant.passed, c.loop-i.invariant.found)
