use Rattle.std.proofs.Common.{◌≡◌, ◌==◌, sym, true, arith, eq-eqb}
use Rattle.elf_model.specs.Header.{e_phnum}
use Rattle.elf_model.specs.Segments as segments
use Rattle.elf_model.specs.Dynamic.{dynamic_header}
use Rattle.elf_read.proofs.Places.{place_is, no_place}
use Rattle.elf_read.proofs.dynamic.dynamic_header.Goals as goal

pub returns-then-program_header-eq-PT_DYNAMIC-clause-place : goal.returns-then-program_header-eq-PT_DYNAMIC-clause-place
unfolding dynamic_header
returns-then-program_header-eq-PT_DYNAMIC-clause-place c =
    let here : ((segments.program_header c.args.bytes.now c.loop-i.i).kind == 2) ≡ true = rw (← c.program_header.ensures) (eq-eqb _ _ c.if-program_header-eq-PT_DYNAMIC.true) in
    sym (place_is (λ h. h.kind == 2) (segments.program_header c.args.bytes.now) (e_phnum c.args.bytes.now) c.loop-i.i (omega arith) c.loop-i.invariant here)

pub returns-clause-place : goal.returns-clause-place
unfolding dynamic_header
returns-clause-place c =
    let all : c.loop-i.i ≡ e_phnum c.args.bytes.now = omega arith in
    sym (no_place (λ h. h.kind == 2) (segments.program_header c.args.bytes.now) (e_phnum c.args.bytes.now) (λ k h. c.loop-i.invariant k (omega arith)))
