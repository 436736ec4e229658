use Rattle.std.proofs.Common.{◌≡◌, sym, true, arith}
use Rattle.std.proofs.lemmas.Bool.Decides.{nat_tests}
use Rattle.elf_model.specs.Header.{e_shnum}
use Rattle.elf_model.specs.Sections as spec
use Rattle.elf_read.specs.parts.HeaderTables.{is_symbols_at}
use Rattle.elf_read.proofs.Places.{found_is, none_found}
use Rattle.elf_read.proofs.sections.symbol_section.Goals as goal

pub returns-then-h-addr : goal.returns-then-h-addr
returns-then-h-addr c =
    let here : is_symbols_at c.args.addr (spec.section_header c.args.bytes.now c.loop-i.i) ≡ true = rw (← c.section_header-h.ensures) (grind (arith, nat_tests)) in
    rw c.section_header-h.ensures (sym (found_is (is_symbols_at c.args.addr) (spec.section_header c.args.bytes.now) (e_shnum c.args.bytes.now) c.loop-i.i (omega arith) c.loop-i.invariant here))

pub returns : goal.returns
returns c = sym (none_found (is_symbols_at c.args.addr) (spec.section_header c.args.bytes.now) (e_shnum c.args.bytes.now) (λ k h. c.loop-i.invariant k (omega arith)))
