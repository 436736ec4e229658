use Rattle.std.proofs.Common.{arith, ap}
use Rattle.elf_read_rel.proofs.Numbered.{count_of}
use Rattle.elf_read_rel.proofs.symbols.symbols_offset.Goals as goal

pub returns-in-None-clause-inside : goal.returns-in-None-clause-inside
returns-in-None-clause-inside c =
    let count = count_of c.args.bytes.now _ (rw c.in-None.is at c.requires.is_section) in
    omega (arith, count)

pub returns-in-Some-clause-inside : goal.returns-in-Some-clause-inside
returns-in-Some-clause-inside c =
    let has = rw c.in-Some.is at c.requires.inside in
    let count = count_of c.args.bytes.now _ (rw c.in-Some.is at c.requires.is_section) in
    let offset = ap (λ h. h.offset) c.section_header.ensures in
    omega (arith, count, has.inside, offset)
