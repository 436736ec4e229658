use Rattle.std.proofs.Common.{arith, ap}
use Rattle.elf_read_rel.proofs.symbols.strings.Goals as goal

pub overflow_cast-link : goal.overflow_cast-link
overflow_cast-link c =
    let has = rw c.in-Some.is at c.requires.inside in
    let link = ap (λ h. h.link) c.section_header-link.ensures in
    omega (arith, has.linked, c.requires.headers.few, link)
