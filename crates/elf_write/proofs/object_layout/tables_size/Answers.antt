use Rattle.std.proofs.Common.{◌+◌, ◌-◌, ap, ◌∙◌}
use Rattle.elf_write.proofs.FilePlaced.{tables_size}
use Rattle.elf_write.proofs.object_layout.tables_size.Goals as goal

pub returns-clause-size : goal.returns-clause-size
returns-clause-size c =
    let t = c.args.tables.now in
    ap (λ n. t.dynamic - t.hash + n) c.dynamic_size.ensures.size ∙ tables_size c.args.object.now t c.requires.layout c.requires.order
