use Rattle.std.proofs.Common.{◌≤◌, arith}
use Rattle.elf_write.proofs.FilePlaced.{sections_fit}
use Rattle.elf_write.proofs.object_file.write_object.Goals as goal

pub put_file-requires-clause-placed : goal.put_file-requires-clause-placed
put_file-requires-clause-placed c =
    let f = c.file_layout-layout.ensures in
    let few : c.file_layout-layout.result.size ≤ 4194304 = omega (arith, c.if-from-layout.false, c.from.ensures) in
    record {
      layout = c.layout_of-tables.ensures.layout;
      order = c.layout_of-tables.ensures.order;
      below = c.requires.below;
      tables' = f.tables';
      names' = f.names';
      sections' = f.sections';
      fits = sections_fit c.args.object.now c.file_layout-layout.result f few;
    }
