use Rattle.std.proofs.Common.{◌++◌, ap, ◌∙◌, arith}
use Rattle.std.proofs.lemmas.Result.{on_ok_weaker}
use Rattle.fd_base.specs.Words.{word_bytes}
use Rattle.elf_write.specs.Words.{program_row}
use Rattle.elf_write.proofs.FileJoined.{all_programs}
use Rattle.elf_write.proofs.FilePlaced.{reached, tables_load_is, dynamic_load_is}
use Rattle.elf_write.proofs.object_file.put_program_headers.Goals as goal

pub put_load_headers-requires-clause-fits : goal.put_load_headers-requires-clause-fits
put_load_headers-requires-clause-fits c =
    let r = reached c.args.object.now c.args.tables.now c.args.layout.now c.requires.placed in
    rw (c.as_slice.ensures, c.headers_end.ensures.end) (omega (arith, r.tables_from, r.dynamic_within, r.sections_from, r.sections_near))

pub tables_header-requires : goal.tables_header-requires
tables_header-requires c =
    let r = reached c.args.object.now c.args.tables.now c.args.layout.now c.requires.placed in
    record {
      order = omega (arith, r.dynamic_within);
      fits = omega (arith, r.sections_from, r.sections_near);
      below = omega (arith, r.hash_first, r.dynamic_last, r.dynamic_near);
    }

pub dynamic_header-requires : goal.dynamic_header-requires
dynamic_header-requires c =
    let r = reached c.args.object.now c.args.tables.now c.args.layout.now c.requires.placed in
    record {
      small = c.requires.small;
      order = omega (arith, r.hash_first, r.dynamic_last);
      fits = omega (arith, r.dynamic_within, r.sections_from, r.sections_near);
      below = r.dynamic_near;
    }

pub returns : goal.returns
returns c =
    let o = c.args.object.now in
    let loads = rw (c.as_slice.ensures, c.headers_end.ensures.end) at c.in_ok-put_load_headers.ensures in
    let a = c.put_load_headers.new.out in
    let b = c.put_program_header.new.out in
    let tables = c.in_ok-put_program_header.ensures ∙ ap (λ h. a ++ word_bytes (program_row h)) (c.tables_header.ensures ∙ tables_load_is o c.args.tables.now c.args.layout.now c.requires.placed) in
    on_ok_weaker c.put_program_header-2.result (λ put.
    all_programs o c.args.out.now a b c.put_program_header-2.new.out loads tables
    (put ∙ ap (λ h. b ++ word_bytes (program_row h)) (c.dynamic_header.ensures ∙ dynamic_load_is o c.args.tables.now c.args.layout.now c.requires.placed))) c.put_program_header-2.ensures
