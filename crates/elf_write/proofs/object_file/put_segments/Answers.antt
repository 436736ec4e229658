use Rattle.std.proofs.Common.{◌≡◌, ◌-◌, ◌++◌, ap, ◌∙◌, arith}
use Rattle.std.proofs.lemmas.Result.{on_ok_weaker}
use Rattle.elf_write.specs.Words.{zeros}
use Rattle.elf_write.specs.ObjectFile.{end_of_all, headers_end, tables_offset}
use Rattle.elf_write.proofs.FileJoined.{all_segments}
use Rattle.elf_write.proofs.FilePlaced.{reached}
use Rattle.elf_write.proofs.object_file.put_segments.Goals as goal

pub overflow_sub-layout : goal.overflow_sub-layout
overflow_sub-layout c =
    let r = reached c.args.object.now c.args.tables.now c.args.layout.now c.requires.placed in
    let ends = rw (c.as_slice-segments.ensures, c.headers_end-from.ensures.end) at c.end_of_all.ensures.end in
    omega (arith, ends, r.tables_from)

pub put_tables-requires-clause-fits : goal.put_tables-requires-clause-fits
put_tables-requires-clause-fits c = let r = reached c.args.object.now c.args.tables.now c.args.layout.now c.requires.placed in r.dynamic_near

pub returns : goal.returns
returns c =
    let o = c.args.object.now in
    let own = rw (c.as_slice-segments.ensures, c.headers_end-from.ensures.end) at c.in_ok-put_contents.ensures in
    let a = c.put_contents.new.out in
    let ends : c.end_of_all.result ≡ end_of_all (headers_end o) o.segments = rw (c.as_slice-segments.ensures, c.headers_end-from.ensures.end) at c.end_of_all.ensures.end in
    let gap : c.args.layout.now.tables - c.end_of_all.result ≡ tables_offset o - end_of_all (headers_end o) o.segments =
    ap (λ n. n - c.end_of_all.result) (c.requires.placed).tables' ∙ ap (λ n. tables_offset o - n) ends in
    on_ok_weaker c.put_tables.result (λ put. all_segments o c.args.out.now a c.put_zeros.new.out c.put_tables.new.out own (c.in_ok-put_zeros.ensures ∙ ap (λ n. a ++ zeros n) gap) put) c.put_tables.ensures
