use Rattle.std.proofs.lemmas.Result.{on_ok_weaker}
use Rattle.elf_write.proofs.Joined.{all_headers}
use Rattle.elf_write.proofs.rel_headers.put_headers.Goals as goal

pub returns : goal.returns
returns c =
    let null = rw c.null_header.ensures at c.in_ok-put_section_header.ensures in
    let kept = rw c.as_slice-sections.ensures at c.in_ok-put_kept_headers.ensures in
    let rels = rw (c.as_slice-sections.ensures, c.requires.layout) at c.in_ok-put_rel_headers.ensures in
    on_ok_weaker c.put_table_headers.result (λ put.
    let tables = rw (c.names_end.ensures.size, c.local_count.ensures, c.as_slice-sections.ensures, c.as_slice.ensures, c.requires.layout) at put in
    all_headers c.args.object.now c.args.out.now _ _ _ _ null kept rels tables) c.put_table_headers.ensures
