use Rattle.std.proofs.lemmas.Result.{on_ok_weaker}
use Rattle.elf_write.proofs.Joined.{all_parts}
use Rattle.elf_write.proofs.rel_file.put_file.Goals as goal

pub returns : goal.returns
returns c =
    let header = rw (c.file_header.ensures, c.requires.layout) at c.in_ok-put_header.ensures in
    let contents = rw c.as_slice-sections.ensures at c.in_ok-put_contents.ensures in
    let tables = rw c.as_slice-sections.ensures at c.in_ok-put_tables.ensures in
    let symbols = rw c.as_slice-symbols.ensures at c.in_ok-put_symbols.ensures in
    let strings = rw c.as_slice-symbols.ensures at c.in_ok-put_symbol_strings.ensures in
    let names = rw c.as_slice-sections.ensures at c.in_ok-put_section_strings.ensures in
    on_ok_weaker c.put_headers.result (λ put. all_parts c.args.object.now c.args.out.now _ _ _ _ _ _ _ header contents tables symbols strings names put) c.put_headers.ensures
