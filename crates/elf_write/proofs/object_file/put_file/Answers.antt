use Rattle.std.proofs.lemmas.Result.{on_ok_weaker}
use Rattle.elf_write.proofs.FileJoined.{all_file}
use Rattle.elf_write.proofs.object_file.put_file.Goals as goal

pub returns : goal.returns
returns c =
    let header = rw c.file_header.ensures at c.in_ok-put_header.ensures in
    on_ok_weaker c.put_sections.result (λ put.
    all_file c.args.object.now c.args.out.now c.put_header.new.out c.put_program_headers.new.out c.put_segments.new.out c.put_sections.new.out
    header c.in_ok-put_program_headers.ensures c.in_ok-put_segments.ensures put) c.put_sections.ensures
