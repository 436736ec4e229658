use Rattle.std.proofs.Common.{◌≡◌, ◌∙◌, length, ap, sym, arith}
use Rattle.elf_write.specs.RelFile.{rel_file, size_of}
use Rattle.elf_write.proofs.Lengths.{file_length}
use Rattle.elf_write.proofs.rel_file.write_rel_object.Goals as goal

pub returns-then-from-size : goal.returns-then-from-size
returns-then-from-size c =
    let size : c.file_size-size.result ≡ length (rel_file c.args.object.now) =
    c.file_size-size.ensures ∙ ap size_of c.layout_of-layout.ensures.layout ∙ sym (file_length c.args.object.now) in
    (size, omega (arith, size, c.if-from-size.true, c.from.ensures))

pub returns : goal.returns
returns c =
    let size : c.file_size-size.result ≡ length (rel_file c.args.object.now) =
    c.file_size-size.ensures ∙ ap size_of c.layout_of-layout.ensures.layout ∙ sym (file_length c.args.object.now) in
    (rw c.new-out.ensures at c.in_ok-put_file.ensures, omega (arith, size, c.if-from-size.false, c.from.ensures))
