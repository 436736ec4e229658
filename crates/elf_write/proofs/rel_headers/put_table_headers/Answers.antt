use Rattle.std.proofs.Common.{◌+◌, ◌++◌, ap, ◌∙◌}
use Rattle.std.proofs.lemmas.Result.{on_ok_weaker}
use Rattle.fd_base.specs.Words.{word_bytes}
use Rattle.elf_write.specs.Words.{section_row}
use Rattle.elf_write.specs.RelFile.{symbols_header, strings_header}
use Rattle.elf_write.proofs.Joined.{three_headers}
use Rattle.elf_write.proofs.rel_headers.put_table_headers.Goals as goal

pub returns : goal.returns
returns c =
    let l = c.args.layout.now in
    let out = c.args.out.now in
    let a = c.put_section_header.new.out in
    let b = c.put_section_header-2.new.out in
    on_ok_weaker c.put_section_header-3.result (λ put. three_headers out a b c.put_section_header-3.new.out
    (symbols_header l c.args.name c.args.locals) (strings_header (c.args.name + 8) l.strings l.names) (strings_header (c.args.name + 16) l.names l.headers)
    (c.in_ok-put_section_header.ensures ∙ ap (λ h. out ++ word_bytes (section_row h)) c.symbols_header.ensures)
    (c.in_ok-put_section_header-2.ensures ∙ ap (λ h. a ++ word_bytes (section_row h)) c.strings_header.ensures)
    (put ∙ ap (λ h. b ++ word_bytes (section_row h)) c.strings_header-2.ensures))
    c.put_section_header-3.ensures
