use Rattle.std.proofs.Common.{◌≡◌, ◌+◌, sym, ap, ◌∙◌}
use Rattle.elf_write.specs.Words.{aligned, offset_like}
use Rattle.elf_write.specs.ObjectFile.{end_of_all, headers_end, tables_offset, names_offset, sections_offset}
use Rattle.elf_write.specs.parts.ObjectSizes.{size_from}
use Rattle.elf_write.proofs.ObjectLengths.{file_length}
use Rattle.elf_write.proofs.FileJoined.{tables_at, names_at}
use Rattle.elf_write.proofs.object_layout.file_layout.Goals as goal

pub returns : goal.returns
returns c =
    let o = c.args.object.now in
    let ends : c.end_of_all-segments_end.result ≡ end_of_all (headers_end o) o.segments = rw (c.as_slice.ensures, c.headers_end.ensures.end) at c.end_of_all-segments_end.ensures.end in
    let tables : c.offset_like-tables_at.result ≡ tables_offset o = c.offset_like-tables_at.ensures.offset ∙ ap (λ n. offset_like 0 16 n) ends ∙ sym (tables_at o) in
    let names : c.offset_like-tables_at.result + c.tables_size.result ≡ names_offset o =
    ap (λ n. n + c.tables_size.result) tables ∙ ap (λ n. tables_offset o + n) c.tables_size.ensures.size ∙ sym (names_at o) in
    let sections : c.aligned-sections_at.result ≡ sections_offset o = c.aligned-sections_at.ensures.aligned ∙ ap (λ n. aligned 4 (n + 20)) names in
    record {
      tables' = tables;
      names' = names;
      sections' = sections;
      size' = c.file_size.ensures ∙ ap (λ n. size_from n c.aligned-sections_at.result o.fixups) names ∙ ap (λ n. size_from (names_offset o) n o.fixups) sections ∙ sym (file_length o);
    }
