use Rattle.std.proofs.Common.{◌+◌, ◌++◌, ap, ◌∙◌, map, drop, arith}
use Rattle.fd_base.specs.Words.{word_bytes}
use Rattle.elf_write.specs.Words.{section_row, table_bytes}
use Rattle.elf_write.specs.RelFile.{kept_headers, end_of_all}
use Rattle.elf_write.proofs.Putting.{end_within}
use Rattle.elf_write.proofs.Parts.{item_drop, ends_more, kept_headers_more}
use Rattle.elf_write.proofs.rel_headers.put_kept_headers.Goals as goal

pub kept_header-requires-clause-fits : goal.kept_header-requires-clause-fits
kept_header-requires-clause-fits c =
    let sections = c.args.sections.now in
    let i = c.loop-section.section-index in
    let more = item_drop sections i c.section-item.result c.loop-section-test.true c.section-item.is in
    let within = end_within c.loop-section.at (end_of_all 52 sections) (drop i sections) (drop (i + 1) sections) c.section-item.result more c.loop-section.invariant.total in
    omega (arith, within, c.requires.fits)

pub loop-section-preserved : goal.loop-section-preserved
loop-section-preserved c =
    let sections = c.args.sections.now in
    let i = c.loop-section.section-index in
    let item = c.section-item.result in
    let more = item_drop sections i item c.loop-section-test.true c.section-item.is in
    record {
      left = kept_headers_more sections i item more c.loop-section.out c.put_section_header.new.out
          (c.args.out.now ++ table_bytes (map section_row (kept_headers 52 1 sections))) c.loop-section.at c.end_of-at.result c.loop-section.name (c.loop-section.name + c.name_size-name.result)
          (c.in_ok-put_section_header.ensures ∙ ap (λ h. c.loop-section.out ++ word_bytes (section_row h)) c.kept_header.ensures)
          c.end_of-at.ensures.end (ap (λ n. c.loop-section.name + n) c.name_size-name.ensures.size) c.loop-section.invariant.left;
      total = ends_more sections i item more c.loop-section.at c.end_of-at.result (end_of_all 52 sections) c.end_of-at.ensures.end c.loop-section.invariant.total;
      near = omega (arith, c.loop-section.invariant.near, c.end_of-at.ensures.near);
      named = omega (arith, c.loop-section.invariant.named, c.name_size-name.ensures.short);
    }
