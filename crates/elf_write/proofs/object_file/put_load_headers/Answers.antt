use Rattle.std.proofs.Common.{◌+◌, ◌++◌, ap, ◌∙◌, map, drop, arith}
use Rattle.fd_base.specs.Words.{word_bytes}
use Rattle.elf_write.specs.Words.{program_row, table_bytes}
use Rattle.elf_write.specs.ObjectFile.{load_headers, end_of_all}
use Rattle.elf_write.proofs.Parts.{item_drop}
use Rattle.elf_write.proofs.FileJoined.{ends_more, loads_more, end_within}
use Rattle.elf_write.proofs.object_file.put_load_headers.Goals as goal

pub load_header-requires-clause-fits : goal.load_header-requires-clause-fits
load_header-requires-clause-fits c =
    let segments = c.args.segments.now in
    let i = c.loop-segment.segment-index in
    let more = item_drop segments i c.segment-item.result c.loop-segment-test.true c.segment-item.is in
    let within = end_within c.loop-segment.at (end_of_all c.args.from segments) (drop i segments) (drop (i + 1) segments) c.segment-item.result more c.loop-segment.invariant.total in
    omega (arith, within, c.requires.fits)

pub loop-segment-preserved : goal.loop-segment-preserved
loop-segment-preserved c =
    let segments = c.args.segments.now in
    let i = c.loop-segment.segment-index in
    let item = c.segment-item.result in
    let more = item_drop segments i item c.loop-segment-test.true c.segment-item.is in
    record {
      left = loads_more segments i item more c.loop-segment.out c.put_program_header.new.out
          (c.args.out.now ++ table_bytes (map program_row (load_headers c.args.from segments))) c.loop-segment.at c.end_of-at.result
          (c.in_ok-put_program_header.ensures ∙ ap (λ h. c.loop-segment.out ++ word_bytes (program_row h)) c.load_header.ensures)
          c.end_of-at.ensures.end c.loop-segment.invariant.left;
      total = ends_more segments i item more c.loop-segment.at c.end_of-at.result (end_of_all c.args.from segments) c.end_of-at.ensures.end c.loop-segment.invariant.total;
      near = omega (arith, c.loop-segment.invariant.near, c.end_of-at.ensures.near);
    }
