use Rattle.std.proofs.Common.{◌≡◌, length, ap, ◌∙◌, arith}
use Rattle.std.proofs.lemmas.List.FromFn.{length-map-range_with_len}
use Rattle.fd_base.specs.Words.{word_in}
use Rattle.elf_model.specs.Sections.{rofixup_offset, fixup_count}
use Rattle.elf_read.proofs.fixups.read_fixups.Goals as goal

pub check_fixups-requires-clause-fits : goal.check_fixups-requires-clause-fits
check_fixups-requires-clause-fits c =
    let list = rw c.in-Some.is at c.requires.list in
    let count : length c.as_slice.result.now ≡ fixup_count c.args.bytes.now c.in-Some.i =
    ap length (c.as_slice.ensures ∙ c.in_ok-fixups.ensures) ∙ length-map-range_with_len (λ k. word_in c.args.bytes.now (rofixup_offset c.args.bytes.now c.in-Some.i k)) 0 (fixup_count c.args.bytes.now c.in-Some.i) in
    omega (arith, count, list.inside, list.some, c.rofixup_offset.ensures)
