use Rattle.std.proofs.Common.{sym, arith}
use Rattle.std.proofs.lemmas.List.FromFn.{map-range_with_len_more}
use Rattle.fd_base.specs.Words.{word_in}
use Rattle.elf_model.specs.Sections.{rofixup_offset}
use Rattle.elf_read.proofs.sections.fixups_of.Goals as goal

pub loop-k-preserved : goal.loop-k-preserved
loop-k-preserved c =
    rw (c.in_ok-push.ensures, c.loop-k.invariant, c.word_in.ensures, c.section_header-h.ensures)
    (sym (map-range_with_len_more (λ k. word_in c.args.bytes.now (rofixup_offset c.args.bytes.now c.args.i k)) 0 c.loop-k.k c.loop-k.k (omega arith)))
