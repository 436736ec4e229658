use Rattle.std.proofs.Common.{◌≡◌, ◌+◌, ◌-◌, slice_index, ap, ◌∙◌, arith}
use Rattle.link_words.proofs.SectionBytes.{contents_are}
use Rattle.link_words.proofs.contents.put_contents.Goals as goal

pub returns-clause-sections : goal.returns-clause-sections
returns-clause-sections c mode inputs xs i are lt zeros =
    let at : c.args.start + i - c.args.start ≡ i = omega arith in
    let below : slice_index c.args.bytes.now (c.args.start + i - c.args.start) ≡ 0 = ap (slice_index c.args.bytes.now) at ∙ zeros in
    c.copy_contents.ensures i lt ∙ contents_are mode inputs xs c.args.contents.now _ (c.args.start + i) are below
