use Rattle.std.proofs.Common.{arith}
use Rattle.load_image.proofs.WrittenWords.{written_more}
use Rattle.load_image.proofs.write.write_words.Goals as goal

pub loop-left-preserved-then-word-end : goal.loop-left-preserved-then-word-end
loop-left-preserved-then-word-end c =
    let same = c.loop-left.invariant.len in
    let whole = rw (← same) at c.requires.whole in
    record {
      within = omega arith;
      len = omega arith;
      written = λ i lt. rw c.put_word.ensures (written_more _ _ _ _ _ _ _ c.loop-left-test.true c.loop-left.invariant.within whole (omega arith) (omega arith) (c.loop-left.invariant.written i lt));
    }
