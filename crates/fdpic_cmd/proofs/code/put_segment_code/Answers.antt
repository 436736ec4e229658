use Rattle.std.proofs.Common.{◌≡◌, ◌∙◌, ap, ◌++◌, ◌*◌, ◌+◌}
use Rattle.fd_base.specs.Words.{word_in}
use Rattle.fdpic_cmd.specs.Code.{segment_code_line, code_line}
use Rattle.fdpic_cmd.proofs.CodeLines.{put_more}
use Rattle.fdpic_cmd.proofs.code.put_segment_code.Goals as goal

pub loop-k-preserved : goal.loop-k-preserved
loop-k-preserved c =
    let s = c.args.s.now in
    let k = c.loop-k.k in
    let word : c.word_in-word.result ≡ word_in s.filled (4 * k) = c.word_in-word.ensures ∙ ap (λ bytes. word_in bytes (4 * k)) c.as_slice-bytes.ensures in
    let put : c.put_code_line.new.out ≡ c.loop-k.out ++ segment_code_line s k
    = c.in_ok-put_code_line.ensures ∙ ap (λ w. c.loop-k.out ++ code_line (s.vaddr + 4 * k) w) word in
    put_more (segment_code_line s) k c.loop-k.out c.put_code_line.new.out c.args.out.now c.loop-k.invariant put
