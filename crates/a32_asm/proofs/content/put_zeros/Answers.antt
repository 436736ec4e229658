use Rattle.std.proofs.Common.{ℕ, List, ◌++◌, ◌∷◌, [], ap, ◌∙◌, append_assoc, replicate}
use Rattle.a32_asm.proofs.Zeros.{zeros_more}
use Rattle.a32_asm.proofs.content.put_zeros.Goals as goal

pub loop-preserved : goal.loop-preserved
loop-preserved c =
    c.in_ok-push.ensures ∙ ap (λ (bs : List ℕ). bs ++ 0 ∷ []) c.loop.invariant ∙ append_assoc c.args.out.now (replicate c.loop.counter 0) (0 ∷ [])
    ∙ ap (λ (bs : List ℕ). c.args.out.now ++ bs) (zeros_more c.loop.counter)
