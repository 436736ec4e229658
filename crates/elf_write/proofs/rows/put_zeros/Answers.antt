use Rattle.std.proofs.Common.{ℕ, List, ◌++◌, ◌∷◌, [], ap, ◌∙◌, append_assoc}
use Rattle.elf_write.specs.Words.{zeros}
use Rattle.elf_write.proofs.Putting.{zeros_more}
use Rattle.elf_write.proofs.rows.put_zeros.Goals as goal

pub loop-preserved : goal.loop-preserved
loop-preserved c =
    c.in_ok-push.ensures ∙ ap (λ (bs : List ℕ). bs ++ 0 ∷ []) c.loop.invariant ∙ append_assoc c.args.out.now (zeros c.loop.counter) (0 ∷ [])
    ∙ ap (λ (bs : List ℕ). c.args.out.now ++ bs) (zeros_more c.loop.counter)
