use Rattle.std.proofs.Common.{◌≡◌, ℕ, Bool, ◌&&◌, List, ◌∷◌, [], ◌++◌, map, ap, ◌∙◌, sym, arith}
use Rattle.std.specs.List.{range_with_len}
use Rattle.std.proofs.lemmas.List.FromFn.{map-range_with_len_more}
use Rattle.load_model.specs.Unbound.{may_wait}
use Rattle.load_model.proofs.unbound.unbound_at_first.Goals as goal

pub loop-k-preserved : goal.loop-k-preserved
loop-k-preserved c =
    let flag : ℕ → Bool = λ n. c.args.lazy && may_wait c.args.o.now n in
    let k = c.loop-k.k in
    let before : List Bool = map flag (range_with_len 0 k) in
    c.in_ok-push.ensures ∙ ap (λ flags. flags ++ c.waits_at_first.result ∷ []) c.loop-k.invariant
    ∙ ap (λ b. before ++ b ∷ []) c.waits_at_first.ensures ∙ sym (map-range_with_len_more flag 0 k k (omega arith))
