use Rattle.std.proofs.Common.{◌≡◌, [], not, ◌||◌, is_some, filter, drop}
use Rattle.std.specs.FinMap.{get}
use Rattle.symbol_scope.specs.Closure.{has, with_new}
use Rattle.load_model.specs.Descriptors.{is_same_func}
use Rattle.load_sites.proofs.wanted.without_descriptor.Given as goal

-- with those that are left they are all
abbrev pub invariant-loop-f : goal.invariant-loop-f
invariant-loop-f l =
    with_new is_same_func l.wanted (filter (λ f. not (is_some (get l.had.addrs f) || has is_same_func l.listed f)) (drop l.f-index l.asked))
    ≡ with_new is_same_func [] (filter (λ f. not (is_some (get l.had.addrs f) || has is_same_func l.listed f)) l.asked)
