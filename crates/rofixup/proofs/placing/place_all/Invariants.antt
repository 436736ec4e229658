use Rattle.std.proofs.Common.{◌≡◌, ◌++◌, map, take, drop, unwrap_or}
use Rattle.load_map.specs.Translation.{address_of}
use Rattle.rofixup.proofs.placing.place_all.Given as goal

abbrev pub invariant-loop-value : goal.invariant-loop-value
invariant-loop-value l =
    l.values ≡ map (λ v. unwrap_or (address_of l.by v) v) (take l.value-index l.fn.values) ++ drop l.value-index l.fn.values
