use Rattle.std.proofs.Common.{◌≡◌, ◌++◌, Ok, drop}
use Rattle.std.specs.List.{filter_map}
use Rattle.load_model.specs.Descriptors.{descriptor_of}
use Rattle.load_sites.proofs.wanted.add_all_asked_by.Given as goal

-- with those of the values that are left they are all
abbrev pub invariant-loop-value : goal.invariant-loop-value
invariant-loop-value l =
    l.asked ++ filter_map (λ v. descriptor_of (Ok v)) (drop l.value-index l.values)
    ≡ l.initial.asked ++ filter_map (λ v. descriptor_of (Ok v)) l.values
