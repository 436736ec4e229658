use Rattle.known_objects.proofs.NewPools.{none_there}
use Rattle.known_objects.proofs.descriptors.functions_of_a_module_go.Goals as goal

pub adopt-requires-clause-fresh : goal.adopt-requires-clause-fresh
adopt-requires-clause-fresh g c = none_there _ _ _ _ _ c.in_ok-pool.ensures c.reserve.ensures.stays _

pub adopt-requires-clause-unused : goal.adopt-requires-clause-unused
adopt-requires-clause-unused g c = λ f e.
    let none = none_there _ _ _ _ _ c.in_ok-pool.ensures c.reserve.ensures.stays f in
    cc
