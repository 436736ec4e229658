use Rattle.std.proofs.Common.{[], replicate, refl}
use Rattle.idx_links.specs.declared.links.TheConstants.{NONE}
use Rattle.idx_links.proofs.Families.{linked_none, IsLinked-itself, view_linked}
use Rattle.idx_links.proofs.chains.Chains.new.Goals as goal

pub invariant_of-result : goal.invariant_of-result
invariant_of-result c =
    rw (c.in_ok-vec.ensures.items_if_clones_equal, c.new.ensures.items) (IsLinked-itself (replicate c.args.lists NONE) [] (replicate c.args.lists []) (linked_none c.args.lists))

pub returns : goal.returns
returns c =
    rw (c.in_ok-vec.ensures.items_if_clones_equal, c.new.ensures.items)
    (view_linked (replicate c.args.lists NONE) [] (record { lists = replicate c.args.lists []; nodes = 0 }) (linked_none c.args.lists) refl)
