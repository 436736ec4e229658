use Rattle.std.proofs.Common.{◌<◌, length, refl, arith}
use Rattle.idx_links.specs.declared.links.TheConstants.{NONE}
use Rattle.idx_links.proofs.Families.{linked_view, linked_push, IsLinked-itself, view_linked}
use Rattle.idx_links.proofs.chains.Chains.hold.Goals as goal

pub invariant_of-self : goal.invariant_of-self
invariant_of-self c =
    let heads = c.self.inside.heads.items in
    let links = c.self.inside.links.items in
    let room : length links < NONE = omega (arith, c.requires.number, c.if-len-id.true, c.self.inside.links.ok) in
    rw c.in_ok-push.ensures.items (IsLinked-itself heads _ _ (linked_push heads links _ c.self.invariant _ room))

pub invariant_of-self-in_err-push : goal.invariant_of-self-in_err-push
invariant_of-self-in_err-push c = rw c.in_err-push.ensures.items c.self.invariant

pub returns-in_ok-push-clause-stays : goal.returns-in_ok-push-clause-stays
returns-in_ok-push-clause-stays c =
    let heads = c.self.inside.heads.items in
    let links = c.self.inside.links.items in
    let linked = linked_view heads links c.args.self.now c.self.view_is c.self.invariant in
    let room : length links < NONE = omega (arith, c.requires.number, c.if-len-id.true, c.self.inside.links.ok) in
    rw c.in_ok-push.ensures.items (view_linked heads _ _ (linked_push heads links c.args.self.now.lists linked _ room) refl)
