use Rattle.std.proofs.Common.{length, ap, sym, ◌∙◌, arith, length-set}
use Rattle.idx_links.specs.parts.Nodes.{chain_of}
use Rattle.idx_links.proofs.Owned.{HasLeft-none, HasLeft-one, HasLeft-all, left_live, left_smaller, left_fits}
use Rattle.idx_links.proofs.pool.Pool.remove_owner.Goals as goal

pub loop-id-init : goal.loop-id-init
loop-id-init g c = HasLeft-none c.args.owner c.args.self.now

pub first_of-requires : goal.first_of-requires
first_of-requires g c = omega (arith, c.requires, ap length c.loop-id.invariant.chains, length-set c.args.self.now.chains c.args.owner (chain_of c.loop-id.self c.args.owner))

pub remove-requires : goal.remove-requires
remove-requires g c = left_live c.args.owner c.args.self.now c.loop-id.self c.loop-id.count c.in-Some.id c.loop-id.invariant c.in-Some.ensures.tied (sym c.in-Some.ensures.first)

pub overflow_add-count : goal.overflow_add-count
overflow_add-count g c = omega (arith, left_fits c.args.owner c.args.self.now c.loop-id.self c.loop-id.count c.in-Some.id c.loop-id.invariant c.in-Some.ensures.tied (sym c.in-Some.ensures.first))

pub loop-id-smaller : goal.loop-id-smaller
loop-id-smaller g c = rw c.remove.ensures.removed (left_smaller c.args.owner c.args.self.now c.loop-id.self c.loop-id.count c.in-Some.id c.loop-id.invariant c.in-Some.ensures.tied (sym c.in-Some.ensures.first))

pub loop-id-preserved : goal.loop-id-preserved
loop-id-preserved g c = rw c.remove.ensures.removed (HasLeft-one c.args.owner c.args.self.now c.loop-id.self c.loop-id.count c.in-Some.id c.loop-id.invariant c.in-Some.ensures.tied (sym c.in-Some.ensures.first))

pub returns-clause-count : goal.returns-clause-count
returns-clause-count g c = (HasLeft-all c.args.owner c.args.self.now c.loop-id.self c.loop-id.count c.loop-id.invariant c.first_of.ensures.tied (sym c.first_of.ensures.first ∙ c.in_default.is)).0

pub returns-clause-removed : goal.returns-clause-removed
returns-clause-removed g c = (HasLeft-all c.args.owner c.args.self.now c.loop-id.self c.loop-id.count c.loop-id.invariant c.first_of.ensures.tied (sym c.first_of.ensures.first ∙ c.in_default.is)).1

pub returns-clause-total : goal.returns-clause-total
returns-clause-total g c = c.loop-id.invariant.total
