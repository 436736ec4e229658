use Rattle.load_process.proofs.WholeWalks as whole
use Rattle.load_process.proofs.walking.walk.Goals as goal

pub returns-clause-walk : goal.returns-clause-walk
returns-clause-walk g c = whole.walk_of c.args.process.now _ c.args.root.now c.walked.result c.walked.ensures.walk

pub returns-clause-members : goal.returns-clause-members
returns-clause-members g c = whole.below c.args.process.now _ c.args.root.now c.walked.result c.requires.sizes c.walked.ensures.walk

pub returns-clause-members_once : goal.returns-clause-members_once
returns-clause-members_once g c = whole.once c.args.process.now _ c.args.root.now c.walked.result c.walked.ensures.walk

pub returns-clause-numbers : goal.returns-clause-numbers
returns-clause-numbers g c = whole.numbers_below c.args.process.now _ c.args.root.now c.walked.result c.walked.ensures.walk

pub returns-clause-numbers_once : goal.returns-clause-numbers_once
returns-clause-numbers_once g c = whole.numbers_once c.args.process.now _ c.args.root.now c.walked.result c.walked.ensures.walk

pub returns-clause-free : goal.returns-clause-free
returns-clause-free g c = whole.free c.args.process.now _ c.args.root.now c.walked.result c.walked.ensures.walk

pub returns-clause-names_once : goal.returns-clause-names_once
returns-clause-names_once g c = whole.names_once c.args.process.now _ c.args.root.now c.walked.result c.walked.ensures.walk

pub returns-clause-new : goal.returns-clause-new
returns-clause-new g c = whole.new c.args.process.now _ c.args.root.now c.walked.result c.walked.ensures.walk

pub returns-clause-root : goal.returns-clause-root
returns-clause-root g c = whole.first c.args.process.now _ c.args.root.now c.walked.result c.walked.ensures.walk

pub returns-clause-known : goal.returns-clause-known
returns-clause-known g c = whole.known c.args.process.now _ c.args.root.now c.walked.result c.walked.ensures.walk
