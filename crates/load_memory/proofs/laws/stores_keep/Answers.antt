use Rattle.load_memory.proofs.KeptLayout.{stores_keep-layout, stores_keep-watched, stores_keep-fixed, stores_keep-segments}
use Rattle.load_memory.proofs.laws.stores_keep.Goals as goal

pub returns-clause-layout : goal.returns-clause-layout
returns-clause-layout c = stores_keep-layout

pub returns-clause-watched : goal.returns-clause-watched
returns-clause-watched c = stores_keep-watched

pub returns-clause-fixed : goal.returns-clause-fixed
returns-clause-fixed c = stores_keep-fixed

pub returns-clause-segments : goal.returns-clause-segments
returns-clause-segments c = stores_keep-segments
