use Rattle.std.proofs.Common.{◌∙◌}
use Rattle.std.proofs.lemmas.Result.{IfOk-weaker}
use Rattle.load_model.specs.Linkage.{linkage_with}
use Rattle.load_plan.proofs.WalkedModules.{below_of}
use Rattle.load_plan.proofs.Placings.{finished_by}
use Rattle.load_plan.proofs.SiteRoom.{all_fit, values_count}
use Rattle.load_plan.proofs.planning.finished.Goals as goal

pub parts-requires-clause-placed : goal.parts-requires-clause-placed
parts-requires-clause-placed c =
    rw (c.as_slice-joining.ensures, c.new-places.ensures, c.as_slice-2.ensures) c.requires.mapped

pub parts-requires-clause-count : goal.parts-requires-clause-count
parts-requires-clause-count c =
    let linked = c.args.linked.now in
    rw (c.as_slice-joining.ensures, c.as_slice-3.ensures) (values_count (linkage_with c.args.standing.now.process.now linked.joining linked.scope) linked.joining linked.values c.requires.values)

pub parts-requires-clause-fit : goal.parts-requires-clause-fit
parts-requires-clause-fit c =
    let linked = c.args.linked.now in
    rw (c.as_slice-joining.ensures, c.as_slice-3.ensures) (all_fit (linkage_with c.args.standing.now.process.now linked.joining linked.scope) linked.joining linked.values c.requires.values)

pub parts-requires-clause-flags : goal.parts-requires-clause-flags
parts-requires-clause-flags c = rw c.as_slice-joining.ensures c.requires.flags

pub returns : goal.returns
returns c =
    let linked = c.args.linked.now in
    let p = c.args.standing.now.process.now in
    let l = linkage_with p linked.joining linked.scope in
    let made = rw (c.as_slice-joining.ensures, c.as_slice-3.ensures, c.new-places.ensures, c.in_ok-descriptors.ensures, c.as_slice-2.ensures, c.as_slice.ensures, c.as_slice-adopted.ensures) at c.parts.ensures in
    IfOk-weaker c.parts.result _ _
    (λ parts all lazy flags. finished_by l p lazy linked.joining (record {
      maps = c.args.layout.now.maps;
      gots = c.deref.result.now;
      descriptors = record { had = c.args.pool.now.addrs; privates = c.args.layout.now.adopted; given = c.args.layout.now.given };
    }) parts c.requires.modules (below_of p linked.joining c.requires.new.free) (c.deref.ensures.value ∙ rw c.as_slice-joining.ensures at c.in_ok-gots.ensures) (all l lazy c.requires.values flags))
    made
