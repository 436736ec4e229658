use Rattle.std.proofs.Common.{ℕ, ◌<◌, length, sym, ap, subst, ◌∙◌, arith, All}
use Rattle.std.proofs.lemmas.List.{length-map}
use Rattle.load_model.specs.declared.module.Joining.{Joining}
use Rattle.load_model.specs.Linkage.{linkage_with}
use Rattle.load_model.specs.Unbound.{unbound_at_first}
use Rattle.std.proofs.lemmas.Result.{err_from_is_err_and}
use Rattle.load_plan.specs.parts.Layout.{loaded_by}
use Rattle.load_plan.proofs.SiteRoom.{all_fit, values_count}
use Rattle.load_plan.proofs.WalkedModules.{below_of, few_joining, sound_of}
use Rattle.load_plan.proofs.LaidSegments.{maps_of}
use Rattle.load_plan.proofs.PlanSteps.{planned, unlaid}
use Rattle.load_plan.proofs.LinkRefusals.{told_refused}
use Rattle.load_plan.proofs.planning.plan_group.Goals as goal

pub returns-in_err-linked-clause-error : goal.returns-in_err-linked-clause-error
returns-in_err-linked-clause-error g c =
    let p = err_from_is_err_and c.from_residual.result c.from_residual.ensures.1 in
    rw (p.1, p.2)
    (told_refused (loaded_by c.args.standing.now c.args.ranges.now c.args.pool.now) (g.S.Store.files c.args.store.now) c.args.request.now.root.now _ _ _ c.in_err-linked.ensures.error)

pub lay_out-requires-clause-few : goal.lay_out-requires-clause-few
lay_out-requires-clause-few g c = few_joining _ _ _ _ _ c.in_ok-linked.ensures.linked.scoped

pub returns-in_err-layout-clause-error : goal.returns-in_err-layout-clause-error
returns-in_err-layout-clause-error g c =
    let p = err_from_is_err_and c.from_residual-in_err-layout.result c.from_residual-in_err-layout.ensures.1 in
    rw (p.1, p.2)
    (unlaid c.args.standing.now c.args.ranges.now c.args.pool.now (g.S.Store.files c.args.store.now) c.args.request.now.root.now c.in_ok-linked.linked _ _ _
    c.requires.standing.roomy c.in_ok-linked.ensures.linked c.in_err-layout.ensures.error)

pub finished-requires-clause-mapped : goal.finished-requires-clause-mapped
finished-requires-clause-mapped g c =
    let s = c.args.standing.now in
    let space = c.args.ranges.now in
    let linked = c.in_ok-linked.linked in
    let laid = c.in_ok-layout.ensures.laid in
    let new = c.in_ok-linked.ensures.linked.new in
    let below = rw (sym c.requires.standing.roomy.maps') at (below_of s.process.now linked.joining new.free) in
    rw laid.maps' (maps_of space.low space.high s.plan.now.places linked.joining s.maps.now space.held c.in_ok-layout.layout.addrs new.own below (rw laid.items' at laid.placed'))

pub returns-clause-plan : goal.returns-clause-plan
returns-clause-plan g c =
    let linked = c.in_ok-linked.linked in
    let told = rw (c.as_slice-4.ensures, c.as_slice-5.ensures) at c.in_ok-targets.ensures in
    let targets = told (linkage_with c.args.standing.now.process.now linked.joining linked.scope) c.in_ok-linked.ensures.linked.values' in
    planned c.args.standing.now c.args.ranges.now c.args.pool.now (g.S.Store.files c.args.store.now) c.args.request.now.root.now
    (record { global = c.args.request.now.global; lazy = c.args.request.now.lazy }) c.in_ok-linked.linked c.in_ok-layout.layout c.in_ok-unbound.unbound
    c.in_ok-targets.targets c.in_ok-exported.exported c.in_ok-global.global c.in_ok-parts.parts c.requires.standing.roomy c.in_ok-linked.ensures.linked c.in_ok-layout.ensures.laid
    (rw c.as_slice.ensures at c.in_ok-unbound.ensures) targets (rw c.as_slice-6.ensures at c.in_ok-exported.ensures.taken) (rw c.as_slice-3.ensures at c.in_ok-global.ensures)
    (c.in_ok-parts.ensures c.args.request.now.lazy (c.as_slice-2.ensures ∙ rw c.as_slice.ensures at c.in_ok-unbound.ensures))

-- there are flags for each new module
pub finished-requires-clause-flags : goal.finished-requires-clause-flags
finished-requires-clause-flags g c =
    let linked = c.in_ok-linked.linked in
    ap length (c.as_slice-2.ensures ∙ rw c.as_slice.ensures at c.in_ok-unbound.ensures) ∙ length-map linked.joining (λ (j : Joining). unbound_at_first c.args.request.now.lazy j.object)

pub flags-requires : goal.flags-requires
flags-requires g c = rw c.as_slice.ensures c.in_ok-linked.ensures.linked.new.taken

-- ---- the functions of the new modules' slots

pub targets-requires-clause-sound : goal.targets-requires-clause-sound
targets-requires-clause-sound g c = rw c.as_slice-4.ensures (sound_of c.in_ok-linked.linked.joining c.in_ok-linked.ensures.linked.new.taken)

pub targets-requires-clause-count : goal.targets-requires-clause-count
targets-requires-clause-count g c =
    let linked = c.in_ok-linked.linked in
    rw (c.as_slice-4.ensures, c.as_slice-5.ensures)
    (values_count (linkage_with c.args.standing.now.process.now linked.joining linked.scope) linked.joining linked.values c.in_ok-linked.ensures.linked.values')

pub targets-requires-clause-fit : goal.targets-requires-clause-fit
targets-requires-clause-fit g c =
    let linked = c.in_ok-linked.linked in
    rw (c.as_slice-4.ensures, c.as_slice-5.ensures)
    (all_fit (linkage_with c.args.standing.now.process.now linked.joining linked.scope) linked.joining linked.values c.in_ok-linked.ensures.linked.values')

-- ---- the tables of the new modules

pub take_all-requires-clause-numbers : goal.take_all-requires-clause-numbers
take_all-requires-clause-numbers g c = rw c.as_slice-6.ensures c.in_ok-linked.ensures.linked.new.own

pub take_all-requires-clause-free : goal.take_all-requires-clause-free
take_all-requires-clause-free g c = rw c.as_slice-6.ensures c.in_ok-linked.ensures.linked.new.free

pub take_all-requires-clause-each : goal.take_all-requires-clause-each
take_all-requires-clause-each g c = rw c.as_slice-6.ensures c.in_ok-linked.ensures.each

pub returns-clause-tables_room : goal.returns-clause-tables_room
returns-clause-tables_room g c =
    subst (λ (n : ℕ). All (λ (j : Joining). j.number < n) c.in_ok-linked.linked.joining) (sym c.in_ok-exported.ensures.room) c.in_ok-linked.ensures.room

pub returns-in_err-exported-clause-tables_grow : goal.returns-in_err-exported-clause-tables_grow
returns-in_err-exported-clause-tables_grow g c = omega (arith, c.in_ok-linked.ensures.grows, c.in_err-exported.ensures.room)

pub returns-clause-tables_grow : goal.returns-clause-tables_grow
returns-clause-tables_grow g c = omega (arith, c.in_ok-linked.ensures.grows, c.in_ok-exported.ensures.room)
