use Rattle.std.proofs.Common.{◌≡◌, ◌+◌, ◌<◌, Some, length, take, refl, sym, ap, subst, ◌∙◌, arith}
use Rattle.std.specs.Prelude.{slice_set}
use Rattle.symbol_scope.specs.declared.table.Table.{Table}
use Rattle.symbol_scope.specs.parts.Slots.{Slots}
use Rattle.symbol_scope.specs.Table.{table_of}
use Rattle.load_model.specs.declared.module.Joining.{Joining}
use Rattle.load_plan.specs.parts.Tables.{ArePut}
use Rattle.load_plan.proofs.MadeLists.{next_made, some_made}
use Rattle.load_plan.proofs.TableSteps.{put_all, put_next, put_none}
use Rattle.mod_load.proofs.tables.put_tables.Goals as goal

pub loop-new-init : goal.loop-new-init
loop-new-init c = record {
  put = put_none c.args.tables.now.slots;
  room = refl;
  left = c.into_iter-left.ensures.rest ∙ c.into_vec.ensures ∙ c.requires.made;
}

pub unreachable-requires : goal.unreachable-requires
unreachable-requires c =
    let none : c.loop-new.left.rest.len ≡ 0 = c.in_default.ensures.cases.0 in
    let some : 0 < length c.loop-new.left.rest.items =
    some_made (λ (j : Joining). table_of j.name j.object) c.args.joining.now c.loop-new.new-index c.loop-new.left.rest.items c.loop-new-test.true c.loop-new.invariant.left in
    omega (arith, none, some, c.loop-new.left.rest.ok.0)

pub put-requires : goal.put-requires
put-requires c =
    let new = c.new-item.result in
    let small : new.number < c.args.tables.now.room =
    subst (λ (j : Joining). j.number < c.args.tables.now.room) (sym c.new-item.is) (c.requires.room c.loop-new.new-index new c.loop-new-test.true) in
    omega (arith, small, c.loop-new.invariant.room)

pub loop-new-preserved : goal.loop-new-preserved
loop-new-preserved c =
    let joining = c.args.joining.now in
    let k = c.loop-new.new-index in
    let new = c.new-item.result in
    let old = c.args.tables.now.slots in
    let next = next_made (λ (j : Joining). table_of j.name j.object) joining k new _ _ _ c.loop-new-test.true c.new-item.is c.loop-new.invariant.left c.in-Some.ensures.items in
    let step = c.put.ensures.put ∙ ap (λ (table : Table). slice_set c.loop-new.tables.slots new.number (Some table)) next.0 in
    record {
      put = subst (λ (slots : Slots). ArePut (take (k + 1) joining) old slots) (sym step)
          (put_next joining k new old c.loop-new.tables.slots c.requires.numbers c.requires.places c.loop-new-test.true c.new-item.is c.loop-new.invariant.put);
      room = c.put.ensures.room ∙ c.loop-new.invariant.room;
      left = next.1;
    }

pub returns : goal.returns
returns c =
    put_all c.args.joining.now c.loop-new.new-index c.args.tables.now.slots c.loop-new.tables.slots c.loop-new-test.false c.loop-new.invariant.put
