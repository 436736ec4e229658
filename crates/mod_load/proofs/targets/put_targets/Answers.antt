use Rattle.std.proofs.Common.{◌≡◌, suc, ◌<◌, length, length-set, refl, sym, ap, subst, ◌∙◌, arith}
use Rattle.load_model.specs.declared.module.Joining.{Joining}
use Rattle.load_plan.proofs.MadeLists.{next_made}
use Rattle.mod_load.proofs.KeptTargets.{keep_all, keep_next, keep_none}
use Rattle.mod_load.proofs.targets.put_targets.Goals as goal

pub loop-new-init : goal.loop-new-init
loop-new-init c =
    let taken = c.into_iter-left.ensures.rest ∙ c.into_vec.ensures in
    record {
      kept = λ own made. record { put = keep_none own c.args.targets.now.items; left = taken ∙ made };
      size = refl;
      count = omega (arith, ap length taken, c.requires.count);
    }

pub unreachable-requires : goal.unreachable-requires
unreachable-requires c =
    let none : c.loop-new.left.rest.len ≡ 0 = c.in_default.ensures.cases.0 in
    omega (arith, none, c.loop-new.left.rest.ok.0, c.loop-new.invariant.count, c.loop-new-test.true)

pub put_own-requires : goal.put_own-requires
put_own-requires c =
    let new = c.new-item.result in
    let small : new.number < length c.args.targets.now.items =
    subst (λ (j : Joining). j.number < length c.args.targets.now.items) (sym c.new-item.is) (c.requires.places c.loop-new.new-index new c.loop-new-test.true) in
    omega (arith, small, c.loop-new.invariant.size)

pub loop-new-preserved : goal.loop-new-preserved
loop-new-preserved c =
    let joining = c.args.joining.now in
    let k = c.loop-new.new-index in
    let new = c.new-item.result in
    record {
      kept = λ own made.
          let before = c.loop-new.invariant.kept own made in
          let next = next_made own joining k new _ _ _ c.loop-new-test.true c.new-item.is before.left c.in-Some.ensures.items in
          record {
            put = keep_next own joining k new c.in-Some.own c.args.targets.now.items c.loop-new.targets.items _ c.requires.numbers c.requires.places c.loop-new-test.true c.new-item.is
                next.0 c.put_own.ensures before.put;
            left = next.1;
          };
      size = ap length c.put_own.ensures ∙ length-set c.loop-new.targets.items new.number c.in-Some.own ∙ c.loop-new.invariant.size;
      count =
          let one : length c.loop-new.left.rest.items ≡ suc (length c.next.new.self.rest.items) = ap length c.in-Some.ensures.items in
          omega (arith, one, c.loop-new.invariant.count);
    }

pub returns : goal.returns
returns c = λ own made.
    keep_all own c.args.joining.now c.loop-new.new-index c.args.targets.now.items c.loop-new.targets.items c.loop-new-test.false (c.loop-new.invariant.kept own made).put
