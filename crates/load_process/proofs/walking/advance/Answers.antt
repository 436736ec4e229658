use Rattle.std.proofs.Common.{◌≡◌, suc, ◌+◌, ◌∷◌, ◌++◌, [], Some, sym, ◌∙◌, subst, arith}
use Rattle.std.proofs.lemmas.Option.{same_Some}
use Rattle.std.proofs.lemmas.Result.{err_from_is_err_and}
use Rattle.load_model.specs.Walk.{IsWalkRefused}
use Rattle.load_process.specs.parts.WalkSteps.{IsLookRefused, IsNumbered}
use Rattle.load_process.proofs.WalkSteps.{numbered_more, needed_twice}
use Rattle.load_process.proofs.WalkEnds.{look_refused, explains_more}
use Rattle.load_process.proofs.walking.advance.Goals as goal

pub returns-in_err-number-clause-error : goal.returns-in_err-number-clause-error
returns-in_err-number-clause-error g c =
    let names = c.args.steps.now.names.keys in
    let e = c.name_at.ensures in
    let p = err_from_is_err_and c.from_residual.result c.from_residual.ensures.1 in
    rw (p.1, p.2)
    (λ root w. explains_more
    (IsLookRefused c.args.process.now (g.S.Store.files c.args.store.now) c.name_at.result.now c.args.steps.now.joining)
    (IsWalkRefused c.args.process.now (g.S.Store.files c.args.store.now) root) _ _ _
    (λ r why. look_refused _ _ root c.args.steps.now.next c.args.steps.now.joining names c.name_at.result.now r w.walked e why)
    c.in_err-number.ensures.error)

pub returns-clause-numbered : goal.returns-clause-numbered
returns-clause-numbered g c =
    let names = c.args.steps.now.names.keys in
    let name = c.name_at.result.now in
    let after = c.look_at.new.joining in
    let e = c.name_at.ensures in
    let again = c.name_at-name.result.now in
    let same : again ≡ name = same_Some again name (sym c.name_at-name.ensures ∙ e) in
    let found = needed_twice c.args.process.now c.as_slice.result.now after again name names c.needed_by-needed.result.now c.add_new.new.names.keys c.needed_by-needed.ensures
    c.as_slice.ensures same c.in_ok-add_new.ensures in
    let pushed : c.push.new.self ≡ c.args.steps.now.members ++ c.in_ok-number.number ∷ [] = rw c.in_ok-push.was at c.push.ensures in
    let one : suc c.args.steps.now.next ≡ c.args.steps.now.next + 1 = omega arith in
    λ root w.
    let more = numbered_more c.args.process.now (g.S.Store.files c.args.store.now) root c.args.steps.now.next c.args.steps.now.joining after names c.add_new.new.names.keys c.args.steps.now.members name
    c.in_ok-number.number w e c.in_ok-number.ensures.looked found in
    subst (λ n. IsNumbered c.args.process.now (g.S.Store.files c.args.store.now) root n after c.add_new.new.names.keys c.push.new.self) one
    (subst (IsNumbered c.args.process.now (g.S.Store.files c.args.store.now) root (suc c.args.steps.now.next) after c.add_new.new.names.keys) (sym pushed) more)
