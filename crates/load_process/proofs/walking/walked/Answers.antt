use Rattle.std.proofs.Common.{◌≡◌, ◌+◌, ◌≤◌, length, subst, sym, arith, refl}
use Rattle.std.proofs.lemmas.List.Elements.{All-nil}
use Rattle.load_process.specs.parts.TakenObjects.{IsTaken}
use Rattle.symbol_scope.specs.declared.tables.TheConstants.{MAX_MODULES}
use Rattle.load_model.specs.declared.module.Joining.{Joining}
use Rattle.load_process.specs.parts.WalkSteps.{IsNumbered}
use Rattle.load_process.proofs.WalkSteps.{numbered_start}
use Rattle.load_process.proofs.WalkNumbers.{few_members}
use Rattle.load_process.proofs.walking.walked.Goals as goal

pub loop-steps-init : goal.loop-steps-init
loop-steps-init g c = record {
  numbered = rw (c.new.ensures, c.new-2.ensures, c.in_ok-names.ensures) (numbered_start c.args.process.now (g.S.Store.files c.args.store.now) c.args.root.now);
  sound = rw c.new.ensures (All-nil (λ (j : Joining). IsTaken j.object));
  files = refl;
  count = omega arith;
}

pub loop-steps-smaller : goal.loop-steps-smaller
loop-steps-smaller g c =
    let p = c.args.process.now in
    let names = c.loop-steps.steps.names.keys in
    let now = subst (λ f. IsNumbered p f c.args.root.now c.loop-steps.steps.next c.loop-steps.steps.joining names c.loop-steps.steps.members) (sym c.loop-steps.invariant.files) c.loop-steps.invariant.numbered in
    let more = c.in_ok-advance.ensures.numbered c.args.root.now now in
    let few : c.loop-steps.steps.next + 1 ≤ MAX_MODULES = few_members p (g.S.Store.files c.loop-steps.store) c.args.root.now _ _ _ _ c.requires.sizes more in
    omega (arith, few, c.in_ok-advance.ensures.next)

pub returns-clause-walk : goal.returns-clause-walk
returns-clause-walk g c =
    let names = c.loop-steps.steps.names.keys in
    let numbered = c.loop-steps.invariant.numbered in
    let all : c.loop-steps.steps.next ≡ length names = omega (arith, c.len.ensures.len, c.loop-steps-test.false, numbered.walked.looked) in
    let whole = subst
    (λ n. IsNumbered c.args.process.now (g.S.Store.files c.args.store.now) c.args.root.now n c.loop-steps.steps.joining names c.loop-steps.steps.members) all
    numbered in
    (names, whole)
