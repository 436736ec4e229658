use Rattle.std.proofs.Common.{ℕ, ◌+◌, ◌%◌, ◌∙◌, refl, ap, sym, get_or, subst}
use Rattle.a32_asm.specs.SecondPass.{put_of, with_put}
use Rattle.a32_asm.specs.Shown.{shown_statement}
use Rattle.a32_asm.specs.parts.Fits.{AreInside}
use Rattle.a32_asm.proofs.Passing.{none, are_inside, at_first, place_at, more_at}
use Rattle.a32_asm.proofs.second_pass.second_pass.Goals as goal

pub loop-said-init : goal.loop-said-init
loop-said-init c = record {
  number = refl;
  left = at_first c.args.passed.now c.known-known.result.now c.new-spot.result c.in-Ok.contents c.saids-saids.result.now c.requires.passed c.saids-saids.ensures c.new-spot.ensures.here c.new-spot.ensures.sizes c.in-Ok.ensures;
}

pub add-requires-clause-there : goal.add-requires-clause-there
add-requires-clause-there c = subst AreInside (sym c.known-known.ensures) (are_inside c.args.passed.now c.requires.passed)

pub add-requires-clause-fit : goal.add-requires-clause-fit
add-requires-clause-fit c = (place_at _ _ _ _ c.saids-saids.result.now c.loop-said.said-index _ c.loop-said-test.true c.loop-said.invariant.left).fit

pub add-requires-clause-aligned : goal.add-requires-clause-aligned
add-requires-clause-aligned c =
    λ word. ap (λ (n : ℕ). n % 4) c.offset.ensures ∙ (place_at _ _ _ _ c.saids-saids.result.now c.loop-said.said-index _ c.loop-said-test.true c.loop-said.invariant.left).aligned word

pub pass-requires-clause-fit : goal.pass-requires-clause-fit
pass-requires-clause-fit c = (place_at _ _ _ _ c.saids-saids.result.now c.loop-said.said-index _ c.loop-said-test.true c.loop-said.invariant.left).fit

pub pass-requires-clause-room : goal.pass-requires-clause-room
pass-requires-clause-room c = (place_at _ _ _ _ c.saids-saids.result.now c.loop-said.said-index _ c.loop-said-test.true c.loop-said.invariant.left).room

pub loop-said-preserved : goal.loop-said-preserved
loop-said-preserved c =
    let here = c.loop-said.spot.here in
    let statement = shown_statement (get_or c.saids-saids.result.now c.loop-said.said-index none).statement in
    let put = ap (λ (offset : ℕ). with_put here offset c.loop-said.contents (put_of c.known-known.result.now here offset statement)) (sym c.offset.ensures) ∙ c.in-Ok-add.ensures in
    record {
      number = ap (λ (n : ℕ). n + 1) c.loop-said.invariant.number;
      left = more_at _ _ _ _ c.saids-saids.result.now c.loop-said.said-index _ c.loop-said-test.true c.loop-said.invariant.left c.add.new.self c.pass.new.self put c.pass.ensures.here c.pass.ensures.sizes;
    }
