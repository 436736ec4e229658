use Rattle.std.proofs.Common.{arith}
use Rattle.placement.specs.declared.item.Held.{Held}
use Rattle.placement.proofs.Rising.{passed_more, apart_here, apart_passed, passes_next, max_congruent}
use Rattle.placement.proofs.search.least_apart.Goals as goal

pub returns-then-at-from-clause-apart : goal.returns-then-at-from-clause-apart
returns-then-at-from-clause-apart c =
    let none : Held = record { owner = 0; start = 0; len = 0 } in
    apart_here c.loop-range.at c.args.len c.args.held.now c.loop-range.range-index none c.requires.rising c.loop-range-test.true (omega arith) c.loop-range.invariant.passed

pub loop-range-preserved : goal.loop-range-preserved
loop-range-preserved c =
    let none : Held = record { owner = 0; start = 0; len = 0 } in
    record {
      small = omega arith;
      above = omega arith;
      congruent = rw c.max-at.ensures (max_congruent c.loop-range.at c.align_up.result c.args.unit c.args.residue c.loop-range.invariant.congruent c.align_up.ensures.congruent);
      passed = passed_more c.loop-range.at c.max-at.result c.args.held.now c.loop-range.range-index none c.loop-range-test.true (omega arith) (omega arith) c.loop-range.invariant.passed;
      least = λ b above congruent apart.
          let at = c.loop-range.invariant.least b above congruent apart in
          let end = passes_next c.loop-range.at b c.args.len c.args.held.now c.loop-range.range-index none c.loop-range-test.true (omega arith) at apart in
          omega (arith, c.align_up.ensures.least b (omega arith) congruent);
    }

pub returns-clause-apart : goal.returns-clause-apart
returns-clause-apart c = apart_passed c.loop-range.at c.args.len c.args.held.now c.loop-range.range-index c.loop-range-test.false c.loop-range.invariant.passed
