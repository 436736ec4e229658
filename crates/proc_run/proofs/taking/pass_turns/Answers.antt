use Rattle.std.proofs.Common.{◌≡◌, Option, None, Ok, refl, subst, arith, rules}
use Rattle.std.proofs.lemmas.Bool.{le-leb}
use Rattle.run_model.specs.declared.service.Served.{Served}
use Rattle.run_turn.specs.parts.Remainder.{state_with}
use Rattle.proc_run.proofs.SettledTurns.{at_limit, kept, known_on}
use Rattle.proc_run.proofs.PassedTurns.{Obeys, all_quiet, few_quiet, fewer_quiet, one_quiet, one_told}
use Rattle.proc_run.proofs.taking.pass_turns.Goals as goal

pub returns-then-steps-limit-clause-taken : goal.returns-then-steps-limit-clause-taken
returns-then-steps-limit-clause-taken c = record {
  count = 0;
  mid = state_with c.args.loader.now.loaded c.args.threads.now c.args.steps.now;
  taken = omega (arith, c.requires.some);
  quiet' = refl;
  turn =
      at_limit {E = Unit {0}} c.args.limit c.args.loader.now.loaded c.args.threads.now c.args.steps.now c.args.t (Ok c.in_ok-last.last) c.requires.lives
      (le-leb c.args.limit c.args.steps.now c.if-steps-limit.true) c.in_ok-last.ensures;
}

pub overflow_add-steps : goal.overflow_add-steps
overflow_add-steps c =
    omega (
      arith,
      c.min-most.ensures,
      c.if-steps-limit.false,
      c.requires.some,
      few_quiet c.args.limit c.args.t c.min-most.result c.args.left.now c.args.loader.now.loaded c.obeyed_on.new.loader.loaded c.args.threads.now c.obeyed_on.new.threads c.args.steps.now
          c.in_ok-passed.passed.quiet c.args.lookups.now c.requires.lives c.requires.known (omega (arith, c.min-most.ensures, c.if-steps-limit.false, c.requires.some)) (omega (arith, c.min-most.ensures, c.if-steps-limit.false)) (omega (arith, c.min-most.ensures))
          c.in_ok-passed.passed.last c.in_ok-passed.ensures.obeyed,
    )

pub overflow_sub-left-2 : goal.overflow_sub-left-2
overflow_sub-left-2 c =
    omega (
      arith,
      c.min-most.ensures,
      few_quiet c.args.limit c.args.t c.min-most.result c.args.left.now c.args.loader.now.loaded c.obeyed_on.new.loader.loaded c.args.threads.now c.obeyed_on.new.threads c.args.steps.now
          c.in_ok-passed.passed.quiet c.args.lookups.now c.requires.lives c.requires.known (omega (arith, c.min-most.ensures, c.if-steps-limit.false, c.requires.some)) (omega (arith, c.min-most.ensures, c.if-steps-limit.false)) (omega (arith, c.min-most.ensures))
          c.in_ok-passed.passed.last c.in_ok-passed.ensures.obeyed,
    )

pub returns-in_default-clause-taken : goal.returns-in_default-clause-taken
returns-in_default-clause-taken c =
    let none : c.in_ok-passed.passed.last ≡ None = first_of (cc, search rules) in
    all_quiet c.args.limit c.args.t c.min-most.result c.args.left.now c.args.loader.now.loaded c.obeyed_on.new.loader.loaded c.args.threads.now c.obeyed_on.new.threads c.args.steps.now
    c.in_ok-passed.passed.quiet c.args.lookups.now c.requires.lives c.requires.known (omega (arith, c.min-most.ensures, c.if-steps-limit.false, c.requires.some)) (omega (arith, c.min-most.ensures, c.if-steps-limit.false)) (omega (arith, c.min-most.ensures))
    (subst (λ (o : Option Served). Obeys c.args.lookups.now c.min-most.result c.args.loader.now.loaded c.obeyed_on.new.loader.loaded c.args.threads.now c.obeyed_on.new.threads c.args.t c.in_ok-passed.passed.quiet o) none c.in_ok-passed.ensures.obeyed)

pub returns-in_default-clause-consistent : goal.returns-in_default-clause-consistent
returns-in_default-clause-consistent c =
    kept c.args.loader.now.loaded c.obeyed_on.new.loader.loaded c.requires.consistent c.in_ok-passed.ensures.keeps c.in_ok-passed.ensures.rest

pub returns-then-is_quiet-clause-consistent : goal.returns-then-is_quiet-clause-consistent
returns-then-is_quiet-clause-consistent c =
    kept c.args.loader.now.loaded c.obeyed_on.new.loader.loaded c.requires.consistent c.in_ok-passed.ensures.keeps c.in_ok-passed.ensures.rest

pub returns-clause-consistent : goal.returns-clause-consistent
returns-clause-consistent c =
    kept c.args.loader.now.loaded c.obeyed_on.new.loader.loaded c.requires.consistent c.in_ok-passed.ensures.keeps c.in_ok-passed.ensures.rest

pub overflow_sub-left-3 : goal.overflow_sub-left-3
overflow_sub-left-3 c =
    omega (
      arith,
      c.ranges.limit,
      c.min-most.ensures,
      c.if-steps-limit.false,
      fewer_quiet c.args.limit c.args.t c.min-most.result c.args.left.now c.args.loader.now.loaded c.obeyed_on.new.loader.loaded c.args.threads.now c.obeyed_on.new.threads c.args.steps.now
          c.in_ok-passed.passed.quiet c.args.lookups.now c.requires.lives c.requires.known (omega (arith, c.min-most.ensures, c.if-steps-limit.false, c.requires.some)) (omega (arith, c.min-most.ensures, c.if-steps-limit.false)) (omega (arith, c.min-most.ensures))
          c.in-Some.served
          (subst (λ (o : Option Served). Obeys c.args.lookups.now c.min-most.result c.args.loader.now.loaded c.obeyed_on.new.loader.loaded c.args.threads.now c.obeyed_on.new.threads c.args.t c.in_ok-passed.passed.quiet o) c.in-Some.is c.in_ok-passed.ensures.obeyed),
    )

pub overflow_add-steps-then-is_quiet : goal.overflow_add-steps-then-is_quiet
overflow_add-steps-then-is_quiet c =
    omega (
      arith,
      c.ranges.limit,
      c.min-most.ensures,
      c.if-steps-limit.false,
      fewer_quiet c.args.limit c.args.t c.min-most.result c.args.left.now c.args.loader.now.loaded c.obeyed_on.new.loader.loaded c.args.threads.now c.obeyed_on.new.threads c.args.steps.now
          c.in_ok-passed.passed.quiet c.args.lookups.now c.requires.lives c.requires.known (omega (arith, c.min-most.ensures, c.if-steps-limit.false, c.requires.some)) (omega (arith, c.min-most.ensures, c.if-steps-limit.false)) (omega (arith, c.min-most.ensures))
          c.in-Some.served
          (subst (λ (o : Option Served). Obeys c.args.lookups.now c.min-most.result c.args.loader.now.loaded c.obeyed_on.new.loader.loaded c.args.threads.now c.obeyed_on.new.threads c.args.t c.in_ok-passed.passed.quiet o) c.in-Some.is c.in_ok-passed.ensures.obeyed),
    )

pub settle-requires-clause-small : goal.settle-requires-clause-small
settle-requires-clause-small c =
    omega (
      arith,
      c.ranges.limit,
      c.min-most.ensures,
      c.if-steps-limit.false,
      fewer_quiet c.args.limit c.args.t c.min-most.result c.args.left.now c.args.loader.now.loaded c.obeyed_on.new.loader.loaded c.args.threads.now c.obeyed_on.new.threads c.args.steps.now
          c.in_ok-passed.passed.quiet c.args.lookups.now c.requires.lives c.requires.known (omega (arith, c.min-most.ensures, c.if-steps-limit.false, c.requires.some)) (omega (arith, c.min-most.ensures, c.if-steps-limit.false)) (omega (arith, c.min-most.ensures))
          c.in-Some.served
          (subst (λ (o : Option Served). Obeys c.args.lookups.now c.min-most.result c.args.loader.now.loaded c.obeyed_on.new.loader.loaded c.args.threads.now c.obeyed_on.new.threads c.args.t c.in_ok-passed.passed.quiet o) c.in-Some.is c.in_ok-passed.ensures.obeyed),
    )

pub returns-then-is_quiet-clause-taken : goal.returns-then-is_quiet-clause-taken
returns-then-is_quiet-clause-taken c =
    one_quiet c.args.limit c.args.t c.min-most.result c.args.left.now c.args.loader.now.loaded c.obeyed_on.new.loader.loaded c.args.threads.now c.obeyed_on.new.threads c.args.steps.now
    c.in_ok-passed.passed.quiet c.args.lookups.now c.requires.lives c.requires.known (omega (arith, c.min-most.ensures, c.if-steps-limit.false, c.requires.some)) (omega (arith, c.min-most.ensures, c.if-steps-limit.false)) (omega (arith, c.min-most.ensures))
    c.stops_keep.ensures c.in-Some.served c.process.result.now c.maps.result.now c.process.ensures c.maps.ensures
    (subst (λ (o : Option Served). Obeys c.args.lookups.now c.min-most.result c.args.loader.now.loaded c.obeyed_on.new.loader.loaded c.args.threads.now c.obeyed_on.new.threads c.args.t c.in_ok-passed.passed.quiet o) c.in-Some.is c.in_ok-passed.ensures.obeyed)
    (c.is_quiet.ensures.quiet c.if-is_quiet.true)

pub returns-clause-taken : goal.returns-clause-taken
returns-clause-taken c =
    one_told c.args.limit c.args.t c.min-most.result c.args.left.now c.args.loader.now.loaded c.obeyed_on.new.loader.loaded c.args.threads.now c.obeyed_on.new.threads c.args.steps.now
    c.in_ok-passed.passed.quiet c.args.lookups.now c.requires.lives c.requires.known (omega (arith, c.min-most.ensures, c.if-steps-limit.false, c.requires.some)) (omega (arith, c.min-most.ensures, c.if-steps-limit.false)) (omega (arith, c.min-most.ensures))
    c.stops_keep.ensures c.in-Some.served c.process.result.now c.maps.result.now c.process.ensures c.maps.ensures
    (subst (λ (o : Option Served). Obeys c.args.lookups.now c.min-most.result c.args.loader.now.loaded c.obeyed_on.new.loader.loaded c.args.threads.now c.obeyed_on.new.threads c.args.t c.in_ok-passed.passed.quiet o) c.in-Some.is c.in_ok-passed.ensures.obeyed)
    c.settle.new.threads c.settle.new.steps c.in_ok-settled.settled c.in_ok-settled.ensures.taken

pub returns-in_default-clause-known : goal.returns-in_default-clause-known
returns-in_default-clause-known c =
    known_on c.args.loader.now.loaded c.obeyed_on.new.loader.loaded c.obeyed_on.new.lookups c.in_ok-passed.ensures.rest (c.in_ok-passed.ensures.known _ _ c.requires.known)

pub is_quiet-requires-clause-known : goal.is_quiet-requires-clause-known
is_quiet-requires-clause-known c =
    rw (c.process.ensures, c.maps.ensures) (known_on c.args.loader.now.loaded c.obeyed_on.new.loader.loaded c.obeyed_on.new.lookups c.in_ok-passed.ensures.rest (c.in_ok-passed.ensures.known _ _ c.requires.known))

pub returns-in_err-passed-clause-known : goal.returns-in_err-passed-clause-known
returns-in_err-passed-clause-known c =
    known_on c.args.loader.now.loaded c.obeyed_on.new.loader.loaded c.obeyed_on.new.lookups c.obeyed_on.ensures.rest (c.obeyed_on.ensures.known _ _ c.requires.known)
