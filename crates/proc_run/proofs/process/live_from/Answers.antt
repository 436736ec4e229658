use Rattle.std.proofs.Common.{◌≡◌, ℕ, ◌+◌, ◌%◌, None, length, sym, subst, ◌∙◌, true, false, add-one, arith}
use Rattle.std.specs.Prelude.{find, map}
use Rattle.std.specs.List.{range_with_len}
use Rattle.run_model.specs.State.{lives}
use Rattle.proc_run.proofs.FirstLive.{first_is, none_next}
use Rattle.proc_run.proofs.process.live_from.Goals as goal

abbrev place : ℕ → ℕ → ℕ → ℕ
place count t i = (t + i) % count

pub returns-then-lives : goal.returns-then-lives
returns-then-lives c =
    let count = length c.args.threads.now in
    let passes : lives c.args.threads.now (place count c.args.t c.loop-i.i) ≡ true = sym c.lives.ensures ∙ c.if-lives.true in
    sym (first_is (lives c.args.threads.now) (place count c.args.t) c.loop-i.i count c.loop-i.invariant passes c.loop-i-test.true)

pub returns : goal.returns
returns c =
    let count = length c.args.threads.now in
    let end : c.loop-i.i ≡ count = omega arith in
    sym (subst (λ (n : ℕ). find (lives c.args.threads.now) (map (place count c.args.t) (range_with_len 0 n)) ≡ None) end c.loop-i.invariant)

pub loop-i-preserved : goal.loop-i-preserved
loop-i-preserved c =
    let count = length c.args.threads.now in
    let fails : lives c.args.threads.now (place count c.args.t c.loop-i.i) ≡ false = sym c.lives.ensures ∙ c.if-lives.false in
    rw (add-one c.loop-i.i) (none_next (lives c.args.threads.now) (place count c.args.t) c.loop-i.i c.loop-i.invariant fails)
