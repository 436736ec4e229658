use Rattle.std.proofs.Common.{◌+◌, length, sym, ap, ◌∙◌, subst}
use Rattle.link_checks.proofs.Numbers.{AreFirst, first_seen, first_unseen}
use Rattle.link_checks.proofs.shown.Shown.among.Goals as goal
use Rattle.link_checks.proofs.shown.Shown.among.Goals.{then-is_shown+in_ok-push+in_ok-push-2, else-is_shown+in_ok-push-3}

pub loop-target-preserved : goal.loop-target-preserved
loop-target-preserved c = elim c.if-is_shown.branch [
  | then-is_shown+in_ok-push+in_ok-push-2 w ↦
      first_seen c.args.all.now c.requires.named c.loop-target.target-index _ c.loop-target-test.true c.loop-target.targets c.loop-target.numbers c.loop-target.invariant c.if-is_shown.targets c.if-is_shown.numbers _
      (sym c.is_shown.ensures ∙ w.if-is_shown.true) (w.targets-is ∙ w.in_ok-push.ensures) (w.len.ensures ∙ ap length (sym w.targets-is)) (w.numbers-is ∙ w.in_ok-push-2.ensures)
  | else-is_shown+in_ok-push-3 w ↦
      subst (λ ts. AreFirst c.args.all.now (c.loop-target.target-index + 1) ts c.if-is_shown.numbers) (sym w.targets-is)
      (first_unseen c.args.all.now c.requires.named c.loop-target.target-index _ c.loop-target-test.true c.loop-target.targets c.loop-target.numbers c.loop-target.invariant c.if-is_shown.numbers
      (sym c.is_shown.ensures ∙ w.if-is_shown.false) (w.numbers-is ∙ w.in_ok-push-3.ensures))
]
