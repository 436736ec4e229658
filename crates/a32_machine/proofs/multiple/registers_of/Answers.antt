use Rattle.std.proofs.Common.{length, ap, ◌∙◌, arith, eq-eqb, ne_eqb}
use Rattle.std.proofs.lemmas.List.{length-set}
use Rattle.guest_mem.proofs.Pasted.{set-fits}
use Rattle.a32_machine.proofs.Listed.{clear_below, listed_taken, listed_skipped}
use Rattle.a32_machine.proofs.multiple.registers_of.Goals as goal
use Rattle.a32_machine.proofs.multiple.registers_of.Goals.{then-list-k-eq1, else-list-k-eq1}

pub loop-k-preserved : goal.loop-k-preserved
loop-k-preserved c =
    let before = c.loop-k.invariant in
    elim c.if-list-k-eq1.branch [
      | then-list-k-eq1 w ↦ record {
        so_far = rw (w.places-is, w.count-is) (listed_taken c.loop-k.places c.args.list c.loop-k.count c.loop-k.k (omega arith) (eq-eqb _ 1 w.if-list-k-eq1.true) before.so_far);
        size = ap length w.places-is ∙ length-set c.loop-k.places c.loop-k.count c.loop-k.k ∙ before.size;
        few = omega arith;
        some = λ e. absurd (omega arith);
        registers = λ k. rw (w.places-is) (set-fits c.loop-k.places c.loop-k.count c.loop-k.k 16 before.registers c.loop-k-test.true k);
      }
      | else-list-k-eq1 w ↦ record {
        so_far = rw (w.places-is, w.count-is) (listed_skipped c.loop-k.places c.args.list c.loop-k.count c.loop-k.k (ne_eqb _ 1 w.if-list-k-eq1.false) before.so_far);
        size = ap length w.places-is ∙ before.size;
        few = omega arith;
        some = λ e. clear_below c.args.list c.loop-k.k (omega arith) (before.some (omega arith));
        registers = λ k. rw (w.places-is) (before.registers k);
      }
    ]
