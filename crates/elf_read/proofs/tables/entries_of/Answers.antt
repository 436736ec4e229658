use Rattle.std.proofs.Common.{◌≡◌, ℕ, ◌+◌, ◌*◌, Bool, true, false, not, sym, ap, ◌∙◌}
use Rattle.elf_read.specs.parts.Tables.{is_inside}
use Rattle.elf_read.proofs.Ranges.{entries_more, entries_same}
use Rattle.elf_read.proofs.tables.entries_of.Goals as goal
use Rattle.elf_read.proofs.tables.entries_of.Goals.{then-not-is_inside+in_ok-push, else-not-is_inside}

pub loop-k-preserved : goal.loop-k-preserved
loop-k-preserved c =
    let p : ℕ → Bool = λ k. not (is_inside c.args.left_out (c.args.range.now.addr + 8 * k)) in
    let same : is_inside c.args.left_out (c.args.range.now.addr + 8 * c.loop-k.k) ≡ c.is_inside.result = rw (← c.from.ensures, ← c.from-in-loop-k.ensures) (sym c.is_inside.ensures) in
    elim c.if-not-is_inside.branch [
      | then-not-is_inside+in_ok-push w ↦
          let kept : not (is_inside c.args.left_out (c.args.range.now.addr + 8 * c.loop-k.k)) ≡ true = ap not (same ∙ w.if-not-is_inside.true) in
          rw (w.entries-is, w.in_ok-push.ensures.items, w.rel_entry.ensures) (entries_more c.args.bytes.now c.args.table c.args.range.now.offset c.loop-k.k p c.loop-k.entries.items c.loop-k.invariant kept)
      | else-not-is_inside w ↦
          let out : not (is_inside c.args.left_out (c.args.range.now.addr + 8 * c.loop-k.k)) ≡ false = ap not (same ∙ w.if-not-is_inside.false) in
          rw w.entries-is (entries_same c.args.bytes.now c.args.table c.args.range.now.offset c.loop-k.k p c.loop-k.entries.items c.loop-k.invariant out)
    ]
