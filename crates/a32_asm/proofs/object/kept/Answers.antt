use Rattle.std.proofs.Common.{ℕ, Vec, Global, ◌||◌, [], get_or, ap, sym, ◌∙◌}
use Rattle.std.specs.Prelude.{Bool, nat_lt}
use Rattle.std.specs.List.{list_any}
use Rattle.a32_asm.specs.Object.{has_label}
use Rattle.a32_asm.proofs.Numbering.{number_more, no_number_more}
use Rattle.a32_asm.proofs.object.kept.Goals as goal
use Rattle.a32_asm.proofs.object.kept.Goals.{then-is_kept+in_ok-push, else-is_kept}

pub loop-section-preserved : goal.loop-section-preserved
loop-section-preserved c =
    let all = c.args.all.now in
    let test : ℕ → Bool = λ k. nat_lt 0 (get_or all.sizes k 0) || list_any (has_label k) all.known.facts in
    let k = c.loop-section.section in
    elim c.if-is_kept.branch [
      | then-is_kept+in_ok-push w ↦
          ap (λ (v : Vec ℕ Global). v.items) w.kept-is ∙ w.in_ok-push.ensures.items
          ∙ number_more test k [] c.loop-section.kept.items c.loop-section.invariant (sym c.is_kept.ensures ∙ w.if-is_kept.true)
      | else-is_kept w ↦
          ap (λ (v : Vec ℕ Global). v.items) w.kept-is ∙ no_number_more test k [] c.loop-section.kept.items c.loop-section.invariant (sym c.is_kept.ensures ∙ w.if-is_kept.false)
    ]
