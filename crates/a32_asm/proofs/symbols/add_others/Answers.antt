use Rattle.std.proofs.Common.{ℕ, Vec, Global, ◌||◌, ap, sym, ◌∙◌}
use Rattle.std.specs.Prelude.{Bool, is_some, is_none}
use Rattle.a32_asm.specs.Object.{facts_at}
use Rattle.a32_asm.proofs.Numbering.{number_more, no_number_more}
use Rattle.a32_asm.proofs.symbols.add_others.Goals as goal
use Rattle.a32_asm.proofs.symbols.add_others.Goals.{then-is_other+in_ok-push, else-is_other}

pub loop-place-preserved : goal.loop-place-preserved
loop-place-preserved c =
    let all = c.args.all.now in
    let test : ℕ → Bool = λ k. is_some (facts_at all k).weak || is_none (facts_at all k).label in
    let k = c.loop-place.place in
    elim c.if-is_other.branch [
      | then-is_other+in_ok-push w ↦
          ap (λ (v : Vec ℕ Global). v.items) w.places-is ∙ w.in_ok-push.ensures.items
          ∙ number_more test k c.args.places.now.items c.loop-place.places.items c.loop-place.invariant (sym c.is_other.ensures ∙ w.if-is_other.true)
      | else-is_other w ↦
          ap (λ (v : Vec ℕ Global). v.items) w.places-is
          ∙ no_number_more test k c.args.places.now.items c.loop-place.places.items c.loop-place.invariant (sym c.is_other.ensures ∙ w.if-is_other.false)
    ]
