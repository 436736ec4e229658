use Rattle.std.proofs.Common.{◌≡◌, ℕ, ◌<◌, false, List, ◌++◌, length, get_or, ap, sym, subst, ◌∙◌}
use Rattle.std.specs.Prelude.{◌&&◌, is_none, All, filter}
use Rattle.a32_asm.specs.Known.{Names}
use Rattle.a32_asm.specs.Object.{facts_at, others}
use Rattle.a32_asm.specs.parts.Numbered.{AreNumbers}
use Rattle.a32_asm.proofs.Numbering.{places_below}
use Rattle.a32_asm.proofs.symbols.Numbered.of.Goals as goal

pub invariant_of-result : goal.invariant_of-result
invariant_of-result c =
    let all = c.args.all.now in
    let named = c.args.named.now in
    let places = c.add_others.new.places.items in
    let numbers = c.in_ok-numbers.numbers.items in
    let locals = filter (λ k. is_none (facts_at all k).weak && get_or named k false) all.labels in
    let are : places ≡ locals ++ others all =
    c.in_ok-add_others.ensures ∙ ap (λ (ps : List ℕ). ps ++ others all) (c.in_ok-add_locals.ensures ∙ ap (λ (ps : List ℕ). ps ++ locals) c.new-places.ensures.items) in
    let count : length numbers ≡ length all.known.names = c.in_ok-numbers.ensures.each ∙ (c.len.ensures ∙ ap (λ (known : Names). length known.names) c.known.ensures) in
    let below = places_below all (λ k. is_none (facts_at all k).weak && get_or named k false) c.requires.below in (
      subst (λ (ps : List ℕ). length ps < 4294967295) (sym are) c.requires.few,
      subst (λ (ps : List ℕ). All (λ k. k < length numbers) ps) (sym are) (subst (λ n. All (λ k. k < n) (locals ++ others all)) (sym count) below),
      subst (λ (ps : List ℕ). AreNumbers 1 ps numbers) c.as_slice.ensures.value c.in_ok-numbers.ensures.value,
    )
