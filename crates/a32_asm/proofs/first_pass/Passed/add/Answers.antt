use Rattle.std.proofs.Common.{◌≡◌, ◌++◌, ◌∷◌, [], List, map, ap, sym, subst, ◌∙◌, arith}
use Rattle.std.specs.Prelude.{All}
use Rattle.std.proofs.lemmas.List.{map-append}
use Rattle.std.proofs.lemmas.List.Elements.{All-push}
use Rattle.a32_asm.specs.Said.{Said}
use Rattle.a32_asm.specs.FirstPass.{Passed}
use Rattle.a32_asm.specs.Shown.{shown_said}
use Rattle.a32_asm.specs.parts.Fits.{IsSaid}
use Rattle.a32_asm.proofs.first_pass.Passed.add.Goals as goal

pub returns-clause-fit : goal.returns-clause-fit
returns-clause-fit c =
    let inside = c.self.inside in
    let old : List Said = map shown_said inside.saids.items in
    let said : Said = shown_said c.in-Ok.said in
    let put : c.push.new.self.items ≡ inside.saids.items ++ c.in-Ok.said ∷ [] = grind (arith, c.push.ensures, c.is_err.ensures, c.if-is_err.false) in
    let saids : map shown_said c.push.new.self.items ≡ old ++ said ∷ [] = ap (map shown_said) put ∙ map-append shown_said inside.saids.items (c.in-Ok.said ∷ []) in
    let fit : All IsSaid old = subst (λ (passed : Passed). All IsSaid passed.saids) (sym c.self.view_is) c.requires in
    subst (All IsSaid) (sym saids) (All-push IsSaid old said fit c.in-Ok.ensures.fit)
