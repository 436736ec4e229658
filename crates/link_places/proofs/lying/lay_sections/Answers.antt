use Rattle.std.proofs.Common.{◌<◌, List, All, sym, ◌∙◌, subst}
use Rattle.std.proofs.lemmas.Result.{IfOk-weaker}
use Rattle.link_places.specs.declared.lying.NumberedPiece.{NumberedPiece}
use Rattle.link_places.specs.parts.Lying.{ArePlaced, AreLaid}
use Rattle.link_places.proofs.Sectioned.{laid-heads, below-numbers}
use Rattle.link_places.proofs.lying.lay_sections.Goals as goal

pub lay_numbered-requires-clause-numbered : goal.lay_numbered-requires-clause-numbered
lay_numbered-requires-clause-numbered c =
    subst (λ (ps : List NumberedPiece). All (λ n. n.number < c.args.count) ps) (sym (c.as_slice.ensures ∙ c.in_ok-numbered.ensures)) (below-numbers c.args.count c.args.heads.now c.requires.numbered)

pub returns-clause-laid : goal.returns-clause-laid
returns-clause-laid c =
    IfOk-weaker c.lay_numbered.result (ArePlaced c.args.from c.as_slice.result.now) (AreLaid c.args.from c.args.heads.now) (λ l placed. laid-heads c.args.from c.args.heads.now c.as_slice.result.now l (c.as_slice.ensures ∙ c.in_ok-numbered.ensures) placed) c.lay_numbered.ensures.laid
