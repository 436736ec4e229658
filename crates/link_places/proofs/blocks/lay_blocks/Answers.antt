use Rattle.std.proofs.Common.{List, subst, ◌∙◌}
use Rattle.std.specs.Prelude.{IfOk}
use Rattle.link_places.specs.declared.lying.NumberedPiece.{NumberedPiece}
use Rattle.link_places.specs.parts.Lying.{ArePlaced}
use Rattle.link_places.proofs.blocks.lay_blocks.Goals as goal

pub returns-clause-laid : goal.returns-clause-laid
returns-clause-laid c =
    subst (λ (ps : List NumberedPiece). IfOk c.lay_numbered.result (λ l. ArePlaced c.args.from ps l)) (c.as_slice-2.ensures ∙ c.in_ok-blocks.ensures) c.lay_numbered.ensures.laid
