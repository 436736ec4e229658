use Rattle.std.proofs.Common.{◌≡◌, ◌%◌, true, not, ◌&&◌, ◌==◌, ◌∙◌, sym, refl}
use Rattle.std.specs.Int.{w64}
use Rattle.std.proofs.lemmas.Int.{to_z-of_z}
use mir.Val.{SFits}
use Rattle.link_model.specs.Sections.{is_writable}
use Rattle.link_model.specs.Sites.{site_address}
use Rattle.link_words.proofs.facts.Facts.can_branch.Goals as goal

pub returns-then-is_instruction : goal.returns-then-is_instruction
returns-then-is_instruction c mode inputs x h =
    let from : (not (is_writable x.at) && site_address mode inputs x % 4 == 0) ≡ true = sym (c.is_instruction.ensures mode inputs x h) ∙ c.if-is_instruction.true in
    let fits : SFits w64 c.branch_goal.result = record { sfits = c.branch_goal.type_inv } in
    rw (c.leads_into_text.ensures mode inputs x h, to_z-of_z w64 c.branch_goal.result fits, c.branch_goal.ensures.value mode inputs x h, from) refl
