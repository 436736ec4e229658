use Rattle.std.proofs.Common.{◌≡◌, false, refl}
use Rattle.std.specs.Int.{w64}
use Rattle.std.proofs.lemmas.Int.{to_z-of_z}
use mir.Val.{SFits, to_z, of_z}
use Rattle.link_model.specs.Needs.{target_at}
use Rattle.link_model.specs.Targets.{is_nothing}
use Rattle.link_words.proofs.facts.Facts.branch_word.Goals as goal

pub returns-else-is_nothing : goal.returns-else-is_nothing
returns-else-is_nothing c mode inputs x h =
    let reach : is_nothing (target_at mode inputs x).reach ≡ false = cc in
    let fits : SFits w64 c.branch_goal.result = record { sfits = c.branch_goal.type_inv } in
    rw (c.branch_to.ensures, to_z-of_z w64 c.branch_goal.result fits, c.branch_goal.ensures.value mode inputs x h, h.place', h.word', reach) refl
