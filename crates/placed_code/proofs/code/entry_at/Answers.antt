use Rattle.std.proofs.Common.{◌∙◌, ap, sym}
use Rattle.std.specs.Option.{option_copied}
use Rattle.placed_code.proofs.code.entry_at.Goals as goal

pub slot_entered-requires : goal.slot_entered-requires
slot_entered-requires c = c.requires.sound c.in_ok-place.place.module c.in_ok-object.object.now (sym c.object_at.ensures ∙ ap option_copied c.in_ok-object.was)
