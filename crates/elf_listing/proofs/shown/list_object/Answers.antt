use Rattle.elf_listing.proofs.ReadFiles.{of_object}
use Rattle.elf_listing.proofs.shown.list_object.Goals as goal

pub returns : goal.returns
returns c = of_object c.args.bytes.now c.in_ok-object_listing.field-0 c.in_ok-object.object c.in_ok-object.ensures.read c.in_ok-object_listing.ensures
