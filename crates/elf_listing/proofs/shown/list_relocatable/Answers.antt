use Rattle.elf_listing.proofs.ReadFiles.{of_relocatable}
use Rattle.elf_listing.proofs.shown.list_relocatable.Goals as goal

pub returns : goal.returns
returns c =
    of_relocatable c.args.bytes.now c.in_ok-relocatable_listing.field-0 c.in_ok-file.file c.in_ok-file.ensures.read c.in_ok-relocatable_listing.ensures
