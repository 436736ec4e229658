use Rattle.std.proofs.Common.{◌≡◌, ◌+◌, sym, false, get_or}
use Rattle.elf_model.specs.declared.object.Rel.{Rel}
use Rattle.elf_model.specs.Places.{file_word}
use Rattle.plt_code.specs.Standing.{is_near}
use Rattle.plt_code.proofs.Called.{not_called}
use Rattle.plt_code.proofs.scan.slot_called_at.Goals as goal

pub returns-else-is_near-clause-none : goal.returns-else-is_near-clause-none
returns-else-is_near-clause-none c =
    let o = c.args.o.now in
    let k = c.in_ok-slot.field-0.now in
    let d : Rel = record { site = 0; kind = 0; symbol = 0 } in
    let word : c.file_word.result ≡ file_word (o).segments (c.args.at + 16) = cc in
    let far : is_near (o).segments (get_or (o).jmprels k d).site (o).got ≡ false = cc in
    not_called o c.args.at k c.file_word.result _ d c.args.table.now c.requires.sound c.requires.slots (sym c.in_ok-slot.ensures.value) word far
