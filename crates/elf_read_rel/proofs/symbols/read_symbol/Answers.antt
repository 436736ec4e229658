use Rattle.std.proofs.Common.{◌≡◌, false, refl}
use Rattle.elf_model.specs.RelSymbols.{symbol_tests, has_name, strings}
use Rattle.elf_read_rel.proofs.Numbered.{nameless}
use Rattle.elf_read_rel.proofs.symbols.read_symbol.Goals as goal

pub returns-in_default : goal.returns-in_default
unfolding symbol_tests
returns-in_default c =
    let out : has_name (strings c.args.bytes.now) c.args.e.now ≡ false =
    rw c.requires.are_strings at (nameless c.args.strings.now c.args.e.now c.in_default.ensures.text) in
    rw (c.refusal.ensures, out) refl
