use Rattle.std.proofs.Common.{ℕ, ◌<◌, List, All, sym, subst}
use Rattle.elf_model.specs.Header.{e_shnum}
use Rattle.elf_read_rel.proofs.Tabled.{first_holds}
use Rattle.elf_read_rel.proofs.symbols.read_symbol_section.Goals as goal

pub returns-clause-inside : goal.returns-clause-inside
returns-clause-inside c =
    let there : All (λ i. i < e_shnum c.args.bytes.now) c.deref.result.now =
    subst (λ (xs : List ℕ). All (λ i. i < e_shnum c.args.bytes.now) xs) (sym c.deref.ensures.value) c.in_ok-sections.ensures.there in
    first_holds c.args.bytes.now c.nth-first.result (c.nth-first.ensures.below (e_shnum c.args.bytes.now) there) c.in_ok-check_first.ensures
