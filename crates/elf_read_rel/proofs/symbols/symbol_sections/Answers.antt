use Rattle.std.proofs.Common.{◌≡◌, ◌<◌, ◌==◌, ℕ, Bool, true, false, sym, ap, ◌∙◌, arith, eq-eqb}
use Rattle.std.proofs.lemmas.Bool.{ne_eqb}
use Rattle.std.proofs.lemmas.List.Elements.{All-push}
use Rattle.elf_model.specs.declared.constants.TheConstants.{SHT_SYMTAB}
use Rattle.elf_model.specs.Header.{e_shnum}
use Rattle.elf_model.specs.Sections.{section_header}
use Rattle.elf_read_rel.proofs.Listed.{number_more, no_number_more}
use Rattle.elf_read_rel.proofs.symbols.symbol_sections.Goals as goal
use Rattle.elf_read_rel.proofs.symbols.symbol_sections.Goals.{then-section_header-eq-SHT_SYMTAB+in_ok-push, else-section_header-eq-SHT_SYMTAB}

pub loop-i-preserved : goal.loop-i-preserved
loop-i-preserved c =
    let bytes = c.args.bytes.now in
    let is_table : ℕ → Bool = λ i. (section_header bytes i).kind == SHT_SYMTAB in
    elim c.if-section_header-eq-SHT_SYMTAB.branch [
      | then-section_header-eq-SHT_SYMTAB+in_ok-push w ↦
          let here : is_table c.loop-i.i ≡ true = ap (λ h. h.kind == SHT_SYMTAB) (sym c.section_header.ensures) ∙ eq-eqb _ _ w.if-section_header-eq-SHT_SYMTAB.true in
          record {
            found = rw (w.sections-is, w.in_ok-push.ensures.items) (number_more is_table c.loop-i.i c.loop-i.sections.items here c.loop-i.invariant.found);
            there = rw (w.sections-is, w.in_ok-push.ensures.items) (All-push (λ (i : ℕ). i < e_shnum bytes) c.loop-i.sections.items c.loop-i.i c.loop-i.invariant.there (omega arith));
          }
      | else-section_header-eq-SHT_SYMTAB w ↦
          let here : is_table c.loop-i.i ≡ false = ap (λ h. h.kind == SHT_SYMTAB) (sym c.section_header.ensures) ∙ ne_eqb _ _ w.if-section_header-eq-SHT_SYMTAB.false in
          record {
            found = rw w.sections-is (no_number_more is_table c.loop-i.i c.loop-i.sections.items here c.loop-i.invariant.found);
            there = rw w.sections-is c.loop-i.invariant.there;
          }
    ]
