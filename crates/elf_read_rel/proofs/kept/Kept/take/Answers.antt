use Rattle.std.proofs.Common.{◌≡◌, true, false, refl, sym, ap, ◌∙◌}
use Rattle.elf_model.specs.Sections.{section_header}
use Rattle.elf_model.specs.RelSections.{is_kept}
use Rattle.elf_read_rel.proofs.Keeping.{one_kept, one_left_out}
use Rattle.elf_read_rel.proofs.kept.Kept.take.Goals as goal

pub returns-then-not-is_kept-clause-kept : goal.returns-then-not-is_kept-clause-kept
returns-then-not-is_kept-clause-kept c =
    let out : is_kept (section_header c.args.bytes.now c.args.i) ≡ false = ap is_kept (sym c.section_header-h.ensures) ∙ sym c.if-not-is_kept.ensures in
    one_left_out c.args.bytes.now c.args.i c.args.self.now _ c.requires.so_far out c.in_ok-push.ensures.items refl refl

pub returns-clause-kept : goal.returns-clause-kept
returns-clause-kept c =
    let kept : is_kept (section_header c.args.bytes.now c.args.i) ≡ true = ap is_kept (sym c.section_header-h.ensures) ∙ sym c.if-not-is_kept.ensures in
    one_kept c.args.bytes.now c.args.i c.args.self.now _ c.requires.so_far kept c.in_ok-push-2.ensures.items refl c.in_ok-self.ensures.1.0 c.in_ok-self.ensures.1.1
