use Rattle.std.proofs.Common.{subst, sym, ◌∙◌}
use Rattle.elf_model.specs.RelSound.{IsNameText}
use Rattle.a32_asm.proofs.Writing.{section_text}
use Rattle.a32_asm.proofs.object.section_of.Goals as goal

pub name_of-requires : goal.name_of-requires
name_of-requires c = subst IsNameText (sym (c.as_bytes.ensures.value ∙ c.section_name.ensures)) (section_text c.args.section c.requires)
