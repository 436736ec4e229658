use Rattle.elf_model.proofs.RelSoundness as lemma
use Rattle.elf_model.proofs.laws.accepted_is_rel_sound.Goals as goal

pub returns : goal.returns
returns c = lemma.accepted_is_rel_sound
