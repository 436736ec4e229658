use Rattle.std.proofs.lemmas.List.Elements.{All-push}
use Rattle.elf_model.specs.Sound.{IsSound}
use Rattle.known_objects.proofs.sites.add.Goals as goal

pub returns : goal.returns
returns c = rw c.in_ok-push.ensures (All-push (λ j. IsSound j.object) c.args.joining.now _ c.requires.all c.requires.sound)
