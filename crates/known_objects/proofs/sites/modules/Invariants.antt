use Rattle.std.proofs.Common.{All}
use Rattle.elf_model.specs.Sound.{IsSound}
use Rattle.known_objects.proofs.sites.modules.Given as goal

abbrev pub invariant-loop-symbolic : goal.invariant-loop-symbolic
invariant-loop-symbolic l = All (λ j. IsSound j.object) l.joining
