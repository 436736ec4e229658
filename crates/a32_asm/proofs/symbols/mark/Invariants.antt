use Rattle.std.proofs.Common.{◌≡◌, length, take, map}
use Rattle.a32_asm.specs.Shown.{shown_rel}
use Rattle.a32_asm.specs.parts.Numbered.{AreMarked}
use Rattle.a32_asm.proofs.symbols.mark.Given as goal

abbrev pub invariant-loop-rel : goal.invariant-loop-rel
invariant-loop-rel l = record {
  each : length l.named ≡ length l.known.names;
  marked : AreMarked l.known.names (map shown_rel (take l.rel-index l.rels)) l.initial.named l.named;
}
