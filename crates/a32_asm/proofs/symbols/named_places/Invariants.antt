use Rattle.std.proofs.Common.{◌≡◌, length, take}
use Rattle.a32_asm.specs.parts.Numbered.{AreNamed}
use Rattle.a32_asm.proofs.symbols.named_places.Given as goal

abbrev pub invariant-loop-rels : goal.invariant-loop-rels
invariant-loop-rels l = record {
  each : length l.named.items ≡ length l.known.names;
  named : AreNamed l.known.names (take l.rels-index l.contents.rels) l.named.items;
}
