use Rattle.std.proofs.Common.{◌≡◌, map, take}
use Rattle.a32_asm.specs.Object.{rel_of}
use Rattle.a32_asm.specs.Shown.{shown_rel}
use Rattle.a32_asm.proofs.object.rels_of.Given as goal

abbrev pub invariant-loop-rel : goal.invariant-loop-rel
invariant-loop-rel l = l.made ≡ map (rel_of l.all l.numbered) (map shown_rel (take l.rel-index l.rels))
