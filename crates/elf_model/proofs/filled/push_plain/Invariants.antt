use Rattle.std.proofs.Common.{◌≡◌, ◌++◌, map, take}
use Rattle.elf_model.specs.Filled.{plain_site}
use Rattle.elf_model.proofs.filled.push_plain.Given as goal

-- the sites of the relocations so far
abbrev pub invariant-loop-rel : goal.invariant-loop-rel
invariant-loop-rel l = l.sites ≡ l.initial.sites ++ map plain_site (take l.rel-index l.rels)
