use Rattle.std.proofs.Common.{◌≡◌, List, ◌++◌, length, take, None}
use Rattle.std.specs.List.{flat_map}
use Rattle.elf_model.specs.Test.{first_failing}
use Rattle.link_model.specs.Inputs.{InputSection, InputRel, rels_in}
use Rattle.link_model.specs.SiteTests.{site_tests}
use Rattle.link_checks.specs.parts.Covered.{AreMarked}
use Rattle.link_checks.specs.parts.Found.{AreFound}
use Rattle.link_checks.specs.parts.Sited.{IsSection}
use Rattle.link_checks.proofs.linking.Linking.check_section.Given as goal

-- the relocations so far pass, and are found
abbrev pub invariant-loop-rel : goal.invariant-loop-rel
invariant-loop-rel l = record {
  size : length l.covered.marks.items ≡ length l.section.filled;
  marked : AreMarked (take l.rel-index l.section.rels) l.covered.marks.items;
  passed : (x : InputSection) → IsSection x l.head l.section → first_failing (flat_map (site_tests l.self.joined.mode l.self.joined.inputs) (take l.rel-index (rels_in x))) ≡ None;
  found : (x : InputSection) (others : List InputRel) → IsSection x l.head l.section → AreFound l.self.joined.mode l.self.joined.inputs others l.fn.found
      → AreFound l.self.joined.mode l.self.joined.inputs (others ++ take l.rel-index (rels_in x)) l.found;
}
