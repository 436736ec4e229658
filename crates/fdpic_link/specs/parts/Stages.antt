-- The tests that come before those of sizes, and what they find.
use Rattle.std.specs.Prelude.{◌≡◌, List, ◌++◌, flat_map}
use Rattle.elf_model.specs.declared.relocatable.RelObject.{RelObject}
use Rattle.link_checks.specs.parts.Entry.{entry_of}
use Rattle.link_checks.specs.parts.Found.{AreFound}
use Rattle.link_model.specs.declared.input.Mode.{Mode}
use Rattle.link_model.specs.Inputs.{all_rels}
use Rattle.link_model.specs.Needs.{need_tests}
use Rattle.link_model.specs.Refusals.{entry_tests}
use Rattle.link_model.specs.SiteTests.{site_tests}
use Rattle.link_model.specs.Targets.{all_name_tests, LinkTest}
use Rattle.fdpic_link.specs.declared.tested.Tested.{Tested}

-- names and the GOT, then each relocation in order, and the entry
abbrev pub early_tests : Mode → List RelObject → List LinkTest
early_tests mode inputs =
    (all_name_tests mode inputs ++ need_tests mode inputs)
    ++ (flat_map (site_tests mode inputs) (all_rels inputs) ++ entry_tests mode inputs)

-- they speak of these inputs, and of each of their relocations
pub record IsTested (mode : Mode) (inputs : List RelObject) (t : Tested) : Type 0 where
  pub mode' : (t.linking).layout.mode ≡ mode
  pub inputs' : ((t.linking).layout.text).inputs.now ≡ inputs
  pub found : AreFound mode inputs (all_rels inputs) t.facts
  pub begins : t.entry ≡ entry_of mode inputs
