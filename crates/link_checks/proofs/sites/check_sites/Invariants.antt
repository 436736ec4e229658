use Rattle.std.proofs.Common.{◌≡◌, take, None}
use Rattle.std.specs.List.{flat_map}
use Rattle.elf_model.specs.Test.{first_failing}
use Rattle.link_model.specs.Inputs.{sections_of, rels_in}
use Rattle.link_model.specs.SiteTests.{site_tests}
use Rattle.link_checks.specs.parts.Found.{AreFound}
use Rattle.link_checks.proofs.sites.check_sites.Given as goal

-- the relocations of the sections so far pass, and are found
abbrev pub invariant-loop-head : goal.invariant-loop-head
invariant-loop-head l = record {
  passed : first_failing (flat_map (λ x. flat_map (site_tests l.linking.joined.mode l.linking.joined.inputs) (rels_in x)) (take l.head-index (sections_of l.linking.joined.inputs))) ≡ None;
  found : AreFound l.linking.joined.mode l.linking.joined.inputs (flat_map rels_in (take l.head-index (sections_of l.linking.joined.inputs))) l.found;
}
