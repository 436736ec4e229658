use Rattle.std.proofs.Common.{◌≡◌, take}
use Rattle.std.specs.List.{flat_map}
use Rattle.load_model.specs.Descriptors.{asked_of}
use Rattle.load_model.specs.Linkage.{members_of}
use Rattle.load_sites.specs.parts.Linker.{linkage}
use Rattle.load_sites.proofs.linker.Linker.asked.Given as goal

abbrev pub invariant-loop-i : goal.invariant-loop-i
invariant-loop-i l = l.asked ≡ flat_map (asked_of (linkage l.self)) (members_of (take l.i l.self.joining.now))
