use Rattle.std.proofs.Common.{◌≡◌, take}
use Rattle.std.specs.List.{flat_map}
use Rattle.load_model.specs.Descriptors.{privates_of}
use Rattle.load_model.specs.Linkage.{members_of}
use Rattle.load_sites.specs.parts.Linker.{linkage}
use Rattle.load_sites.proofs.linker.Linker.privates.Given as goal

abbrev pub invariant-loop-i : goal.invariant-loop-i
invariant-loop-i l = l.found ≡ flat_map (privates_of (linkage l.self)) (members_of (take l.i l.self.joining.now))
