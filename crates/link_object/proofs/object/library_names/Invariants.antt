use Rattle.std.proofs.Common.{◌≡◌, take}
use Rattle.link_model.specs.Object.{needed_of}
use Rattle.link_object.proofs.object.library_names.Given as goal

abbrev pub invariant-loop-library : goal.invariant-loop-library
invariant-loop-library l = l.names ≡ needed_of (take l.library-index l.libs)
