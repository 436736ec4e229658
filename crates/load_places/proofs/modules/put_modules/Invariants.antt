use Rattle.std.proofs.Common.{take}
use Rattle.load_places.proofs.AddedModules.{ArePlaced}
use Rattle.load_places.proofs.modules.put_modules.Given as goal

-- the modules so far are placed
abbrev pub invariant-loop-i : goal.invariant-loop-i
invariant-loop-i l = ArePlaced l.maps (take l.i l.joining) (take l.i l.parts) l.fn.guest l.guest
