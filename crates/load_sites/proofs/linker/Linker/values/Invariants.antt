use Rattle.std.proofs.Common.{◌≡◌, take, drop}
use Rattle.std.specs.List.{flat_map}
use Rattle.load_model.specs.Linkage.{members_of}
use Rattle.load_model.specs.Sites.{refusals_of}
use Rattle.load_sites.specs.parts.Linker.{linkage}
use Rattle.load_sites.specs.parts.Values.{IsValues}
use Rattle.load_sites.proofs.linker.Linker.values.Given as goal

-- the modules so far have these values, and no refusal
abbrev pub invariant-loop-new : goal.invariant-loop-new
invariant-loop-new l = record {
  values : IsValues (linkage l.self) (take l.new-index l.self.joining.now) l.all;
  none :
      flat_map (λ m. refusals_of (linkage l.self) m.0 m.1) (members_of (drop l.new-index l.self.joining.now))
      ≡ flat_map (λ m. refusals_of (linkage l.self) m.0 m.1) (members_of l.self.joining.now);
}
