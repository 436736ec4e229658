use Rattle.std.proofs.Common.{◌≡◌, Ok, map, take, drop}
use Rattle.std.specs.List.{filter_map}
use Rattle.std.specs.Result.{result_err}
use Rattle.load_model.specs.Sites.{site_value}
use Rattle.load_sites.specs.parts.Linker.{linkage}
use Rattle.load_sites.proofs.linker.Linker.values_at.Given as goal

-- the sites so far have these values, and no refusal
abbrev pub invariant-loop-r : goal.invariant-loop-r
invariant-loop-r l = record {
  values : map (site_value (linkage l.self) l.m l.o) (take l.r-index l.sites) ≡ map Ok l.values;
  none :
      filter_map (λ r. result_err (site_value (linkage l.self) l.m l.o r)) (drop l.r-index l.sites)
      ≡ filter_map (λ r. result_err (site_value (linkage l.self) l.m l.o r)) l.sites;
}
