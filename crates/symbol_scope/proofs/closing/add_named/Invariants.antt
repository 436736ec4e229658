use Rattle.std.proofs.Common.{◌≡◌, take}
use Rattle.std.specs.Prelude.{nat_eq}
use Rattle.std.specs.List.{filter_map}
use Rattle.symbol_scope.specs.Closure.{with_new}
use Rattle.symbol_scope.specs.parts.Needs.{number_named}
use Rattle.symbol_scope.specs.parts.Marks.{IsMarked}
use Rattle.symbol_scope.proofs.closing.add_named.Given as goal

-- the modules of the names so far are there
abbrev pub invariant-loop-name : goal.invariant-loop-name
invariant-loop-name l = record {
  found : l.found.items ≡ with_new nat_eq l.fn.found.items (filter_map (number_named l.slots) (take l.name-index l.names));
  marked : IsMarked l.seen.items l.found.items;
}
