use Rattle.std.proofs.Common.{◌≡◌, ◌≤◌, ◌-◌, [], ◌∷◌, ◌++◌, All, take, length}
use Rattle.std.specs.Prelude.{nat_eq}
use Rattle.std.specs.List.{flat_map}
use Rattle.symbol_scope.specs.Closure.{firsts, IsReached}
use Rattle.symbol_scope.specs.parts.Needs.{needs}
use Rattle.symbol_scope.specs.parts.Marks.{IsMarked}
use Rattle.symbol_scope.proofs.closing.closure_of.Given as goal

-- what the first modules need is there, and nothing that isn't reached
abbrev pub invariant-loop-next : goal.invariant-loop-next
invariant-loop-next l = record {
  within : l.next ≤ length l.found.items;
  order : l.found.items ≡ firsts nat_eq (l.root ∷ [] ++ flat_map (needs l.slots) (take l.next l.found.items));
  reached : All (IsReached (needs l.slots) (l.root ∷ [])) l.found.items;
  marked : IsMarked l.seen.items l.found.items;
}

abbrev pub decreases-loop-next : goal.decreases-loop-next
decreases-loop-next l = 64 - l.next
