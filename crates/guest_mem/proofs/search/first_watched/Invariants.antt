use Rattle.std.proofs.Common.{◌≡◌, ◌+◌, ◌-◌, get_or, None, false}
use Rattle.guest_mem.specs.Memory.{is_watched_as}
use Rattle.guest_mem.specs.Accesses.{first_from}
use Rattle.guest_mem.proofs.search.first_watched.Given as goal

-- the rest of the search gives the answer
abbrev pub invariant-loop : goal.invariant-loop
invariant-loop l = record {
  rest : first_from (λ a. is_watched_as (get_or l.kinds a None) (get_or l.marks a false)) l.at (l.count - l.counter)
      ≡ first_from (λ a. is_watched_as (get_or l.kinds a None) (get_or l.marks a false)) l.addr l.count;
  place : l.at ≡ l.addr + l.counter;
}
