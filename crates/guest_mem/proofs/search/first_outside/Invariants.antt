use Rattle.std.proofs.Common.{◌≡◌, ◌-◌, get_or, None}
use Rattle.std.specs.Prelude.{not}
use Rattle.guest_mem.specs.Accesses.{first_from}
use Rattle.guest_mem.specs.parts.Answered.{is_asked}
use Rattle.guest_mem.proofs.search.first_outside.Given as goal

-- the rest of the search gives the answer
abbrev pub invariant-loop : goal.invariant-loop
invariant-loop l = first_from (λ a. not (is_asked l.asked (get_or l.kinds a None))) l.at (l.count - l.counter) ≡ first_from (λ a. not (is_asked l.asked (get_or l.kinds a None))) l.addr l.count
