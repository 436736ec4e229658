-- Calls in progress over steps that complete none of them.
use Rattle.std.specs.Prelude.{◌≡◌, ℕ, zero, suc, ◌+◌, ◌<◌, false, List, All, map}
use Rattle.run_model.specs.declared.thread.Call.{Call}
use Rattle.run_model.specs.declared.thread.TheConstants.{LONGEST_CALL}
use Rattle.run_model.specs.Turns.{advanced, is_complete}

-- the calls where so many more steps are done of each
abbrev pub calls_after : ℕ → List Call → List Call
calls_after zero calls = calls
calls_after (suc n) calls = map advanced (calls_after n calls)

-- none of so many steps completes one
abbrev pub NoneComplete : ℕ → List Call → Type 0
NoneComplete zero calls = Unit {0}
NoneComplete (suc n) calls = NoneComplete n calls × All (λ call. is_complete call ≡ false) (calls_after (suc n) calls)

-- with so many more steps it has steps left, and no more done than a call has
abbrev pub HasRoom : ℕ → Call → Type 0
HasRoom n call = 0 < n → (call.done + n < call.length) × (call.done + n < LONGEST_CALL)
