-- Calls that began in turn are few, and still are in turn after a step.
use Rattle.std.proofs.Common.{◌≡◌, ℕ, ◌+◌, ◌<◌, ◌≤◌, Bool, true, List, [], ◌∷◌, ◌++◌, length, All, AllPairs, filter, map, not, arith}
use Rattle.std.proofs.lemmas.Bool.Decides.{nat_tests}
use Rattle.std.proofs.lemmas.List.Elements.{All-filter, All-head, All-map, All-push, All-tail, All-weaker, filter_passes}
use Rattle.std.proofs.lemmas.List.Kept.{AllPairs-cons, AllPairs-filter}
use Rattle.std.proofs.lemmas.List.Quantifiers.{all_pairs_push}
use Rattle.fd_base.proofs.Lists.{pairs_head, pairs_tail}
use Rattle.run_model.specs.declared.thread.Call.{Call}
use Rattle.run_model.specs.declared.thread.TheConstants.{LONGEST_CALL}
use Rattle.run_model.specs.Turns.{advanced, is_complete}
use Rattle.run_turn.specs.parts.CallsInProgress.{BeganInTurn, IsInProgress}

abbrev Before : Call → Call → Type 0
Before call later = later.done < call.done

-- they have different numbers of steps done
few : (low high : ℕ) (calls : List Call) → low ≤ high → All (λ call. low ≤ call.done) calls → All (λ call. call.done < high) calls → AllPairs Before calls
    → length calls + low ≤ high
few low high [] le above below turns = omega arith
few low high (call ∷ calls) le above below turns =
    let least : low ≤ call.done = All-head (λ c. low ≤ c.done) call calls above in
    let most : call.done < high = All-head (λ c. c.done < high) call calls below in
    let rest : length calls + low ≤ call.done =
    few low call.done calls least (All-tail (λ c. low ≤ c.done) call calls above) (pairs_head Before call calls turns) (pairs_tail Before call calls turns) in
    omega arith

-- how many steps are done of each
pub short_of : (calls : List Call) → BeganInTurn calls → All (λ call. call.done < LONGEST_CALL) calls
short_of calls h = All-weaker IsInProgress (λ call. call.done < LONGEST_CALL) (λ call going. omega (arith, going.left, going.short)) calls h.each

-- there is room for one that begins, since each has a step done
pub room_for : (calls : List Call) → BeganInTurn calls → All (λ call. 0 < call.done) calls → length calls < LONGEST_CALL
room_for calls h begun =
    let above : All (λ call. 1 ≤ call.done) calls = All-weaker (λ call. 0 < call.done) (λ call. 1 ≤ call.done) (λ call lt. omega arith) calls begun in
    let within : length calls + 1 ≤ LONGEST_CALL = few 1 LONGEST_CALL calls (omega arith) above (short_of calls h) h.turns in
    omega arith

-- ---- after a step

abbrev pub goes_on : Call → Bool
goes_on call = not (is_complete call)

moved : (calls : List Call) → AllPairs Before calls → AllPairs Before (map advanced calls)
moved [] turns = turns
moved (call ∷ calls) turns =
    let behind : All (λ later. Before (advanced call) (advanced later)) calls =
    All-weaker (Before call) (λ later. Before (advanced call) (advanced later)) (λ later lt. omega arith) calls (pairs_head Before call calls turns) in
    AllPairs-cons Before (advanced call) (map advanced calls) (All-map (Before (advanced call)) advanced calls behind) (moved calls (pairs_tail Before call calls turns))

going : (call : Call) → call.done ≤ call.length → call.length ≤ LONGEST_CALL → goes_on call ≡ true → IsInProgress call
going call le short on = record { left = grind (arith, nat_tests); short = short }

still_going : (calls : List Call) → All IsInProgress calls → All IsInProgress (filter goes_on (map advanced calls))
still_going calls each =
    let Within : Call → Type 0 = λ call. (call.done ≤ call.length) × (call.length ≤ LONGEST_CALL) in
    let within : All (λ call. Within (advanced call)) calls =
    All-weaker IsInProgress (λ call. Within (advanced call)) (λ call h. (omega (arith, h.left), h.short)) calls each in
    let kept : All Within (filter goes_on (map advanced calls)) = All-filter goes_on Within (map advanced calls) (All-map Within advanced calls within) in
    λ k d lt. going _ (kept k d lt).0 (kept k d lt).1 (filter_passes goes_on (map advanced calls) k d lt)

pub still_in_turn : (calls : List Call) → BeganInTurn calls → BeganInTurn (filter goes_on (map advanced calls))
still_in_turn calls h = record {
  each = still_going calls h.each;
  turns = AllPairs-filter Before goes_on (map advanced calls) (moved calls h.turns);
}

pub all_begun : (calls : List Call) → All (λ call. 0 < call.done) (filter goes_on (map advanced calls))
all_begun calls =
    let Begun : Call → Type 0 = λ call. 0 < call.done in
    All-filter goes_on Begun (map advanced calls) (All-map Begun advanced calls (λ k d lt. omega arith))

-- one more begins
pub begins_in_turn : (calls : List Call) (call : Call) → BeganInTurn calls → All (λ c. 0 < c.done) calls → call.done ≡ 0 → IsInProgress call → BeganInTurn (calls ++ call ∷ [])
begins_in_turn calls call h begun new going = record {
  each = All-push IsInProgress calls call h.each going;
  turns = all_pairs_push Before calls call h.turns (λ k d lt. let first = begun k d lt in omega arith);
}
