-- Calls over steps that complete none of them.
use Rattle.std.proofs.Common.{◌≡◌, ℕ, zero, suc, ◌+◌, ◌<◌, ◌≤◌, false, not, List, [], ◌∷◌, All, map, refl, ap, sym, subst, ◌∙◌, arith}
use Rattle.std.specs.Prelude.{filter}
use Rattle.std.proofs.lemmas.Bool.Decides.{nat_tests}
use Rattle.std.proofs.lemmas.List.Elements.{All-head, All-map, All-tail, All-weaker}
use Rattle.run_model.specs.declared.thread.Call.{Call}
use Rattle.run_model.specs.Turns.{advanced, is_complete}
use Rattle.run_turn.specs.parts.CallsInProgress.{BeganInTurn}
use Rattle.run_turn.specs.parts.QuietCalls.{HasRoom, NoneComplete, calls_after}
use Rattle.run_turn.proofs.CallsInTurn.{goes_on, still_in_turn}

abbrev IsGoing : Call → Type 0
IsGoing call = is_complete call ≡ false

-- ---- where none is complete

pub all_stay : (calls : List Call) → All IsGoing calls → filter goes_on calls ≡ calls
all_stay [] h = refl
all_stay (call ∷ calls) h = rw (All-head IsGoing call calls h) (ap (λ cs. call ∷ cs) (all_stay calls (All-tail IsGoing call calls h)))

pub none_done : (calls : List Call) → All IsGoing calls → filter is_complete calls ≡ []
none_done [] h = refl
none_done (call ∷ calls) h = rw (All-head IsGoing call calls h) (none_done calls (All-tail IsGoing call calls h))

pub after_in_turn : (n : ℕ) (calls : List Call) → BeganInTurn calls → NoneComplete n calls → BeganInTurn (calls_after n calls)
after_in_turn zero calls h stay = h
after_in_turn (suc n) calls h stay =
    subst BeganInTurn (all_stay (calls_after (suc n) calls) stay.1) (still_in_turn (calls_after n calls) (after_in_turn n calls h stay.0))

pub no_calls : (n : ℕ) → calls_after n [] ≡ []
no_calls zero = refl
no_calls (suc n) = ap (map advanced) (no_calls n)

-- ---- with room

pub rooms_below : (n m : ℕ) (calls : List Call) → n ≤ m → All (HasRoom m) calls → All (HasRoom n) calls
rooms_below n m calls le h =
    All-weaker (HasRoom m) (HasRoom n) (λ call room some. let r = room (omega arith) in (omega (arith, r.0), omega (arith, r.1))) calls h

abbrev Left : ℕ → Call → Type 0
Left k call = call.done + k < call.length

still_going : (call : Call) (k : ℕ) → Left k call → IsGoing call
still_going call k h = grind (arith, nat_tests)

left_after : (n k : ℕ) (calls : List Call) → All (Left (n + k)) calls → NoneComplete n calls × All (Left k) (calls_after n calls)
left_after zero k calls h = (tt, All-weaker (Left (zero + k)) (Left k) (λ call l. omega arith) calls h)
left_after (suc n) k calls h =
    let before : NoneComplete n calls × All (Left (suc k)) (calls_after n calls) =
    left_after n (suc k) calls (All-weaker (Left (suc n + k)) (Left (n + suc k)) (λ call l. omega arith) calls h) in
    let left : All (Left k) (calls_after (suc n) calls) =
    All-map (Left k) advanced (calls_after n calls) (All-weaker (Left (suc k)) (λ call. Left k (advanced call)) (λ call l. omega arith) (calls_after n calls) before.1) in
    ((before.0, All-weaker (Left k) IsGoing (λ call l. still_going call k l) (calls_after (suc n) calls) left), left)

pub stays : (n : ℕ) (calls : List Call) → All (HasRoom n) calls → NoneComplete n calls
stays zero calls h = tt
stays (suc n) calls h =
    (left_after (suc n) 0 calls (All-weaker (HasRoom (suc n)) (Left (suc n + 0)) (λ call room. let r = room (omega arith) in omega (arith, r.0)) calls h)).0
