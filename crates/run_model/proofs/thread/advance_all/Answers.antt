use Rattle.std.proofs.Common.{◌≡◌, ℕ, ◌+◌, ◌<◌, List, ◌++◌, length, get_or, take, drop, set, map, All, ap, sym, subst, ◌∙◌, arith}
use Rattle.std.proofs.lemmas.List.{drop-drop, drop-set-lt, get_or_default}
use Rattle.std.proofs.lemmas.List.Edits.{map_over_more}
use Rattle.std.proofs.lemmas.List.Elements.{All-drop}
use Rattle.run_model.specs.declared.thread.Call.{Call}
use Rattle.run_model.specs.declared.thread.TheConstants.{LONGEST_CALL}
use Rattle.run_model.specs.Turns.{advanced}
use Rattle.run_model.proofs.thread.advance_all.Goals as goal

-- one more call of a list has advanced
one_more : (xs ys : List Call) (i : ℕ) (x new : Call) → i < length xs → ys ≡ map advanced (take i xs) ++ drop i xs → x ≡ get_or ys i x → new ≡ advanced x
    → set ys i new ≡ map advanced (take (i + 1) xs) ++ drop (i + 1) xs
one_more xs ys i x new lt h is e = ap (set ys i) e ∙ map_over_more advanced xs ys i x lt h is

abbrev IsShort : Call → Type 0
IsShort call = call.done < LONGEST_CALL

rest_short : (calls : List Call) (i : ℕ) (new : Call) → All IsShort (drop i calls) → All IsShort (drop (i + 1) (set calls i new))
rest_short calls i new all =
    let same : drop 1 (drop i calls) ≡ drop (i + 1) (set calls i new) = drop-drop 1 i calls ∙ sym (drop-set-lt (i + 1) calls i new (omega arith)) in
    subst (All IsShort) same (All-drop IsShort 1 (drop i calls) all)

pub loop-call-preserved : goal.loop-call-preserved
loop-call-preserved c =
    let calls : List Call = c.loop-call.calls in
    let i : ℕ = c.loop-call.call-index in
    let within : i < length calls = omega arith in
    record {
      value = one_more c.args.calls.now calls i _ c.advance.new.self (omega arith) c.loop-call.invariant.value (get_or_default calls i _ _ within) c.advance.ensures;
      short = rest_short calls i c.advance.new.self c.loop-call.invariant.short;
    }
