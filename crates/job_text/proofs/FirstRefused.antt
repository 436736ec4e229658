-- The first line that is refused, by its place.
use Rattle.std.proofs.Common.{◌≡◌, ℕ, ◌+◌, ◌<◌, zero, suc, Bool, true, false, List, [], ◌∷◌, ◌++◌, length, get_or, take, Option, Some, None, Result, Ok, Err, refl, sym, ap, ◌∙◌, arith, append_assoc, append-nil, length-append}
use Rattle.std.specs.Prelude.{drop, option_map, if◌then◌else◌}
use Rattle.std.specs.Option.{option_or}
use Rattle.std.specs.Result.{result_map_both}
use Rattle.run_model.specs.declared.job.Job.{Job}
use Rattle.job_text.specs.declared.limits.Limits.{Limits}
use Rattle.job_text.specs.declared.refusal.JobKind.{JobKind}
use Rattle.job_text.specs.declared.refusal.JobKind.TheVariants.{First}
use Rattle.job_text.specs.declared.refusal.JobRefusal.{JobRefusal}
use Rattle.job_text.specs.Statement.{statement_of}
use Rattle.job_text.specs.Given.{job_by}
use Rattle.job_text.specs.Job.{is_headed, given_behind, refusal_by, refused_at, first_refusal, unless, job_behind, job_of}
use Rattle.job_text.specs.parts.Refused.{RefusedWhere}
use Rattle.job_text.specs.parts.Refused.RefusedWhere.{first_line, other_line, behind_all}

-- what refuses line k of these, with more lines before them
abbrev at : Limits → List (List ℕ) → List (List ℕ) → ℕ → Option JobKind
at limits before lines k = refusal_by limits (given_behind limits (before ++ take k lines)) (statement_of limits (get_or lines k []))

at_next : (limits : Limits) (before : List (List ℕ)) (line : List ℕ) (lines : List (List ℕ)) (k : ℕ) → at limits (before ++ line ∷ []) lines k ≡ at limits before (line ∷ lines) (suc k)
at_next limits before line lines k = ap (λ ls. refusal_by limits (given_behind limits ls) (statement_of limits (get_or lines k []))) (append_assoc before (line ∷ []) (take k lines))

at_here : (limits : Limits) (before : List (List ℕ)) (line : List ℕ) (lines : List (List ℕ)) → at limits before (line ∷ lines) 0 ≡ refusal_by limits (given_behind limits before) (statement_of limits line)
at_here limits before line lines = ap (λ ls. refusal_by limits (given_behind limits ls) (statement_of limits line)) (append-nil before)

record FirstAt (limits : Limits) (before lines : List (List ℕ)) (r : JobRefusal) : Type 0 where
  pub place : ℕ
  pub within : place < length lines
  pub earlier : (j : ℕ) → j < place → at limits before lines j ≡ None
  pub here : at limits before lines place ≡ Some r.kind
  pub number : r.line ≡ length before + place + 2

-- no line before a later one
none_then : (limits : Limits) (before : List (List ℕ)) (line : List ℕ) (lines : List (List ℕ)) (k : ℕ) → refusal_by limits (given_behind limits before) (statement_of limits line) ≡ None
    → ((j : ℕ) → j < k → at limits (before ++ line ∷ []) lines j ≡ None) → (j : ℕ) → j < suc k → at limits before (line ∷ lines) j ≡ None
none_then limits before line lines k here later zero l = at_here limits before line lines ∙ here
none_then limits before line lines k here later (suc j) l = sym (at_next limits before line lines j) ∙ later j (omega arith)

same_refusal : (r s : JobRefusal) → Some r ≡ Some s → r ≡ s
same_refusal r s e = cc

found : (limits : Limits) (before lines : List (List ℕ)) (r : JobRefusal) → first_refusal limits before lines ≡ Some r → FirstAt limits before lines r
found limits before [] r e = cc
found limits before (line ∷ lines) r e = by_line (refusal_by limits (given_behind limits before) (statement_of limits line)) refl e (found limits (before ++ line ∷ []) lines r)
  where
    by_line : (o : Option JobKind) → refusal_by limits (given_behind limits before) (statement_of limits line) ≡ o
        → option_or (option_map (refused_at (length before + 2)) o) (first_refusal limits (before ++ line ∷ []) lines) ≡ Some r
        → (first_refusal limits (before ++ line ∷ []) lines ≡ Some r → FirstAt limits (before ++ line ∷ []) lines r) → FirstAt limits before (line ∷ lines) r
    by_line (Some kind) is e rest =
        let same : refused_at (length before + 2) kind ≡ r = same_refusal (refused_at (length before + 2) kind) r e in record {
          place = zero;
          within = omega arith;
          earlier = λ j l. absurd (omega arith);
          here = at_here limits before line lines ∙ is ∙ ap (λ (s : JobRefusal). Some s.kind) same;
          number = let n : length before + 2 ≡ r.line = ap (λ (s : JobRefusal). s.line) same in omega arith;
        }
    by_line None is e rest =
        let f = rest e in record {
          place = suc f.place;
          within = omega (arith, f.within);
          earlier = none_then limits before line lines f.place is f.earlier;
          here = sym (at_next limits before line lines f.place) ∙ f.here;
          number = omega (arith, f.number, length-append before (line ∷ []));
        }

passed : (limits : Limits) (before : List (List ℕ)) (line : List ℕ) (lines : List (List ℕ)) → refusal_by limits (given_behind limits before) (statement_of limits line) ≡ None
    → first_refusal limits before (line ∷ lines) ≡ first_refusal limits (before ++ line ∷ []) lines
passed limits before line lines is = rw is refl

first_at : (limits : Limits) (before lines : List (List ℕ)) (k : ℕ) (kind : JobKind) → k < length lines → ((j : ℕ) → j < k → at limits before lines j ≡ None) → at limits before lines k ≡ Some kind
    → first_refusal limits before lines ≡ Some (refused_at (length before + k + 2) kind)
first_at limits before [] k kind within earlier here = absurd (omega arith)
first_at limits before (line ∷ lines) zero kind within earlier here =
    let is : refusal_by limits (given_behind limits before) (statement_of limits line) ≡ Some kind = sym (at_here limits before line lines) ∙ here in
    let n : length before + 2 ≡ length before + 0 + 2 = omega arith in
    rw is (ap (λ m. Some (refused_at m kind)) n)
first_at limits before (line ∷ lines) (suc k) kind within earlier here =
    let n : length (before ++ line ∷ []) + k + 2 ≡ length before + suc k + 2 = omega (arith, length-append before (line ∷ [])) in
    passed limits before line lines (sym (at_here limits before line lines) ∙ earlier 0 (omega arith))
    ∙ first_at limits (before ++ line ∷ []) lines k kind (omega arith) (λ j l. at_next limits before line lines j ∙ earlier (suc j) (omega arith)) (at_next limits before line lines k ∙ here)
    ∙ ap (λ m. Some (refused_at m kind)) n

none_at : (limits : Limits) (before lines : List (List ℕ)) → ((j : ℕ) → j < length lines → at limits before lines j ≡ None) → first_refusal limits before lines ≡ None
none_at limits before [] each = refl
none_at limits before (line ∷ lines) each =
    passed limits before line lines (sym (at_here limits before line lines) ∙ each 0 (omega arith))
    ∙ none_at limits (before ++ line ∷ []) lines (λ j l. at_next limits before line lines j ∙ each (suc j) (omega arith))

at_none : (limits : Limits) (before lines : List (List ℕ)) → first_refusal limits before lines ≡ None → (j : ℕ) → j < length lines → at limits before lines j ≡ None
at_none limits before [] e = λ j l. absurd (omega arith)
at_none limits before (line ∷ lines) e = by_line (refusal_by limits (given_behind limits before) (statement_of limits line)) refl e (at_none limits (before ++ line ∷ []) lines)
  where
    by_line : (o : Option JobKind) → refusal_by limits (given_behind limits before) (statement_of limits line) ≡ o
        → option_or (option_map (refused_at (length before + 2)) o) (first_refusal limits (before ++ line ∷ []) lines) ≡ None
        → (first_refusal limits (before ++ line ∷ []) lines ≡ None → (j : ℕ) → j < length lines → at limits (before ++ line ∷ []) lines j ≡ None)
        → (j : ℕ) → j < length (line ∷ lines) → at limits before (line ∷ lines) j ≡ None
    by_line (Some kind) is e rest = absurd cc
    by_line None is e rest = λ j l. none_then limits before line lines (length lines) is (rest e) j (omega arith)

-- ---- the places of a refusal

line_where : (limits : Limits) (lines : List (List ℕ)) (r s : JobRefusal) → is_headed lines ≡ true → first_refusal limits [] (drop 1 lines) ≡ Some s → s ≡ r → RefusedWhere limits lines r
line_where limits lines r s head e same =
    let f = found limits [] (drop 1 lines) r (e ∙ ap Some same) in
    other_line f.place head (record { within = f.within; before = f.earlier; here = f.here }) (omega (arith, f.number))

by_refusal : (limits : Limits) (lines : List (List ℕ)) (r : JobRefusal) (o : Option JobRefusal) (answer : Result Job JobKind) → is_headed lines ≡ true
    → first_refusal limits [] (drop 1 lines) ≡ o → job_by limits (given_behind limits (drop 1 lines)) ≡ answer
    → unless o (result_map_both (λ j. j) (refused_at (length (drop 1 lines) + 2)) answer) ≡ Err r → RefusedWhere limits lines r
by_refusal limits lines r (Some s) answer head passes is e =
    let same : s ≡ r = cc in line_where limits lines r s head passes same
by_refusal limits lines r None (Ok made) head passes is e = cc
by_refusal limits lines r None (Err kind) head passes is e =
    let same : refused_at (length (drop 1 lines) + 2) kind ≡ r = cc in
    behind_all head (at_none limits [] (drop 1 lines) passes) (is ∙ ap (λ (s : JobRefusal). Err s.kind) same) (sym (ap (λ (s : JobRefusal). s.line) same))

behind_where : (limits : Limits) (lines : List (List ℕ)) (r : JobRefusal) → is_headed lines ≡ true → job_behind limits (drop 1 lines) ≡ Err r → RefusedWhere limits lines r
unfolding job_behind
behind_where limits lines r head e =
    by_refusal limits lines r (first_refusal limits [] (drop 1 lines)) (job_by limits (given_behind limits (drop 1 lines))) head refl refl e

by_header : (limits : Limits) (lines : List (List ℕ)) (r : JobRefusal) (b : Bool) → is_headed lines ≡ b
    → (if b then job_behind limits (drop 1 lines) else Err (refused_at 1 First)) ≡ Err r → RefusedWhere limits lines r
by_header limits lines r true head e = behind_where limits lines r head e
by_header limits lines r false head e = let same : refused_at 1 First ≡ r = cc in first_line head (sym same)

pub is_where : (limits : Limits) (lines : List (List ℕ)) (r : JobRefusal) → job_of limits lines ≡ Err r → RefusedWhere limits lines r
unfolding job_of
is_where limits lines r e = by_header limits lines r (is_headed lines) refl e

headed : (limits : Limits) (lines : List (List ℕ)) → is_headed lines ≡ true → job_of limits lines ≡ job_behind limits (drop 1 lines)
unfolding job_of
headed limits lines head = rw head refl

not_headed : (limits : Limits) (lines : List (List ℕ)) → is_headed lines ≡ false → job_of limits lines ≡ Err (refused_at 1 First)
unfolding job_of
not_headed limits lines head = rw head refl

refused_line : (limits : Limits) (left : List (List ℕ)) (r : JobRefusal) → first_refusal limits [] left ≡ Some r → job_behind limits left ≡ Err r
unfolding job_behind
refused_line limits left r e = rw e refl

refused_whole : (limits : Limits) (left : List (List ℕ)) (kind : JobKind) → first_refusal limits [] left ≡ None → job_by limits (given_behind limits left) ≡ Err kind
    → job_behind limits left ≡ Err (refused_at (length left + 2) kind)
unfolding job_behind
refused_whole limits left kind passes e = rw (passes, e) refl

same_at : (r : JobRefusal) (line : ℕ) → r.line ≡ line → refused_at line r.kind ≡ r
same_at r line e = ap (λ n. refused_at n r.kind) (sym e)

pub from_where : (limits : Limits) (lines : List (List ℕ)) (r : JobRefusal) → RefusedWhere limits lines r → job_of limits lines ≡ Err r
from_where limits lines r (first_line head same) = not_headed limits lines head ∙ ap Err (sym same)
from_where limits lines r (other_line k head f number) =
    let n : r.line ≡ 0 + k + 2 = omega arith in
    headed limits lines head
    ∙ refused_line limits (drop 1 lines) r (first_at limits [] (drop 1 lines) k r.kind f.within f.before f.here ∙ ap Some (same_at r (0 + k + 2) n))
from_where limits lines r (behind_all head none is number) =
    headed limits lines head
    ∙ refused_whole limits (drop 1 lines) r.kind (none_at limits [] (drop 1 lines) none) is
    ∙ ap Err (same_at r (length (drop 1 lines) + 2) number)
