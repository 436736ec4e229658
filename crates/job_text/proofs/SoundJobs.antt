-- Every job is sound.
use Rattle.std.proofs.Common.{◌≡◌, ◌≢◌, ℕ, ◌+◌, ◌<◌, Bool, true, false, List, [], ◌∷◌, ◌++◌, length, get_or, Option, Some, None, Result, Ok, Err, refl, sym, ◌∙◌, subst, arith, append_assoc, append-nil, length-append}
use Rattle.std.specs.Prelude.{drop, nat_le, if◌then◌else◌, unwrap_or, option_map, IfSome}
use Rattle.std.specs.Option.{option_or}
use Rattle.std.specs.List.{list_any}
use Rattle.std.specs.Str.{bytes_eq}
use Rattle.std.proofs.lemmas.Bool.{false≢true}
use Rattle.std.proofs.lemmas.Bool.Decides.{nat_tests}
use Rattle.std.proofs.lemmas.List.Folds.{list_any_at}
use Rattle.std.proofs.lemmas.List.Quantifiers.{all_pairs_push}
use Rattle.std.proofs.lemmas.Slice.Eq.{bytes_eq-Decides}
use Rattle.fd_base.specs.parts.IsName.{IsName}
use Rattle.load_model.specs.declared.plan.PlaceLine.{PlaceLine}
use Rattle.load_model.specs.Plan.{Fits}
use Rattle.run_model.specs.declared.job.Turn.{Turn}
use Rattle.run_model.specs.declared.job.Job.{Job}
use Rattle.job_text.specs.declared.given.Given.{Given}
use Rattle.job_text.specs.declared.limits.Limits.{Limits}
use Rattle.job_text.specs.Format.{first_format}
use Rattle.job_text.specs.declared.refusal.JobKind.{JobKind}
use Rattle.job_text.specs.declared.refusal.JobKind.TheVariants.{Twice, TooMany}
use Rattle.job_text.specs.declared.statement.Statement.{Statement}
use Rattle.job_text.specs.declared.statement.Statement.TheVariants.{Program, Memory, Descriptors, Stack, Steps, Mode, Place, Turn as TurnLine}
use Rattle.job_text.specs.Statement.{statement_of}
use Rattle.job_text.specs.Given.{given_by, place_refusal, repeat_refusal}
use Rattle.job_text.specs.Job.{given_behind, refusal_by, refused_at, first_refusal, given_with, job_of}
use Rattle.job_text.specs.parts.Sound.{IsWithin, AreFew, IsSound}
use Rattle.job_text.proofs.JobLines.{given_more}
use Rattle.job_text.proofs.JobValues.{job_is_made, job_fits}
use Rattle.job_text.proofs.StatementBounds.{behind_within, within_by}

none_at : (p : PlaceLine → Bool) (places : List PlaceLine) (k : ℕ) (d : PlaceLine) → list_any p places ≡ false → k < length places → p (get_or places k d) ≡ false
none_at p places k d none l = by_value (p (get_or places k d)) refl
  where
    by_value : (b : Bool) → p (get_or places k d) ≡ b → b ≡ false
    by_value false e = refl
    by_value true e = absurd (false≢true (sym none ∙ list_any_at p places k d l e))

other_name : (a b : List ℕ) → bytes_eq a b ≡ false → a ≢ b
other_name a b e same = false≢true (sym e ∙ (bytes_eq-Decides a b).1 same)

place_added : (limits : Limits) (places : List PlaceLine) (turns : List Turn) (line : PlaceLine) (named full : Bool)
    → list_any (λ (earlier : PlaceLine). bytes_eq earlier.name line.name) places ≡ named → nat_le limits.places (length places) ≡ full
    → (if named then Some Twice else if full then Some TooMany else None) ≡ None → AreFew limits places turns → AreFew limits (places ++ line ∷ []) turns
place_added limits places turns line true full p q e few = cc
place_added limits places turns line false true p q e few = cc
place_added limits places turns line false false p q e few = record {
  few_places = let room : length places < limits.places = grind (arith, nat_tests) in omega (arith, length-append places (line ∷ []));
  own_names = all_pairs_push (λ (a b : PlaceLine). a.name ≢ b.name) places line few.own_names
      (λ k d l. other_name (get_or places k d).name line.name (none_at (λ (earlier : PlaceLine). bytes_eq earlier.name line.name) places k d p l));
  few_turns = few.few_turns;
}

turn_added : (limits : Limits) (places : List PlaceLine) (turns : List Turn) (turn : Turn) (full : Bool)
    → nat_le limits.turns (length turns) ≡ full → (if full then Some TooMany else None) ≡ None → AreFew limits places turns → AreFew limits places (turns ++ turn ∷ [])
turn_added limits places turns turn true q e few = cc
turn_added limits places turns turn false q e few = record {
  few_places = few.few_places;
  own_names = few.own_names;
  few_turns = let room : length turns < limits.turns = grind (arith, nat_tests) in omega (arith, length-append turns (turn ∷ []));
}

abbrev FewGiven : Limits → Given → Type 0
FewGiven limits given = AreFew limits given.places given.turns

few_with : (limits : Limits) (given : Given) (said : Result (Option Statement) JobKind) → refusal_by limits given said ≡ None → FewGiven limits given → FewGiven limits (given_with said given)
unfolding repeat_refusal place_refusal
few_with limits given (Err kind) free few = few
few_with limits given (Ok None) free few = few
few_with limits given (Ok (Some (Place line))) free few =
    place_added limits given.places given.turns line (list_any (λ (earlier : PlaceLine). bytes_eq earlier.name line.name) given.places) (nat_le limits.places (length given.places)) refl refl free few
few_with limits given (Ok (Some (TurnLine turn))) free few =
    turn_added limits given.places given.turns turn (nat_le limits.turns (length given.turns)) refl free few
few_with limits given (Ok (Some (Program name))) free few = few
few_with limits given (Ok (Some (Memory n))) free few = few
few_with limits given (Ok (Some (Descriptors n))) free few = few
few_with limits given (Ok (Some (Stack n))) free few = few
few_with limits given (Ok (Some (Steps n))) free few = few
few_with limits given (Ok (Some (Mode lazy))) free few = few

few_along : (limits : Limits) (before lines : List (List ℕ)) → first_refusal limits before lines ≡ None → FewGiven limits (given_behind limits before) → FewGiven limits (given_behind limits (before ++ lines))
few_along limits before [] passes few = subst (λ ls. FewGiven limits (given_behind limits ls)) (sym (append-nil before)) few
few_along limits before (line ∷ lines) passes few = by_line (refusal_by limits (given_behind limits before) (statement_of limits line)) refl passes (few_along limits (before ++ line ∷ []) lines)
  where
    by_line : (o : Option JobKind) → refusal_by limits (given_behind limits before) (statement_of limits line) ≡ o
        → option_or (option_map (refused_at (length before + 2)) o) (first_refusal limits (before ++ line ∷ []) lines) ≡ None
        → (first_refusal limits (before ++ line ∷ []) lines ≡ None → FewGiven limits (given_behind limits (before ++ line ∷ [])) → FewGiven limits (given_behind limits ((before ++ line ∷ []) ++ lines)))
        → FewGiven limits (given_behind limits (before ++ line ∷ lines))
    by_line (Some kind) is e rest = cc
    by_line None is e rest =
        subst (λ ls. FewGiven limits (given_behind limits ls)) (append_assoc before (line ∷ []) lines)
        (rest e (subst (FewGiven limits) (given_more limits before line is) (few_with limits (given_behind limits before) (statement_of limits line) is few)))

none_few : (limits : Limits) → FewGiven limits (given_behind limits [])
unfolding given_by
none_few limits = record { few_places = omega arith; own_names = λ i j d l within. absurd (omega arith); few_turns = omega arith }

value_or : {X : Type 0} (P : X → Type 0) (o : Option X) (d : X) → IfSome o P → P d → P (unwrap_or o d)
value_or P None d p q = q
value_or P (Some x) d p q = p

-- the defaults lie within their bounds
pub record AreDefaults (limits : Limits) : Type 0 where
  pub memory : IsWithin limits.memory.bounds limits.memory.default
  pub descriptors : IsWithin limits.descriptors.bounds limits.descriptors.default
  pub stack : IsWithin limits.stack.bounds limits.stack.default
  pub steps : IsWithin limits.steps.bounds limits.steps.default

defaults_1 : AreDefaults first_format
defaults_1 = record {
  memory = within_by first_format.memory.bounds first_format.memory.default refl;
  descriptors = within_by first_format.descriptors.bounds first_format.descriptors.default refl;
  stack = within_by first_format.stack.bounds first_format.stack.default refl;
  steps = within_by first_format.steps.bounds first_format.steps.default refl;
}

named : (o : Option (List ℕ)) (name : List ℕ) → o ≡ Some name → IfSome o IsName → IsName name
named None name e p = cc
named (Some x) name e p = let same : x ≡ name = cc in subst IsName same p

sound_of : (limits : Limits) (lines : List (List ℕ)) (job : Job) → AreDefaults limits → job_of limits lines ≡ Ok job → IsSound limits job
sound_of limits lines job defaults e =
    let m = job_is_made limits lines job e in
    let given = given_behind limits (drop 1 lines) in
    let w = behind_within limits (drop 1 lines) in
    let few = few_along limits [] (drop 1 lines) m.passes (none_few limits) in
    subst (IsSound limits) (sym m.made.is) (record {
      fits = subst (λ (j : Job). Fits j.plan) m.made.is (job_fits limits lines job e);
      memory = value_or (IsWithin limits.memory.bounds) given.memory limits.memory.default w.memory defaults.memory;
      descriptors = value_or (IsWithin limits.descriptors.bounds) given.descriptors limits.descriptors.default w.descriptors defaults.descriptors;
      stack = value_or (IsWithin limits.stack.bounds) given.stack limits.stack.default w.stack defaults.stack;
      steps = value_or (IsWithin limits.steps.bounds) given.steps limits.steps.default w.steps defaults.steps;
      program = named given.program m.made.program m.made.named w.program;
      places = w.places;
      turns = w.turns;
      few = few;
    })

pub job_sound : (lines : List (List ℕ)) (job : Job) → job_of first_format lines ≡ Ok job → IsSound first_format job
job_sound lines job e = sound_of first_format lines job defaults_1 e
