-- The lines of a job one after another.
use Rattle.std.proofs.Common.{◌≡◌, ℕ, ◌+◌, List, [], ◌∷◌, ◌++◌, length, Option, Some, None, Result, Ok, Err, refl, sym, ap, ◌∙◌, subst, arith, append_assoc, append-nil, length-append}
use Rattle.std.specs.Option.{option_or}
use Rattle.std.specs.List.{filter_map}
use Rattle.std.proofs.lemmas.List.Elements.{filter_map-append}
use Rattle.fd_base.proofs.Options.{or_none}
use Rattle.job_text.specs.declared.given.Given.{Given}
use Rattle.job_text.specs.declared.limits.Limits.{Limits}
use Rattle.job_text.specs.declared.refusal.JobKind.{JobKind}
use Rattle.job_text.specs.declared.statement.Statement.{Statement}
use Rattle.job_text.specs.declared.statement.Statement.TheVariants.{Program, Memory, Descriptors, Stack, Steps, Mode, Place, Turn as TurnLine}
use Rattle.job_text.specs.declared.refusal.LineErr.{LineErr}
use Rattle.job_text.specs.declared.refusal.LineErr.TheVariants.{Refused, Memory as NoMemory}
use Rattle.job_text.specs.parts.Answers.{IsOf, IsRefusal, err_at}
use Rattle.job_text.specs.Statement.{statement_of}
use Rattle.job_text.specs.Given.{first_of, program_in, memory_in, descriptors_in, stack_in, steps_in, lazy_in, given_by, with_statement, repeat_refusal, once}
use Rattle.job_text.specs.Job.{statement_in, given_behind, refusal_by, first_refusal, given_with}

or_assoc : {X : Type 0} (o p q : Option X) → option_or o (option_or p q) ≡ option_or (option_or o p) q
or_assoc None p q = refl
or_assoc (Some x) p q = refl

-- one more statement
first_of-push : {X : Type 0} (value : Statement → Option X) (statements : List Statement) (s : Statement) → first_of value (statements ++ s ∷ []) ≡ option_or (first_of value statements) (value s)
first_of-push value [] s = or_none (value s)
first_of-push value (t ∷ statements) s = ap (option_or (value t)) (first_of-push value statements s) ∙ or_assoc (value t) (first_of value statements) (value s)

nothing_given : {X : Type 0} (o : Option X) → once o ≡ None → o ≡ None
nothing_given None free = refl
nothing_given (Some x) free = cc

-- what is given once a statement is added that nothing rules out
added : (limits : Limits) (ss : List Statement) (s : Statement) → repeat_refusal limits (given_by ss) s ≡ None → with_statement s (given_by ss) ≡ given_by (ss ++ s ∷ [])
unfolding given_by repeat_refusal
added limits ss (Program name) free = let e = nothing_given (first_of program_in ss) free in simp (first_of-push, filter_map-append, or_none, append-nil, e)
added limits ss (Memory n) free = let e = nothing_given (first_of memory_in ss) free in simp (first_of-push, filter_map-append, or_none, append-nil, e)
added limits ss (Descriptors n) free = let e = nothing_given (first_of descriptors_in ss) free in simp (first_of-push, filter_map-append, or_none, append-nil, e)
added limits ss (Stack n) free = let e = nothing_given (first_of stack_in ss) free in simp (first_of-push, filter_map-append, or_none, append-nil, e)
added limits ss (Steps n) free = let e = nothing_given (first_of steps_in ss) free in simp (first_of-push, filter_map-append, or_none, append-nil, e)
added limits ss (Mode lazy) free = let e = nothing_given (first_of lazy_in ss) free in simp (first_of-push, filter_map-append, or_none, append-nil, e)
added limits ss (Place line) free = simp (first_of-push, filter_map-append, or_none, append-nil)
added limits ss (TurnLine turn) free = simp (first_of-push, filter_map-append, or_none, append-nil)

abbrev statements : Limits → List (List ℕ) → List Statement
statements limits lines = filter_map (λ line. statement_in (statement_of limits line)) lines

-- what is given once a line is added that nothing rules out
line_added : (limits : Limits) (ss : List Statement) (said : Result (Option Statement) JobKind) → refusal_by limits (given_by ss) said ≡ None
    → given_with said (given_by ss) ≡ given_by (ss ++ filter_map (λ (r : Result (Option Statement) JobKind). statement_in r) (said ∷ []))
line_added limits ss (Err kind) free = cc
line_added limits ss (Ok None) free = ap given_by (sym (append-nil ss))
line_added limits ss (Ok (Some s)) free = added limits ss s free

pub given_more : (limits : Limits) (before : List (List ℕ)) (line : List ℕ) → refusal_by limits (given_behind limits before) (statement_of limits line) ≡ None
    → given_with (statement_of limits line) (given_behind limits before) ≡ given_behind limits (before ++ line ∷ [])
given_more limits before line free =
    line_added limits (statements limits before) (statement_of limits line) free
    ∙ ap given_by (sym (filter_map-append (λ (l : List ℕ). statement_in (statement_of limits l)) before (line ∷ [])))

-- what the first lines give, where these are left of all the lines behind the first one
pub record Taken (limits : Limits) (lines left : List (List ℕ)) (given : Given) (last : ℕ) : Type 0 where
  pub done : List (List ℕ)
  pub parts : lines ≡ done ++ left
  pub number : last ≡ length done + 1
  pub given_is : given ≡ given_behind limits done
  pub same : first_refusal limits [] lines ≡ first_refusal limits done left

pub Taken-none : (limits : Limits) (lines : List (List ℕ)) (given : Given) (last : ℕ) → last ≡ 1 → given ≡ given_behind limits [] → Taken limits lines lines given last
Taken-none limits lines given last first nothing = record { done = []; parts = refl; number = omega arith; given_is = nothing; same = refl }

pub Taken-more : (limits : Limits) (lines left : List (List ℕ)) (given : Given) (last : ℕ) (line : List ℕ) (rest : List (List ℕ)) (number : ℕ) (new : Given)
    → Taken limits lines left given last → left ≡ line ∷ rest → number ≡ last + 1
    → refusal_by limits given (statement_of limits line) ≡ None → new ≡ given_with (statement_of limits line) given → Taken limits lines rest new number
Taken-more limits lines left given last line rest number new t is next free taken =
    let free' : refusal_by limits (given_behind limits t.done) (statement_of limits line) ≡ None = subst (λ (g : Given). refusal_by limits g (statement_of limits line) ≡ None) t.given_is free in
    record {
      done = t.done ++ line ∷ [];
      parts = t.parts ∙ ap (λ ls. t.done ++ ls) is ∙ sym (append_assoc t.done (line ∷ []) rest);
      number = omega (arith, t.number, length-append t.done (line ∷ []));
      given_is = taken ∙ ap (given_with (statement_of limits line)) t.given_is ∙ given_more limits t.done line free';
      same = t.same ∙ ap (first_refusal limits t.done) is ∙ rw free' refl;
    }

pub Taken-refused : (limits : Limits) (lines left : List (List ℕ)) (given : Given) (last : ℕ) (line : List ℕ) (rest : List (List ℕ)) (number : ℕ) (e : LineErr)
    → Taken limits lines left given last → left ≡ line ∷ rest → number ≡ last + 1
    → IsOf e (refusal_by limits given (statement_of limits line)) → IsRefusal (err_at number e) (first_refusal limits [] lines)
Taken-refused limits lines left given last line rest number NoMemory t is next why = tt
Taken-refused limits lines left given last line rest number (Refused kind) t is next why =
    let why' : refusal_by limits (given_behind limits t.done) (statement_of limits line) ≡ Some kind = subst (λ (g : Given). refusal_by limits g (statement_of limits line) ≡ Some kind) t.given_is why in
    let at : length t.done + 2 ≡ number = omega (arith, t.number) in
    t.same ∙ ap (first_refusal limits t.done) is ∙ rw (why', at) refl

-- all lines are taken
pub record TakenAll (limits : Limits) (lines : List (List ℕ)) (given : Given) (last : ℕ) : Type 0 where
  pub passes : first_refusal limits [] lines ≡ None
  pub given_is : given ≡ given_behind limits lines
  pub number : last ≡ length lines + 1

pub Taken-all : (limits : Limits) (lines left : List (List ℕ)) (given : Given) (last : ℕ) → left ≡ [] → Taken limits lines left given last → TakenAll limits lines given last
Taken-all limits lines left given last is t =
    let whole : lines ≡ t.done = t.parts ∙ ap (λ ls. t.done ++ ls) is ∙ append-nil t.done in record {
      passes = t.same ∙ ap (first_refusal limits t.done) is;
      given_is = t.given_is ∙ ap (given_behind limits) (sym whole);
      number = t.number ∙ ap (λ ls. length ls + 1) (sym whole);
    }

pub ruleset taking = (Taken-none, Taken-more, Taken-refused, Taken-all)
