-- The kinds of refusals, one by one.
use Rattle.std.proofs.Common.{◌≡◌, ℕ, ◌≤◌, Bool, true, false, List, [], ◌∷◌, length, Option, Some, None, Result, Ok, Err, refl, sym, ap, ◌∙◌, subst, arith, inl, inr}
use Rattle.std.specs.Prelude.{nat_le, ◌&&◌, if◌then◌else◌, is_none, is_some, option_and_then, Any, IsSome, ◌↔◌, ◌⊎◌}
use Rattle.std.specs.Option.{option_map_or}
use Rattle.std.specs.List.{list_any}
use Rattle.std.specs.Str.{bytes_eq}
use Rattle.std.proofs.lemmas.Bool.{false≢true}
use Rattle.std.proofs.lemmas.Bool.Decides.{nat_tests}
use Rattle.std.proofs.lemmas.List.Folds.{Any-from_list_any, list_any-from_Any}
use Rattle.std.proofs.lemmas.Slice.Eq.{bytes_eq-Decides}
use Rattle.fd_base.specs.Name.{name_refusal_of}
use Rattle.load_model.specs.declared.plan.MemPlan.{MemPlan}
use Rattle.load_model.specs.declared.plan.PlaceLine.{PlaceLine}
use Rattle.load_model.specs.Plan.{Fits}
use Rattle.run_model.specs.declared.job.Turn.{Turn}
use Rattle.job_text.specs.declared.given.Given.{Given}
use Rattle.job_text.specs.declared.limits.Bounds.{Bounds}
use Rattle.job_text.specs.declared.limits.Limits.{Limits}
use Rattle.job_text.specs.declared.refusal.JobKind.{JobKind}
use Rattle.job_text.specs.declared.refusal.JobKind.TheVariants.{Word as WrongWord, Form, Range, Twice, TooMany, NoProgram, Small}
use Rattle.job_text.specs.declared.statement.Word.{Word}
use Rattle.job_text.specs.declared.statement.Word.TheVariants.{Program as ProgramWord, Memory as MemoryWord, Descriptors as DescriptorsWord, Stack as StackWord, Steps as StepsWord, Mode as ModeWord, Place as PlaceWord, Turn as TurnWord}
use Rattle.job_text.specs.declared.statement.Statement.{Statement}
use Rattle.job_text.specs.declared.statement.Statement.TheVariants.{Program, Memory, Descriptors, Stack, Steps, Mode, Place, Turn as TurnLine}
use Rattle.job_text.specs.Limits.{is_within}
use Rattle.job_text.specs.Fields.{fields_of}
use Rattle.job_text.specs.Statement.{word_of, only_of, lazy_of, only_number, two_numbers, numbers_of, formed, name_of, program_of, number_in, mode_of, addresses_of, named_line, place_of, turn_of, said, said_by, is_comment, said_in, statement_of}
use Rattle.job_text.specs.Given.{once, place_refusal, repeat_refusal, has_room, plan_by, job_of_program, job_by}
use Rattle.job_text.specs.Job.{refusal_by}
use Rattle.job_text.proofs.JobValues.{room_fits}
use Rattle.job_text.specs.parts.Kinds.{HasNoWord, IsGiven, IsFull, SaysTwice, SaysTooMany}

-- ---- which kinds a line by itself has

abbrev IsFormOrRange : JobKind → Type 0
IsFormOrRange Form = Unit {0}
IsFormOrRange Range = Unit {0}
IsFormOrRange other = ⊥

abbrev Errs : {X : Type 0} → Result X JobKind → Type 0
Errs (Ok x) = Unit {0}
Errs (Err kind) = IsFormOrRange kind

by_test : {X : Type 0} (b : Bool) (x : X) → Errs (if b then Ok x else Err Range)
by_test true x = tt
by_test false x = tt

by_form : {X : Type 0} (b : Bool) (r : Result X JobKind) → Errs r → Errs (if b then r else Err Form)
by_form true r e = e
by_form false r e = tt

formed_errs : {X : Type 0} (o : Option X) → Errs (formed o)
formed_errs None = tt
formed_errs (Some x) = tt

number_by : (bounds : Bounds) (o : Option ℕ) → Errs (option_map_or (λ n. if is_within bounds n then Ok n else Err Range) o (Err Form))
number_by bounds None = tt
number_by bounds (Some n) = by_test (is_within bounds n) n

number_errs : (bounds : Bounds) (fields : List (List ℕ)) → Errs (number_in bounds fields)
unfolding number_in
number_errs bounds fields = number_by bounds (only_number fields)

name_errs : (field : List ℕ) → Errs (name_of field)
name_errs field = by_form (is_none (name_refusal_of field)) (Ok field) tt

program_by : (o : Option (List ℕ)) → Errs (option_map_or name_of o (Err Form))
program_by None = tt
program_by (Some field) = name_errs field

program_errs : (fields : List (List ℕ)) → Errs (program_of fields)
unfolding program_of
program_errs fields = program_by (only_of fields)

mode_errs : (fields : List (List ℕ)) → Errs (mode_of fields)
unfolding mode_of
mode_errs fields = formed_errs (option_and_then lazy_of (only_of fields))

addresses_errs : (most : ℕ) (fields : List (List ℕ)) → Errs (addresses_of most fields)
unfolding addresses_of
addresses_errs most fields = by_form (nat_le 1 (length fields) && nat_le (length fields) most) (formed (numbers_of fields)) (formed_errs (numbers_of fields))

place_by : (name addrs : Result (List ℕ) JobKind) → Errs name → Errs addrs → Errs (named_line name addrs)
place_by (Err kind) addrs p q = p
place_by (Ok name) (Err kind) p q = q
place_by (Ok name) (Ok addrs) p q = tt

place_errs : (most : ℕ) (fields : List (List ℕ)) → Errs (place_of most fields)
unfolding place_of
place_errs most [] = tt
place_errs most (field ∷ fields) = place_by (name_of field) (addresses_of most fields) (name_errs field) (addresses_errs most fields)

abbrev turn_by : Bounds → Bounds → ℕ × ℕ → Result Turn JobKind
turn_by threads counts n = if is_within threads n.0 && is_within counts n.1 then Ok (record { thread = n.0; count = n.1 }) else Err Range

turn_by_errs : (threads counts : Bounds) (o : Option (ℕ × ℕ)) → Errs (option_map_or (turn_by threads counts) o (Err Form))
turn_by_errs threads counts None = tt
turn_by_errs threads counts (Some n) = by_test (is_within threads n.0 && is_within counts n.1) (record { thread = n.0; count = n.1 })

turn_errs : (threads counts : Bounds) (fields : List (List ℕ)) → Errs (turn_of threads counts fields)
unfolding turn_of
turn_errs threads counts fields = turn_by_errs threads counts (two_numbers fields)

said_errs : {X Y : Type 0} (f : X → Y) (r : Result X JobKind) → Errs r → Errs (said f r)
said_errs f (Ok x) e = tt
said_errs f (Err kind) e = e

said_by_errs : (limits : Limits) (word : Word) (fields : List (List ℕ)) → Errs (said_by limits word fields)
unfolding said_by
said_by_errs limits ProgramWord fields = said_errs Program (program_of fields) (program_errs fields)
said_by_errs limits MemoryWord fields = said_errs Memory (number_in limits.memory.bounds fields) (number_errs limits.memory.bounds fields)
said_by_errs limits DescriptorsWord fields = said_errs Descriptors (number_in limits.descriptors.bounds fields) (number_errs limits.descriptors.bounds fields)
said_by_errs limits StackWord fields = said_errs Stack (number_in limits.stack.bounds fields) (number_errs limits.stack.bounds fields)
said_by_errs limits StepsWord fields = said_errs Steps (number_in limits.steps.bounds fields) (number_errs limits.steps.bounds fields)
said_by_errs limits ModeWord fields = said_errs Mode (mode_of fields) (mode_errs fields)
said_by_errs limits PlaceWord fields = said_errs Place (place_of limits.addresses fields) (place_errs limits.addresses fields)
said_by_errs limits TurnWord fields = said_errs TurnLine (turn_of limits.thread limits.count fields) (turn_errs limits.thread limits.count fields)

-- these fields begin with no word of jobs, and with no comment
abbrev NoWordIn : List (List ℕ) → Type 0
NoWordIn fields = (word : List ℕ) × (rest : List (List ℕ)) × (fields ≡ word ∷ rest) × (is_comment word ≡ false) × (word_of word ≡ None)

-- the two ways in which a line by itself is wrong
abbrev Why : List (List ℕ) → JobKind → Type 0
Why fields kind = ((kind ≡ WrongWord) × NoWordIn fields) ⊎ IsFormOrRange kind

by_said : (r : Result Statement JobKind) (kind : JobKind) → Errs r → said Some r ≡ Err kind → IsFormOrRange kind
by_said (Ok s) kind p e = absurd cc
by_said (Err k) kind p e = let same : k ≡ kind = cc in subst IsFormOrRange same p

by_word : (limits : Limits) (word : List ℕ) (rest : List (List ℕ)) (kind : JobKind) (o : Option Word) → is_comment word ≡ false → word_of word ≡ o
    → option_map_or (λ w. said Some (said_by limits w rest)) o (Err WrongWord) ≡ Err kind → Why (word ∷ rest) kind
by_word limits word rest kind None comment is e = let same : kind ≡ WrongWord = cc in inl (same, (word, rest, refl, comment, is))
by_word limits word rest kind (Some w) comment is e = inr (by_said (said_by limits w rest) kind (said_by_errs limits w rest) e)

by_comment : (limits : Limits) (word : List ℕ) (rest : List (List ℕ)) (kind : JobKind) (b : Bool) → is_comment word ≡ b
    → (if b then Ok None else option_map_or (λ w. said Some (said_by limits w rest)) (word_of word) (Err WrongWord)) ≡ Err kind → Why (word ∷ rest) kind
by_comment limits word rest kind true comment e = absurd cc
by_comment limits word rest kind false comment e = by_word limits word rest kind (word_of word) comment refl e

in_fields : (limits : Limits) (fields : List (List ℕ)) (kind : JobKind) → said_in limits fields ≡ Err kind → Why fields kind
in_fields limits [] kind e = absurd cc
in_fields limits (word ∷ rest) kind e = by_comment limits word rest kind (is_comment word) refl e

in_line : (limits : Limits) (line : List ℕ) (kind : JobKind) → statement_of limits line ≡ Err kind → Why (fields_of line) kind
unfolding statement_of
in_line limits line kind e = in_fields limits (fields_of line) kind e

-- ---- the tests by which a further statement is refused

abbrev by_tests : Bool → Bool → Option JobKind
by_tests same full = if same then Some Twice else if full then Some TooMany else None

-- a refusal is that of two tests: the same is given, and there are too many
record IsTested (refusal : Option JobKind) (Same Full : Type 0) : Type 0 where
  same : Bool
  full : Bool
  refusal' : refusal ≡ by_tests same full
  is_same : (same ≡ true) ↔ Same
  is_full : (full ≡ true) ↔ Full

never : (false ≡ true) ↔ ⊥
never = ((λ e. false≢true e), (λ none. absurd none))

once_is : {X : Type 0} (o : Option X) → once o ≡ by_tests (is_some o) false
once_is None = refl
once_is (Some x) = refl

once_tested : {X : Type 0} (o : Option X) → IsTested (once o) (IsSome o) ⊥
once_tested o = record { same = is_some o; full = false; refusal' = once_is o; is_same = ((λ e. e), (λ e. e)); is_full = never }

at_most : (a b : ℕ) → nat_le a b ≡ true → a ≤ b
at_most a b e = grind (arith, nat_tests)

most_at : (a b : ℕ) → a ≤ b → nat_le a b ≡ true
most_at a b l = grind (arith, nat_tests)

abbrev is_of : PlaceLine → PlaceLine → Bool
is_of line earlier = bytes_eq earlier.name line.name

same_name : (places : List PlaceLine) (line : PlaceLine) → list_any (is_of line) places ≡ true → Any (λ (earlier : PlaceLine). earlier.name ≡ line.name) places
same_name places line e = let a = Any-from_list_any (is_of line) places e in (a.0, a.1, a.2, a.3, (bytes_eq-Decides a.1.name line.name).0 a.4)

name_same : (places : List PlaceLine) (line : PlaceLine) → Any (λ (earlier : PlaceLine). earlier.name ≡ line.name) places → list_any (is_of line) places ≡ true
name_same places line a = list_any-from_Any (is_of line) places (a.0, a.1, a.2, a.3, (bytes_eq-Decides a.1.name line.name).1 a.4)

tested : (limits : Limits) (given : Given) (s : Statement) → IsTested (repeat_refusal limits given s) (IsGiven given s) (IsFull limits given s)
unfolding repeat_refusal place_refusal
tested limits given (Program name) = once_tested given.program
tested limits given (Memory n) = once_tested given.memory
tested limits given (Descriptors n) = once_tested given.descriptors
tested limits given (Stack n) = once_tested given.stack
tested limits given (Steps n) = once_tested given.steps
tested limits given (Mode lazy) = once_tested given.lazy
tested limits given (Place line) = record {
  same = list_any (is_of line) given.places;
  full = nat_le limits.places (length given.places);
  refusal' = refl;
  is_same = (same_name given.places line, name_same given.places line);
  is_full = (at_most limits.places (length given.places), most_at limits.places (length given.places));
}
tested limits given (TurnLine turn) = record {
  same = false;
  full = nat_le limits.turns (length given.turns);
  refusal' = refl;
  is_same = never;
  is_full = (at_most limits.turns (length given.turns), most_at limits.turns (length given.turns));
}

abbrev IsRepeat : Option JobKind → Type 0
IsRepeat None = Unit {0}
IsRepeat (Some Twice) = Unit {0}
IsRepeat (Some TooMany) = Unit {0}
IsRepeat (Some other) = ⊥

by_tests_repeats : (same full : Bool) → IsRepeat (by_tests same full)
by_tests_repeats true full = tt
by_tests_repeats false true = tt
by_tests_repeats false false = tt

repeats : (limits : Limits) (given : Given) (s : Statement) → IsRepeat (repeat_refusal limits given s)
repeats limits given s = let t = tested limits given s in subst IsRepeat (sym t.refusal') (by_tests_repeats t.same t.full)

some_same : (a b : JobKind) → Some a ≡ Some b → a ≡ b
some_same a b e = cc

-- ---- Word, Form and Range: what is wrong with the line by itself

by_itself : (limits : Limits) (given : Given) (kind : JobKind) (r : Result (Option Statement) JobKind) → (IsRepeat (Some kind) → ⊥)
    → refusal_by limits given r ≡ Some kind → r ≡ Err kind
by_itself limits given kind (Err k) none e = ap Err (some_same k kind e)
by_itself limits given kind (Ok None) none e = absurd cc
by_itself limits given kind (Ok (Some s)) none e = absurd (none (subst IsRepeat e (repeats limits given s)))

pub is_form : (limits : Limits) (given : Given) (line : List ℕ) → (refusal_by limits given (statement_of limits line) ≡ Some Form) ↔ (statement_of limits line ≡ Err Form)
is_form limits given line = ((λ e. by_itself limits given Form (statement_of limits line) (λ never. never) e), (λ e. ap (refusal_by limits given) e))

pub is_range : (limits : Limits) (given : Given) (line : List ℕ) → (refusal_by limits given (statement_of limits line) ≡ Some Range) ↔ (statement_of limits line ≡ Err Range)
is_range limits given line = ((λ e. by_itself limits given Range (statement_of limits line) (λ never. never) e), (λ e. ap (refusal_by limits given) e))

no_word : (line : List ℕ) → Why (fields_of line) WrongWord → HasNoWord line
no_word line (inl (e, (word, rest, are, comment, none))) = record { word = word; fields = rest; are_fields = are; no_comment = comment; no_word = none }
no_word line (inr never) = absurd never

wrong_word : (limits : Limits) (line : List ℕ) → HasNoWord line → statement_of limits line ≡ Err WrongWord
unfolding statement_of
wrong_word limits line h = rw (h.are_fields, h.no_comment, h.no_word) refl

pub is_word : (limits : Limits) (given : Given) (line : List ℕ) → (refusal_by limits given (statement_of limits line) ≡ Some WrongWord) ↔ HasNoWord line
is_word limits given line = (
  (λ e. no_word line (in_line limits line WrongWord (by_itself limits given WrongWord (statement_of limits line) (λ never. never) e))),
  (λ h. ap (refusal_by limits given) (wrong_word limits line h)),
)

-- ---- Twice and TooMany: what rules the line's statement out

-- a line by itself is wrong in no other way
not_by_itself : (limits : Limits) (line : List ℕ) (kind wanted : JobKind) → statement_of limits line ≡ Err kind → kind ≡ wanted
    → (wanted ≡ WrongWord → ⊥) → (IsFormOrRange wanted → ⊥) → ⊥
not_by_itself limits line kind wanted is same no_word neither =
    elim (in_line limits line kind is) [ inl w ↦ no_word (sym same ∙ w.0) | inr one ↦ neither (subst IsFormOrRange same one) ]

twice_same : (same full : Bool) → by_tests same full ≡ Some Twice → same ≡ true
twice_same true full e = refl
twice_same false true e = absurd cc
twice_same false false e = absurd cc

same_twice : (same full : Bool) → same ≡ true → by_tests same full ≡ Some Twice
same_twice true full e = refl
same_twice false full e = absurd (false≢true e)

given_twice : (limits : Limits) (given : Given) (s : Statement) → repeat_refusal limits given s ≡ Some Twice → IsGiven given s
given_twice limits given s e = let t = tested limits given s in t.is_same.0 (twice_same t.same t.full (sym t.refusal' ∙ e))

twice_given : (limits : Limits) (given : Given) (s : Statement) → IsGiven given s → repeat_refusal limits given s ≡ Some Twice
twice_given limits given s g = let t = tested limits given s in t.refusal' ∙ same_twice t.same t.full (t.is_same.1 g)

by_twice : (limits : Limits) (given : Given) (line : List ℕ) (r : Result (Option Statement) JobKind) → statement_of limits line ≡ r → refusal_by limits given r ≡ Some Twice → SaysTwice limits given line
by_twice limits given line (Err kind) is e = absurd (not_by_itself limits line kind Twice is (some_same kind Twice e) (λ word. cc) (λ none. none))
by_twice limits given line (Ok None) is e = absurd cc
by_twice limits given line (Ok (Some s)) is e = record { statement = s; said = is; is_given = given_twice limits given s e }

pub is_twice : (limits : Limits) (given : Given) (line : List ℕ) → (refusal_by limits given (statement_of limits line) ≡ Some Twice) ↔ SaysTwice limits given line
is_twice limits given line = (
  (λ e. by_twice limits given line (statement_of limits line) refl e),
  (λ h. ap (refusal_by limits given) h.said ∙ twice_given limits given h.statement h.is_given),
)

many_full : (same full : Bool) → by_tests same full ≡ Some TooMany → full ≡ true
many_full true full e = absurd cc
many_full false true e = refl
many_full false false e = absurd cc

full_many : (same full : Bool) → (same ≡ true → ⊥) → full ≡ true → by_tests same full ≡ Some TooMany
full_many true full other e = absurd (other refl)
full_many false true other e = refl
full_many false false other e = absurd (false≢true e)

given_full : (limits : Limits) (given : Given) (s : Statement) → repeat_refusal limits given s ≡ Some TooMany → IsFull limits given s
given_full limits given s e = let t = tested limits given s in t.is_full.0 (many_full t.same t.full (sym t.refusal' ∙ e))

full_given : (limits : Limits) (given : Given) (s : Statement) → (IsGiven given s → ⊥) → IsFull limits given s → repeat_refusal limits given s ≡ Some TooMany
full_given limits given s not_given full =
    let t = tested limits given s in
    t.refusal' ∙ full_many t.same t.full (λ e. not_given (t.is_same.0 e)) (t.is_full.1 full)

twice_or_many : (o : Option JobKind) → o ≡ Some TooMany → o ≡ Some Twice → ⊥
twice_or_many o p q = cc

by_many : (limits : Limits) (given : Given) (line : List ℕ) (r : Result (Option Statement) JobKind) → statement_of limits line ≡ r → refusal_by limits given r ≡ Some TooMany → SaysTooMany limits given line
by_many limits given line (Err kind) is e = absurd (not_by_itself limits line kind TooMany is (some_same kind TooMany e) (λ word. cc) (λ none. none))
by_many limits given line (Ok None) is e = absurd cc
by_many limits given line (Ok (Some s)) is e = record {
  statement = s;
  said = is;
  not_given = λ g. twice_or_many (repeat_refusal limits given s) e (twice_given limits given s g);
  is_full = given_full limits given s e;
}

pub is_too_many : (limits : Limits) (given : Given) (line : List ℕ) → (refusal_by limits given (statement_of limits line) ≡ Some TooMany) ↔ SaysTooMany limits given line
is_too_many limits given line = (
  (λ e. by_many limits given line (statement_of limits line) refl e),
  (λ h. ap (refusal_by limits given) h.said ∙ full_given limits given h.statement h.not_given h.is_full),
)

-- ---- NoProgram and Small: what the lines give together

by_room : (limits : Limits) (given : Given) (program : List ℕ) (b : Bool) → (if b then Ok (job_of_program limits given program) else Err Small) ≡ Err NoProgram → ⊥
by_room limits given program true e = cc
by_room limits given program false e = cc

by_program : (limits : Limits) (given : Given) (o : Option (List ℕ))
    → option_map_or (λ p. if has_room (plan_by limits given) then Ok (job_of_program limits given p) else Err Small) o (Err NoProgram) ≡ Err NoProgram → o ≡ None
by_program limits given None e = refl
by_program limits given (Some program) e = absurd (by_room limits given program (has_room (plan_by limits given)) e)

pub is_no_program : (limits : Limits) (given : Given) → (job_by limits given ≡ Err NoProgram) ↔ (given.program ≡ None)
unfolding job_by
is_no_program limits given = ((λ e. by_program limits given given.program e), (λ e. rw e refl))

fits_room : (plan : MemPlan) → Fits plan → has_room plan ≡ true
fits_room plan f = let a = f.stacks in let b = f.modules in let t = f.some_threads in let p = f.some_processes in grind (arith, nat_tests)

room_or : (limits : Limits) (given : Given) (program : List ℕ) (b : Bool) → has_room (plan_by limits given) ≡ b → (if b then Ok (job_of_program limits given program) else Err Small) ≡ Err Small → Fits (plan_by limits given) → ⊥
room_or limits given program true is e f = cc
room_or limits given program false is e f = false≢true (sym is ∙ fits_room (plan_by limits given) f)

small_by : (limits : Limits) (given : Given) (o : Option (List ℕ))
    → option_map_or (λ p. if has_room (plan_by limits given) then Ok (job_of_program limits given p) else Err Small) o (Err NoProgram) ≡ Err Small → IsSome o × (Fits (plan_by limits given) → ⊥)
small_by limits given None e = absurd cc
small_by limits given (Some program) e = (refl, room_or limits given program (has_room (plan_by limits given)) refl e)

by_small : (limits : Limits) (given : Given) (program : List ℕ) (b : Bool) → has_room (plan_by limits given) ≡ b → (Fits (plan_by limits given) → ⊥)
    → (if b then Ok (job_of_program limits given program) else Err Small) ≡ Err Small
by_small limits given program true is never = absurd (never (room_fits (plan_by limits given) is))
by_small limits given program false is never = refl

small_from : (limits : Limits) (given : Given) (o : Option (List ℕ)) → IsSome o → (Fits (plan_by limits given) → ⊥)
    → option_map_or (λ p. if has_room (plan_by limits given) then Ok (job_of_program limits given p) else Err Small) o (Err NoProgram) ≡ Err Small
small_from limits given None some never = absurd (false≢true some)
small_from limits given (Some program) some never = by_small limits given program (has_room (plan_by limits given)) refl never

pub is_small : (limits : Limits) (given : Given) → (job_by limits given ≡ Err Small) ↔ (IsSome given.program × (¬ Fits (plan_by limits given)))
unfolding job_by
is_small limits given = ((λ e. small_by limits given given.program e), (λ h. small_from limits given given.program h.0 h.1))
