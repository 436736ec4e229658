-- What holds of the statement of every line.
use Rattle.std.proofs.Common.{◌≡◌, ℕ, ◌≤◌, Bool, true, false, List, [], ◌∷◌, length, Option, Some, None, Result, Ok, Err, refl, sym, ap, arith}
use Rattle.std.specs.Prelude.{◌==◌, nat_le, nat_lt, ◌&&◌, is_none, if◌then◌else◌, option_map, option_and_then, All, IfSome}
use Rattle.std.specs.Option.{option_or, option_map_or}
use Rattle.std.specs.List.{filter_map, cons_option}
use Rattle.std.proofs.lemmas.Bool.Decides.{nat_tests}
use Rattle.std.proofs.lemmas.List.Elements.{All-nil, All-cons, All-head, All-tail}
use Rattle.fd_base.specs.parts.IsName.{IsName}
use Rattle.fd_base.specs.declared.name.NameErr.TheVariants.{Empty, TooLong, Zero}
use Rattle.fd_base.specs.Name.{first_zero, name_refusal_of}
use Rattle.fd_base.specs.Texts.{number_of}
use Rattle.job_text.specs.declared.limits.Bounds.{Bounds}
use Rattle.job_text.specs.declared.limits.Limits.{Limits}
use Rattle.job_text.specs.declared.refusal.JobKind.{JobKind}
use Rattle.job_text.specs.declared.refusal.JobKind.TheVariants.{Word as WrongWord, Form, Range}
use Rattle.job_text.specs.declared.statement.Word.{Word}
use Rattle.job_text.specs.declared.statement.Word.TheVariants.{Program as ProgramWord, Memory as MemoryWord, Descriptors as DescriptorsWord, Stack as StackWord, Steps as StepsWord, Mode as ModeWord, Place as PlaceWord, Turn as TurnWord}
use Rattle.job_text.specs.declared.statement.Statement.{Statement}
use Rattle.job_text.specs.declared.statement.Statement.TheVariants.{Program, Memory, Descriptors, Stack, Steps, Mode, Place, Turn as TurnLine}
use Rattle.job_text.specs.Limits.{is_within}
use Rattle.job_text.specs.Fields.{fields_of}
use Rattle.job_text.specs.Statement.{word_of, only_of, only_number, two_numbers, numbers_of, formed, name_of, program_of, number_in, mode_of, addresses_of, named_line, place_of, turn_of, said, said_by, is_comment, said_in, statement_of}
use Rattle.job_text.specs.declared.given.Given.{Given}
use Rattle.job_text.specs.Given.{first_of, program_in, memory_in, descriptors_in, stack_in, steps_in, place_in, turn_in, given_by}
use Rattle.job_text.specs.Job.{statement_in, given_behind}
use Rattle.job_text.specs.parts.Sound.{IsWithin, IsPlaceLine, IsTurn}

-- what holds of a statement
abbrev pub SaysWithin : Limits → Statement → Type 0
SaysWithin limits (Program name) = IsName name
SaysWithin limits (Memory n) = IsWithin limits.memory.bounds n
SaysWithin limits (Descriptors n) = IsWithin limits.descriptors.bounds n
SaysWithin limits (Stack n) = IsWithin limits.stack.bounds n
SaysWithin limits (Steps n) = IsWithin limits.steps.bounds n
SaysWithin limits (Mode lazy) = Unit {0}
SaysWithin limits (Place line) = IsPlaceLine limits line
SaysWithin limits (TurnLine turn) = IsTurn limits turn

-- P of the answer, where there is one
abbrev Holds : {X : Type 0} → (X → Type 0) → Result X JobKind → Type 0
Holds P (Ok x) = P x
Holds P (Err kind) = Unit {0}

pub within_by : (bounds : Bounds) (n : ℕ) → is_within bounds n ≡ true → IsWithin bounds n
within_by bounds n e = record { low = grind (arith, nat_tests); high = grind (arith, nat_tests); multiple = grind (arith, nat_tests) }

by_bounds : (bounds : Bounds) (n : ℕ) (b : Bool) → is_within bounds n ≡ b → Holds (IsWithin bounds) (if b then Ok n else Err Range)
by_bounds bounds n true e = within_by bounds n e
by_bounds bounds n false e = tt

number_by : (bounds : Bounds) (o : Option ℕ) → Holds (IsWithin bounds) (option_map_or (λ n. if is_within bounds n then Ok n else Err Range) o (Err Form))
number_by bounds None = tt
number_by bounds (Some n) = by_bounds bounds n (is_within bounds n) refl

number_within : (bounds : Bounds) (fields : List (List ℕ)) → Holds (IsWithin bounds) (number_in bounds fields)
unfolding number_in
number_within bounds fields = number_by bounds (only_number fields)

no_zero_by : (o : Option ℕ) → is_none (option_map Zero o) ≡ true → o ≡ None
no_zero_by None e = refl
no_zero_by (Some at) e = cc

name_by : (bytes : List ℕ) (a b : Bool) → (length bytes == 0) ≡ a → nat_lt 255 (length bytes) ≡ b
    → is_none (if a then Some Empty else if b then Some TooLong else option_map Zero (first_zero bytes)) ≡ true → IsName bytes
name_by bytes true b p q e = cc
name_by bytes false true p q e = cc
name_by bytes false false p q e = record {
  some_byte = grind (arith, nat_tests);
  short = grind (arith, nat_tests);
  no_zero = no_zero_by (first_zero bytes) e;
}

is_name : (bytes : List ℕ) → is_none (name_refusal_of bytes) ≡ true → IsName bytes
is_name bytes e = name_by bytes (length bytes == 0) (nat_lt 255 (length bytes)) refl refl e

by_name : (field : List ℕ) (b : Bool) → is_none (name_refusal_of field) ≡ b → Holds IsName (if b then Ok field else Err Form)
by_name field true e = is_name field e
by_name field false e = tt

name_holds : (field : List ℕ) → Holds IsName (name_of field)
name_holds field = by_name field (is_none (name_refusal_of field)) refl

program_by : (o : Option (List ℕ)) → Holds IsName (option_map_or name_of o (Err Form))
program_by None = tt
program_by (Some field) = name_holds field

program_holds : (fields : List (List ℕ)) → Holds IsName (program_of fields)
unfolding program_of
program_holds fields = program_by (only_of fields)

-- as many numbers as fields
more_numbers : (fields : List (List ℕ)) (field : List ℕ) (read : Option ℕ) (rest : Option (List ℕ)) → ((ns : List ℕ) → rest ≡ Some ns → length ns ≡ length fields) → (ns : List ℕ)
    → option_and_then (λ n. option_map (λ ms. n ∷ ms) rest) read ≡ Some ns → length ns ≡ length (field ∷ fields)
more_numbers fields field None rest is ns e = cc
more_numbers fields field (Some n) None is ns e = cc
more_numbers fields field (Some n) (Some ms) is ns e =
    let same : n ∷ ms ≡ ns = cc in
    let count : length (n ∷ ms) ≡ length ns = ap length same in omega (arith, is ms refl)

length_numbers : (fields : List (List ℕ)) (ns : List ℕ) → numbers_of fields ≡ Some ns → length ns ≡ length fields
length_numbers [] ns e = let same : [] ≡ ns = cc in sym (ap length same)
length_numbers (field ∷ fields) ns e = more_numbers fields field (number_of field) (numbers_of fields) (length_numbers fields) ns e

abbrev HasFew : ℕ → List ℕ → Type 0
HasFew most addrs = (1 ≤ length addrs) × (length addrs ≤ most)

by_numbers : (most : ℕ) (fields : List (List ℕ)) (o : Option (List ℕ)) → numbers_of fields ≡ o → (nat_le 1 (length fields) && nat_le (length fields) most) ≡ true → Holds (HasFew most) (formed o)
by_numbers most fields None is e = tt
by_numbers most fields (Some ns) is e =
    let count : length ns ≡ length fields = length_numbers fields ns is in
    let low : 1 ≤ length fields = grind (arith, nat_tests) in
    let high : length fields ≤ most = grind (arith, nat_tests) in (omega arith, omega arith)

by_count : (most : ℕ) (fields : List (List ℕ)) (b : Bool) → (nat_le 1 (length fields) && nat_le (length fields) most) ≡ b → Holds (HasFew most) (if b then formed (numbers_of fields) else Err Form)
by_count most fields true e = by_numbers most fields (numbers_of fields) refl e
by_count most fields false e = tt

addresses_hold : (most : ℕ) (fields : List (List ℕ)) → Holds (HasFew most) (addresses_of most fields)
unfolding addresses_of
addresses_hold most fields = by_count most fields (nat_le 1 (length fields) && nat_le (length fields) most) refl

place_by : (limits : Limits) (name addrs : Result (List ℕ) JobKind) → Holds IsName name → Holds (HasFew limits.addresses) addrs → Holds (IsPlaceLine limits) (named_line name addrs)
place_by limits (Err kind) addrs p q = tt
place_by limits (Ok name) (Err kind) p q = tt
place_by limits (Ok name) (Ok addrs) p q = record { name = p; some = q.0; few = q.1 }

place_holds : (limits : Limits) (fields : List (List ℕ)) → Holds (IsPlaceLine limits) (place_of limits.addresses fields)
unfolding place_of
place_holds limits [] = tt
place_holds limits (field ∷ fields) = place_by limits (name_of field) (addresses_of limits.addresses fields) (name_holds field) (addresses_hold limits.addresses fields)

by_turn : (limits : Limits) (n : ℕ × ℕ) (a b : Bool) → is_within limits.thread n.0 ≡ a → is_within limits.count n.1 ≡ b
    → Holds (IsTurn limits) (if a && b then Ok (record { thread = n.0; count = n.1 }) else Err Range)
by_turn limits n true true p q = record { thread = within_by limits.thread n.0 p; count = within_by limits.count n.1 q }
by_turn limits n true false p q = tt
by_turn limits n false b p q = tt

turn_by : (limits : Limits) (o : Option (ℕ × ℕ))
    → Holds (IsTurn limits) (option_map_or (λ (n : ℕ × ℕ). if is_within limits.thread n.0 && is_within limits.count n.1 then Ok (record { thread = n.0; count = n.1 }) else Err Range) o (Err Form))
turn_by limits None = tt
turn_by limits (Some n) = by_turn limits n (is_within limits.thread n.0) (is_within limits.count n.1) refl refl

turn_holds : (limits : Limits) (fields : List (List ℕ)) → Holds (IsTurn limits) (turn_of limits.thread limits.count fields)
unfolding turn_of
turn_holds limits fields = turn_by limits (two_numbers fields)

said_holds : {X : Type 0} (P : X → Type 0) (Q : Statement → Type 0) (f : X → Statement) (r : Result X JobKind) → ((x : X) → P x → Q (f x)) → Holds P r → Holds Q (said f r)
said_holds P Q f (Ok x) each p = each x p
said_holds P Q f (Err kind) each p = tt

any_holds : {X : Type 0} (r : Result X JobKind) → Holds (λ _. Unit {0}) r
any_holds (Ok x) = tt
any_holds (Err kind) = tt

said_by_holds : (limits : Limits) (word : Word) (fields : List (List ℕ)) → Holds (SaysWithin limits) (said_by limits word fields)
unfolding said_by
said_by_holds limits ProgramWord fields = said_holds IsName (SaysWithin limits) Program (program_of fields) (λ x p. p) (program_holds fields)
said_by_holds limits MemoryWord fields = said_holds (IsWithin limits.memory.bounds) (SaysWithin limits) Memory (number_in limits.memory.bounds fields) (λ x p. p) (number_within limits.memory.bounds fields)
said_by_holds limits DescriptorsWord fields = said_holds (IsWithin limits.descriptors.bounds) (SaysWithin limits) Descriptors (number_in limits.descriptors.bounds fields) (λ x p. p) (number_within limits.descriptors.bounds fields)
said_by_holds limits StackWord fields = said_holds (IsWithin limits.stack.bounds) (SaysWithin limits) Stack (number_in limits.stack.bounds fields) (λ x p. p) (number_within limits.stack.bounds fields)
said_by_holds limits StepsWord fields = said_holds (IsWithin limits.steps.bounds) (SaysWithin limits) Steps (number_in limits.steps.bounds fields) (λ x p. p) (number_within limits.steps.bounds fields)
said_by_holds limits ModeWord fields = said_holds (λ _. Unit {0}) (SaysWithin limits) Mode (mode_of fields) (λ x p. p) (any_holds (mode_of fields))
said_by_holds limits PlaceWord fields = said_holds (IsPlaceLine limits) (SaysWithin limits) Place (place_of limits.addresses fields) (λ x p. p) (place_holds limits fields)
said_by_holds limits TurnWord fields = said_holds (IsTurn limits) (SaysWithin limits) TurnLine (turn_of limits.thread limits.count fields) (λ x p. p) (turn_holds limits fields)

by_said : (limits : Limits) (r : Result Statement JobKind) → Holds (SaysWithin limits) r → IfSome (statement_in (said Some r)) (SaysWithin limits)
by_said limits (Ok s) p = p
by_said limits (Err kind) p = tt

by_word : (limits : Limits) (fields : List (List ℕ)) (o : Option Word) → IfSome (statement_in (option_map_or (λ word. said Some (said_by limits word fields)) o (Err WrongWord))) (SaysWithin limits)
by_word limits fields None = tt
by_word limits fields (Some word) = by_said limits (said_by limits word fields) (said_by_holds limits word fields)

by_comment : (limits : Limits) (first : List ℕ) (fields : List (List ℕ)) (b : Bool)
    → IfSome (statement_in (if b then Ok None else option_map_or (λ word. said Some (said_by limits word fields)) (word_of first) (Err WrongWord))) (SaysWithin limits)
by_comment limits first fields true = tt
by_comment limits first fields false = by_word limits fields (word_of first)

in_line : (limits : Limits) (fields : List (List ℕ)) → IfSome (statement_in (said_in limits fields)) (SaysWithin limits)
in_line limits [] = tt
in_line limits (first ∷ fields) = by_comment limits first fields (is_comment first)

statement_within : (limits : Limits) (line : List ℕ) → IfSome (statement_in (statement_of limits line)) (SaysWithin limits)
unfolding statement_of
statement_within limits line = in_line limits (fields_of line)

-- ---- lists of values

cons_holds : {Y : Type 0} (P : Y → Type 0) (o : Option Y) (ys : List Y) → IfSome o P → All P ys → All P (cons_option o ys)
cons_holds P None ys p q = q
cons_holds P (Some y) ys p q = All-cons P y ys p q

each_value : {X Y : Type 0} (Q : X → Type 0) (P : Y → Type 0) (h : X → Option Y) → ((x : X) → Q x → IfSome (h x) P) → (xs : List X) → All Q xs → All P (filter_map h xs)
each_value Q P h each [] all = All-nil P
each_value Q P h each (x ∷ xs) all = cons_holds P (h x) (filter_map h xs) (each x (All-head Q x xs all)) (each_value Q P h each xs (All-tail Q x xs all))

each_line : {X Y : Type 0} (P : Y → Type 0) (h : X → Option Y) → ((x : X) → IfSome (h x) P) → (xs : List X) → All P (filter_map h xs)
each_line P h each [] = All-nil P
each_line P h each (x ∷ xs) = cons_holds P (h x) (filter_map h xs) (each x) (each_line P h each xs)

or_holds : {X : Type 0} (P : X → Type 0) (o p : Option X) → IfSome o P → IfSome p P → IfSome (option_or o p) P
or_holds P None p a b = b
or_holds P (Some x) p a b = a

pub first_holds : {X : Type 0} (Q : Statement → Type 0) (P : X → Type 0) (value : Statement → Option X) → ((s : Statement) → Q s → IfSome (value s) P) → (ss : List Statement) → All Q ss → IfSome (first_of value ss) P
first_holds Q P value each [] all = tt
first_holds Q P value each (s ∷ ss) all = or_holds P (value s) (first_of value ss) (each s (All-head Q s ss all)) (first_holds Q P value each ss (All-tail Q s ss all))

memory_each : (limits : Limits) (s : Statement) → SaysWithin limits s → IfSome (memory_in s) (IsWithin limits.memory.bounds)
memory_each limits (Memory n) w = w
memory_each limits other w = tt

descriptors_each : (limits : Limits) (s : Statement) → SaysWithin limits s → IfSome (descriptors_in s) (IsWithin limits.descriptors.bounds)
descriptors_each limits (Descriptors n) w = w
descriptors_each limits other w = tt

stack_each : (limits : Limits) (s : Statement) → SaysWithin limits s → IfSome (stack_in s) (IsWithin limits.stack.bounds)
stack_each limits (Stack n) w = w
stack_each limits other w = tt

steps_each : (limits : Limits) (s : Statement) → SaysWithin limits s → IfSome (steps_in s) (IsWithin limits.steps.bounds)
steps_each limits (Steps n) w = w
steps_each limits other w = tt

program_each : (limits : Limits) (s : Statement) → SaysWithin limits s → IfSome (program_in s) IsName
program_each limits (Program name) w = w
program_each limits other w = tt

place_each : (limits : Limits) (s : Statement) → SaysWithin limits s → IfSome (place_in s) (IsPlaceLine limits)
place_each limits (Place line) w = w
place_each limits other w = tt

turn_each : (limits : Limits) (s : Statement) → SaysWithin limits s → IfSome (turn_in s) (IsTurn limits)
turn_each limits (TurnLine turn) w = w
turn_each limits other w = tt

-- what holds of what lines give
pub record GivenWithin (limits : Limits) (given : Given) : Type 0 where
  pub program : IfSome given.program IsName
  pub memory : IfSome given.memory (IsWithin limits.memory.bounds)
  pub descriptors : IfSome given.descriptors (IsWithin limits.descriptors.bounds)
  pub stack : IfSome given.stack (IsWithin limits.stack.bounds)
  pub steps : IfSome given.steps (IsWithin limits.steps.bounds)
  pub places : All (IsPlaceLine limits) given.places
  pub turns : All (IsTurn limits) given.turns

given_within : (limits : Limits) (ss : List Statement) → All (SaysWithin limits) ss → GivenWithin limits (given_by ss)
unfolding given_by
given_within limits ss all = record {
  program = first_holds (SaysWithin limits) IsName program_in (program_each limits) ss all;
  memory = first_holds (SaysWithin limits) (IsWithin limits.memory.bounds) memory_in (memory_each limits) ss all;
  descriptors = first_holds (SaysWithin limits) (IsWithin limits.descriptors.bounds) descriptors_in (descriptors_each limits) ss all;
  stack = first_holds (SaysWithin limits) (IsWithin limits.stack.bounds) stack_in (stack_each limits) ss all;
  steps = first_holds (SaysWithin limits) (IsWithin limits.steps.bounds) steps_in (steps_each limits) ss all;
  places = each_value (SaysWithin limits) (IsPlaceLine limits) place_in (place_each limits) ss all;
  turns = each_value (SaysWithin limits) (IsTurn limits) turn_in (turn_each limits) ss all;
}

pub behind_within : (limits : Limits) (lines : List (List ℕ)) → GivenWithin limits (given_behind limits lines)
behind_within limits lines =
    given_within limits (filter_map (λ line. statement_in (statement_of limits line)) lines)
    (each_line (SaysWithin limits) (λ line. statement_in (statement_of limits line)) (statement_within limits) lines)
