-- What one line of a job says, or what is wrong with it by itself.
use Rattle.std.specs.Prelude.{ℕ, Bool, true, false, nat_le, ◌&&◌, ◌==◌, is_none, List, [], ◌∷◌, length, codes, if◌then◌else◌, Option, Some, None, Result, Ok, Err, option_map, option_and_then}
use Rattle.std.specs.Option.{option_map_or}
use Rattle.std.specs.Str.{bytes_eq}
use Rattle.fd_base.specs.Texts.{number_of}
use Rattle.fd_base.specs.Name.{name_refusal_of}
use Rattle.load_model.specs.declared.plan.PlaceLine.{PlaceLine}
use Rattle.run_model.specs.declared.job.Turn.{Turn}
use Rattle.job_text.specs.declared.limits.Bounds.{Bounds}
use Rattle.job_text.specs.declared.limits.Limits.{Limits}
use Rattle.job_text.specs.declared.refusal.JobKind.{JobKind}
use Rattle.job_text.specs.declared.refusal.JobKind.TheVariants.{Word as WrongWord, Form, Range}
use Rattle.job_text.specs.declared.statement.Word.{Word}
use Rattle.job_text.specs.declared.statement.Word.TheVariants.{Program as ProgramWord, Memory as MemoryWord, Descriptors as DescriptorsWord, Stack as StackWord, Steps as StepsWord, Mode as ModeWord, Place as PlaceWord, Turn as TurnWord}
use Rattle.job_text.specs.declared.statement.Statement.{Statement}
use Rattle.job_text.specs.declared.statement.Statement.TheVariants.{Program, Memory, Descriptors, Stack, Steps, Mode, Place, Turn as TurnLine}
use Rattle.job_text.specs.Limits.{is_within}
use Rattle.job_text.specs.Fields.{fields_of}

-- the word that a field is
abbrev pub word_of : List ℕ → Option Word
word_of field =
    if bytes_eq field (codes "program") then Some ProgramWord
    else if bytes_eq field (codes "memory") then Some MemoryWord
    else if bytes_eq field (codes "descriptors") then Some DescriptorsWord
    else if bytes_eq field (codes "stack") then Some StackWord
    else if bytes_eq field (codes "steps") then Some StepsWord
    else if bytes_eq field (codes "mode") then Some ModeWord
    else if bytes_eq field (codes "place") then Some PlaceWord
    else if bytes_eq field (codes "turn") then Some TurnWord
    else None

-- the field where there is just one
abbrev pub only_of : List (List ℕ) → Option (List ℕ)
only_of [] = None
only_of (field ∷ []) = Some field
only_of (field ∷ second ∷ more) = None

abbrev pub only_number : List (List ℕ) → Option ℕ
only_number fields = option_and_then number_of (only_of fields)

-- the numbers where there are just two fields
abbrev pub two_numbers : List (List ℕ) → Option (ℕ × ℕ)
two_numbers [] = None
two_numbers (field ∷ fields) = option_and_then (λ first. option_map (λ second. (first, second)) (only_number fields)) (number_of field)

-- the number of each field
abbrev pub numbers_of : List (List ℕ) → Option (List ℕ)
numbers_of [] = Some []
numbers_of (field ∷ fields) = option_and_then (λ n. option_map (λ ns. n ∷ ns) (numbers_of fields)) (number_of field)

-- the value, or else Form
abbrev pub formed : {X : Type 0} → Option X → Result X JobKind
formed None = Err Form
formed (Some x) = Ok x

abbrev pub name_of : List ℕ → Result (List ℕ) JobKind
name_of field = if is_none (name_refusal_of field) then Ok field else Err Form

-- the name behind `program`
unfoldable pub program_of : List (List ℕ) → Result (List ℕ) JobKind
program_of fields = option_map_or name_of (only_of fields) (Err Form)

-- the number behind a word that sets one: Form where there isn't one number, then Range
unfoldable pub number_in : Bounds → List (List ℕ) → Result ℕ JobKind
number_in bounds fields = option_map_or (λ n. if is_within bounds n then Ok n else Err Range) (only_number fields) (Err Form)

-- whether the mode is lazy
abbrev pub lazy_of : List ℕ → Option Bool
lazy_of field = if bytes_eq field (codes "lazy") then Some true else if bytes_eq field (codes "eager") then Some false else None

unfoldable pub mode_of : List (List ℕ) → Result Bool JobKind
mode_of fields = formed (option_and_then lazy_of (only_of fields))

-- 1 to most addresses
unfoldable pub addresses_of : ℕ → List (List ℕ) → Result (List ℕ) JobKind
addresses_of most fields = if nat_le 1 (length fields) && nat_le (length fields) most then formed (numbers_of fields) else Err Form

-- the place line of a name and the addresses behind it
abbrev pub place_line : List ℕ → Result (List ℕ) JobKind → Result PlaceLine JobKind
place_line name (Ok addrs) = Ok (record { name = name; addrs = addrs })
place_line name (Err kind) = Err kind

-- the place line of a name that may be none
abbrev pub named_line : Result (List ℕ) JobKind → Result (List ℕ) JobKind → Result PlaceLine JobKind
named_line (Ok name) addrs = place_line name addrs
named_line (Err kind) addrs = Err kind

unfoldable pub place_of : ℕ → List (List ℕ) → Result PlaceLine JobKind
place_of most [] = Err Form
place_of most (field ∷ fields) = named_line (name_of field) (addresses_of most fields)

-- the thread and the count behind `turn`
unfoldable pub turn_of : Bounds → Bounds → List (List ℕ) → Result Turn JobKind
turn_of threads counts fields =
    option_map_or (λ (n : ℕ × ℕ). if is_within threads n.0 && is_within counts n.1 then Ok (record { thread = n.0; count = n.1 }) else Err Range)
    (two_numbers fields) (Err Form)

-- the same answer, as a statement
abbrev pub said : {X Y : Type 0} → (X → Y) → Result X JobKind → Result Y JobKind
said as_statement (Ok x) = Ok (as_statement x)
said as_statement (Err kind) = Err kind

-- what the word and the fields behind it say
unfoldable pub said_by : Limits → Word → List (List ℕ) → Result Statement JobKind
said_by limits ProgramWord fields = said Program (program_of fields)
said_by limits MemoryWord fields = said Memory (number_in limits.memory.bounds fields)
said_by limits DescriptorsWord fields = said Descriptors (number_in limits.descriptors.bounds fields)
said_by limits StackWord fields = said Stack (number_in limits.stack.bounds fields)
said_by limits StepsWord fields = said Steps (number_in limits.steps.bounds fields)
said_by limits ModeWord fields = said Mode (mode_of fields)
said_by limits PlaceWord fields = said Place (place_of limits.addresses fields)
said_by limits TurnWord fields = said TurnLine (turn_of limits.thread limits.count fields)

-- whether a field begins a comment, by `#`
abbrev pub is_comment : List ℕ → Bool
is_comment [] = false
is_comment (byte ∷ bytes) = byte == 0x23

-- what the fields of a line say: None where there is none, and for a comment
abbrev pub said_in : Limits → List (List ℕ) → Result (Option Statement) JobKind
said_in limits [] = Ok None
said_in limits (first ∷ fields) =
    if is_comment first then Ok None
    else option_map_or (λ word. said Some (said_by limits word fields)) (word_of first) (Err WrongWord)

unfoldable pub statement_of : Limits → List ℕ → Result (Option Statement) JobKind
statement_of limits line = said_in limits (fields_of line)
