-- The listed forms of words.
use Rattle.std.specs.Prelude.{ℕ, ◌^◌, nat_eq, nat_lt, List, [], ◌∷◌, length, drop, Option, Some, None, is_none, option_map, if◌then◌else◌, codes}
use Rattle.std.specs.List.{starts_with, list_all}
use Rattle.std.specs.Option.{option_map_or}
use Rattle.std.specs.Str.{bytes_eq}
use Rattle.fd_base.specs.Name.{name_refusal_of}
use Rattle.fd_base.specs.Texts.{number_of}
use Rattle.fdpic_cmd.specs.declared.command.Command.{Command}
use Rattle.fdpic_cmd.specs.declared.command.Command.TheVariants.{As, Bind, BindJob, Code, Link, Run, Show}
use Rattle.link_model.specs.declared.input.Mode.{Mode}
use Rattle.link_model.specs.declared.input.Mode.TheVariants.{Program, Shared, Static}

-- a word as the name of a file, where it is one
unfoldable pub name_of : List ℕ → Option (List ℕ)
name_of word = if is_none (name_refusal_of word) then Some word else None

abbrev pub as_with : Option (List ℕ) → Option (List ℕ) → Option Command
as_with (Some out) (Some input) = Some (As out input)
as_with (Some out) None = None
as_with None input = None

-- as OUT IN
abbrev pub as_of : List (List ℕ) → Option Command
as_of (out ∷ input ∷ []) = as_with (name_of out) (name_of input)
as_of _ = None

abbrev pub bind_with : Option (List ℕ) → Option ℕ → Option ℕ → Option Command
bind_with (Some file) (Some text) (Some data') = Some (Bind file text data')
bind_with (Some file) (Some text) None = None
bind_with (Some file) None data' = None
bind_with None text data' = None

-- bind JOB and bind F TEXT DATA
abbrev pub bind_of : List (List ℕ) → Option Command
bind_of (job ∷ []) = option_map BindJob (name_of job)
bind_of (file ∷ text ∷ data' ∷ []) = bind_with (name_of file) (number_of text) (number_of data')
bind_of _ = None

-- one file
abbrev pub file_of : List (List ℕ) → Option (List ℕ)
file_of [] = None
file_of (file ∷ []) = name_of file
file_of (file ∷ other ∷ rest) = None

-- code F
abbrev pub code_of : List (List ℕ) → Option Command
code_of words = option_map Code (file_of words)

-- what an object is linked as
abbrev pub mode_of : List ℕ → Option Mode
mode_of word =
    if bytes_eq word (codes "program") then Some Program
    else if bytes_eq word (codes "shared") then Some Shared
    else if bytes_eq word (codes "static") then Some Static
    else None

-- the file of a library, where the word names one: `lib=F`
abbrev pub library_in : List ℕ → Option (List ℕ)
library_in word = if starts_with nat_eq word (codes "lib=") then name_of (drop 4 word) else None

-- those that the first words name
abbrev pub libraries_of : List (List ℕ) → List (List ℕ)
libraries_of [] = []
libraries_of (word ∷ words) = option_map_or (λ name. name ∷ libraries_of words) (library_in word) []

-- the words, where each is the name of a file
abbrev pub names_of : List (List ℕ) → Option (List (List ℕ))
names_of words = if list_all (λ word. is_none (name_refusal_of word)) words then Some words else None

abbrev pub link_with : Option (List ℕ) → Option Mode → List (List ℕ) → Option (List (List ℕ)) → Option Command
link_with (Some out) (Some mode) libs (Some (input ∷ inputs)) = Some (Link out mode libs (input ∷ inputs))
link_with (Some out) (Some mode) libs (Some []) = None
link_with (Some out) (Some mode) libs None = None
link_with (Some out) None libs inputs = None
link_with None mode libs inputs = None

-- link OUT MODE [lib=F].. IN..: libraries first, and at least one input. Files are numbered by 32 bits.
abbrev pub link_of : List (List ℕ) → Option Command
link_of (out ∷ mode ∷ files) =
    if nat_lt (length files) (2 ^ 32) then link_with (name_of out) (mode_of mode) (libraries_of files) (names_of (drop (length (libraries_of files)) files)) else None
link_of _ = None

-- run JOB
abbrev pub run_of : List (List ℕ) → Option Command
run_of words = option_map Run (file_of words)

-- show F
abbrev pub show_of : List (List ℕ) → Option Command
show_of words = option_map Show (file_of words)

-- The command of the words, by the first of them. None where they have no listed form.
abbrev pub command_of : List (List ℕ) → Option Command
command_of [] = None
command_of (verb ∷ rest) =
    if bytes_eq verb (codes "as") then as_of rest
    else if bytes_eq verb (codes "bind") then bind_of rest
    else if bytes_eq verb (codes "code") then code_of rest
    else if bytes_eq verb (codes "link") then link_of rest
    else if bytes_eq verb (codes "run") then run_of rest
    else if bytes_eq verb (codes "show") then show_of rest
    else None
