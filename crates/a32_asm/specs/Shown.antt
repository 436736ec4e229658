-- What the program answers, as the definitions have it.
use Rattle.std.specs.Prelude.{◌≡◌, List, [], ◌∷◌, ◌++◌, replicate, ℕ, Option, Some, None, Result, Ok, Err, option_map}
use Rattle.std.specs.Borrow.{Bor}
use Rattle.a32_text.specs.Shown.{shown_statement as shown_instruction}
use Rattle.a32_text.specs.declared.refusal.AsmKind.{AsmKind}
use Rattle.a32_asm.specs.declared.said.Statement.{Statement as Read}
use Rattle.a32_asm.specs.declared.said.Statement.TheVariants as read
use Rattle.a32_asm.specs.declared.said.Said.{Said as SaidRead}
use Rattle.byteorder.specs.Endian.{little_bytes}
use Rattle.a32_asm.specs.declared.put.Put.{Put as PutRead}
use Rattle.a32_asm.specs.declared.put.Put.TheVariants as puts
use Rattle.a32_asm.specs.declared.contents.RelTo.{RelTo as RelRead}
use Rattle.a32_asm.specs.SecondPass.{Put, RelTo}
use Rattle.a32_asm.specs.Said.{Said, Statement, Nothing, Instr, Section, Bind, Show, Kind, Word, WordOf, Byte, Text, Space, Align}

abbrev pub shown_bytes : Option (Bor (List ℕ)) → Option (List ℕ)
shown_bytes bytes = option_map (λ (b : Bor (List ℕ)). b.now) bytes

abbrev pub shown_statement : Read → Statement
shown_statement read.Nothing = Nothing
shown_statement (read.Instr i) = Instr (shown_instruction i)
shown_statement (read.Section number) = Section number
shown_statement (read.Bind name weak) = Bind name.now weak
shown_statement (read.Show name visibility) = Show name.now visibility
shown_statement (read.Kind name kind) = Kind name.now kind
shown_statement (read.Word n) = Word n
shown_statement (read.WordOf name kind add) = WordOf name.now kind add
shown_statement (read.Byte n) = Byte n
shown_statement (read.Text bytes) = Text bytes.now
shown_statement (read.Space n) = Space n
shown_statement (read.Align n) = Align n

abbrev pub shown_said : SaidRead → Said
shown_said said = record { label = shown_bytes said.label; statement = shown_statement said.statement }

-- an answer is this statement, or this refusal
abbrev pub States : Result Read AsmKind → Result Statement AsmKind → Type 0
States (Ok statement) wanted = wanted ≡ Ok (shown_statement statement)
States (Err kind) wanted = wanted ≡ Err kind

-- an answer is what a line says, or this refusal
abbrev pub Says : Result SaidRead AsmKind → Result Said AsmKind → Type 0
Says (Ok said) wanted = wanted ≡ Ok (shown_said said)
Says (Err kind) wanted = wanted ≡ Err kind

abbrev pub shown_put : PutRead → Put
shown_put puts.Nothing = record { bytes = []; rel = None }
shown_put (puts.Word word) = record { bytes = little_bytes 4 word; rel = None }
shown_put (puts.WordOf word kind name) = record { bytes = little_bytes 4 word; rel = Some (kind, name.now) }
shown_put (puts.Byte byte) = record { bytes = byte ∷ []; rel = None }
shown_put (puts.Text bytes) = record { bytes = bytes.now ++ 0 ∷ []; rel = None }
shown_put (puts.Zeros n) = record { bytes = replicate n 0; rel = None }

-- an answer is what a statement puts, or this refusal
abbrev pub Puts : Result PutRead AsmKind → Result Put AsmKind → Type 0
Puts (Ok put) wanted = wanted ≡ Ok (shown_put put)
Puts (Err kind) wanted = wanted ≡ Err kind

abbrev pub shown_rel : RelRead → RelTo
shown_rel rel = record { site = rel.site; kind = rel.kind; name = rel.name.now }
