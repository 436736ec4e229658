-- What the program answers, as the definitions have it.
use Rattle.std.specs.Prelude.{◌≡◌, Result, Ok, Err}
use Rattle.a32_text.specs.Token.{Token, Word, Mark, Gap}
use Rattle.a32_text.specs.Statement.{Statement, Whole, Branch, Literal}
use Rattle.a32_text.specs.declared.refusal.AsmKind.{AsmKind}
use Rattle.a32_text.specs.declared.scanner.Token.{Token as Scanned}
use Rattle.a32_text.specs.declared.scanner.Token.TheVariants as scanned
use Rattle.a32_text.specs.declared.statement.InstrStatement.{InstrStatement}
use Rattle.a32_text.specs.declared.statement.InstrStatement.TheVariants as said

abbrev pub shown_token : Scanned → Token
shown_token (scanned.Word bytes) = Word bytes.now
shown_token (scanned.Mark byte) = Mark byte
shown_token scanned.Gap = Gap

abbrev pub shown_statement : InstrStatement → Statement
shown_statement (said.Instr i) = Whole i
shown_statement (said.Branch cond link name) = Branch cond link name.now
shown_statement (said.Literal cond d name) = Literal cond d name.now

-- an answer is this statement, or this refusal
abbrev pub Says : Result InstrStatement AsmKind → Result Statement AsmKind → Type 0
Says (Ok statement) wanted = wanted ≡ Ok (shown_statement statement)
Says (Err kind) wanted = wanted ≡ Err kind
