-- What it means that a printed instruction is read again.
use Rattle.std.specs.Prelude.{◌≡◌, Ok}
use Rattle.a32_isa.specs.Text.{text_of}
use Rattle.a32_isa.specs.declared.instr.Instr.{Instr}
use Rattle.a32_text.specs.Statement.{statement_of, Whole}

-- the statement of its text is the instruction
abbrev pub IsReadBack : Instr → Type 0
IsReadBack i = statement_of (text_of i) ≡ Ok (Whole i)
