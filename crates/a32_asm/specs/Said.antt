-- What a line says.
use Rattle.std.specs.Prelude.{ℕ, Bool, List, Option}
use Rattle.a32_text.specs.Statement.{Statement as Instruction}

pub data Statement : Type 0 where
  Nothing : Statement
  -- an instruction, or one with a name
  Instr : Instruction → Statement
  -- chooses the section of this number
  Section : ℕ → Statement
  -- that a name is global, or weak
  Bind : List ℕ → Bool → Statement
  -- the visibility of a name
  Show : List ℕ → ℕ → Statement
  -- the type of a name
  Kind : List ℕ → ℕ → Statement
  Word : ℕ → Statement
  -- a word with a relocation on a name: its kind and what is added
  WordOf : List ℕ → ℕ → ℕ → Statement
  Byte : ℕ → Statement
  -- the bytes of a string, without the zero behind them
  Text : List ℕ → Statement
  Space : ℕ → Statement
  Align : ℕ → Statement

pub record Said : Type 0 where
  pub label : Option (List ℕ)
  pub statement : Statement
