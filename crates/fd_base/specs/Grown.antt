-- How the bytes of a sink grow.
use Rattle.std.specs.Prelude.{◌≡◌, ℕ, List, ◌++◌, Option, Result, Ok, Err, option_map}
use Rattle.fd_base.specs.declared.sink.SinkErr.{SinkErr}
use Rattle.fd_base.specs.declared.sink.SinkErr.TheVariants.{Failed, Memory}
use Rattle.fd_base.specs.Faults.{Rose}

-- new is old with the piece behind it, where it is told
abbrev pub Grew : Option (List ℕ) → Option (List ℕ) → List ℕ → Type 0
Grew old new piece = new ≡ option_map (λ bytes. bytes ++ piece) old

-- new is old with a prefix of the piece behind it
pub record GrewByPart (old new : Option (List ℕ)) (piece : List ℕ) : Type 0 where
  pub part : List ℕ
  pub rest : List ℕ
  pub prefix : piece ≡ part ++ rest
  pub grew : Grew old new part

-- the answer of a put of the piece, with the bytes and the counts of faults before and after it
abbrev pub SinkAnswers : Option (List ℕ) → Option (List ℕ) → List ℕ → ℕ → ℕ → Result (Unit {0}) SinkErr → Type 0
SinkAnswers bytes later piece old new (Ok u) = Grew bytes later piece
SinkAnswers bytes later piece old new (Err Failed) = Rose old new × GrewByPart bytes later piece
SinkAnswers bytes later piece old new (Err Memory) = later ≡ bytes
