-- The answer of putting a text piece by piece.
use Rattle.std.specs.Prelude.{ℕ, List, Option, Result, Ok, Err}
use Rattle.fd_base.specs.declared.sink.SinkErr.{SinkErr}
use Rattle.fd_base.specs.declared.sink.SinkErr.TheVariants.{Failed, Memory}
use Rattle.fd_base.specs.Faults.{Rose}
use Rattle.fd_base.specs.Grown.{Grew, GrewByPart}

-- With the bytes and the counts of faults before and after: all of it was put, or a prefix.
abbrev pub Puts : Option (List ℕ) → Option (List ℕ) → List ℕ → ℕ → ℕ → Result (Unit {0}) SinkErr → Type 0
Puts bytes later text old new (Ok u) = Grew bytes later text
Puts bytes later text old new (Err Failed) = Rose old new × GrewByPart bytes later text
Puts bytes later text old new (Err Memory) = GrewByPart bytes later text
