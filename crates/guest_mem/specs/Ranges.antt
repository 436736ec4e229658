-- Ranges of lists, and ranges mapped, unmapped and watched.
use Rattle.std.specs.Prelude.{ℕ, ◌+◌, true, false, List, [], ◌∷◌, Option, set, replicate}
use Rattle.guest_mem.specs.declared.kind.MemKind.{MemKind}
use Rattle.guest_mem.specs.Memory.{GuestMemory}

-- a list with others put one after another from a place on, as far as it reaches
abbrev pub pasted : {X : Type 0} → List X → ℕ → List X → List X
pasted xs place [] = xs
pasted xs place (y ∷ ys) = pasted (set xs place y) (place + 1) ys

-- a list with one value at each of `len` places from one on
abbrev pub filled : {X : Type 0} → List X → ℕ → ℕ → X → List X
filled xs start len x = pasted xs start (replicate len x)

-- a range mapped as one kind, or with none no longer mapped; no mark stays there
abbrev pub with_kind : GuestMemory → ℕ → ℕ → Option MemKind → GuestMemory
with_kind m start len kind = record m { kinds = filled m.kinds start len kind; marks = filled m.marks start len false }

-- a range that is watched
abbrev pub with_marks : GuestMemory → ℕ → ℕ → GuestMemory
with_marks m start len = record m { marks = filled m.marks start len true }
