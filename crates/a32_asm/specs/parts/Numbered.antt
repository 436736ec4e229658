-- Tables by the places of names.
use Rattle.std.specs.Prelude.{◌≡◌, ℕ, ◌+◌, ◌<◌, ◌==◌, Bool, false, ◌||◌, List, [], length, get_or}
use Rattle.std.specs.List.{list_any, position_or_len}
use Rattle.a32_asm.specs.SecondPass.{RelTo}
use Rattle.a32_asm.specs.Object.{names_it}

-- the flags of names, and those beside them that these relocations name
abbrev pub AreMarked : List (List ℕ) → List RelTo → List Bool → List Bool → Type 0
AreMarked names rels old new = (k : ℕ) → k < length names → get_or new k false ≡ (get_or old k false || names_it (get_or names k []) rels)

-- the flags of names that the relocations of sections name
abbrev pub AreNamed : List (List ℕ) → List (List RelTo) → List Bool → Type 0
AreNamed names sections named = (k : ℕ) → k < length names → get_or named k false ≡ list_any (names_it (get_or names k [])) sections

-- the number of each place among these, which begin with this number
abbrev pub AreNumbers : ℕ → List ℕ → List ℕ → Type 0
AreNumbers first places numbers = (k : ℕ) → k < length numbers → get_or numbers k 0 ≡ first + position_or_len (λ j. j == k) places
