-- Needs as the program tells them apart.
use Rattle.std.specs.Prelude.{ℕ, ◌+◌, List, map}
use Rattle.link_model.specs.declared.need.Need.{Need}
use Rattle.link_model.specs.declared.need.Need.TheVariants.{Word, FuncWord, Descriptor, NoFunction, Slot}
use Rattle.link_model.specs.declared.target.Key.{Key}
use Rattle.link_model.specs.declared.target.Key.TheVariants.{Name, Own}

abbrev pub code_with : ℕ → Key → ℕ × ℕ × ℕ
code_with named (Name k) = (named, k, 0)
code_with named (Own i n) = (named + 1, i, n)

abbrev pub code_of : Need → ℕ × ℕ × ℕ
code_of (Word key) = code_with 0 key
code_of (FuncWord key) = code_with 2 key
code_of (NoFunction key) = code_with 4 key
code_of (Slot key) = code_with 6 key
code_of (Descriptor address) = (8, address, 0)

abbrev pub entries_of : List Need → List ((ℕ × ℕ × ℕ) × Need)
entries_of needs = map (λ n. (code_of n, n)) needs
