-- What a linker knows once the symbols of all inputs are joined.
use Rattle.std.specs.Prelude.{◌≡◌, ℕ, ◌^◌, ◌<◌, List, length, map, take, All, Some, slice_get}
use Rattle.std.specs.List.{range_with_len, sum_by}
use Rattle.elf_model.specs.declared.relocatable.RelObject.{RelObject}
use Rattle.elf_model.specs.RelSound.{IsRelSound}
use Rattle.link_model.specs.declared.input.Mode.{Mode}
use Rattle.link_model.specs.declared.target.Key.{Key}
use Rattle.link_model.specs.declared.target.Key.TheVariants.{Name, Own}
use Rattle.link_model.specs.declared.target.Target.{Target}
use Rattle.link_model.specs.Joined.{names_of}
use Rattle.link_model.specs.Targets.{targets_of}

-- what is joined, and for what
pub record Joining : Type 0 where
  pub mode : Mode
  pub inputs : List RelObject

-- the sections of all inputs before input i
abbrev pub sections_before : List RelObject → ℕ → ℕ
sections_before inputs i = sum_by (λ o. length o.sections) (take i inputs)

-- of each input, how many sections come before its own
abbrev pub section_starts : List RelObject → List ℕ
section_starts inputs = map (sections_before inputs) (range_with_len 0 (length inputs))

-- accepted files, so few that inputs and sections have numbers of 32 bits
pub record AreInputs (inputs : List RelObject) : Type 0 where
  pub sound : All IsRelSound inputs
  pub few : length inputs < 2 ^ 32
  pub few_sections : sum_by (λ o. length o.sections) inputs < 2 ^ 32

-- names and targets by number
pub record AreJoined (joining : Joining) (names : List (List ℕ)) (targets : List Target) : Type 0 where
  pub names' : names ≡ names_of joining.inputs
  pub few_names : length names < 2 ^ 32
  pub targets' : targets ≡ targets_of joining.mode joining.inputs

-- there is an input of this number, and P of it
abbrev pub HasInput : List RelObject → ℕ → (RelObject → Type 0) → Type 0
HasInput inputs i P = (o : RelObject) × (slice_get inputs i ≡ Some o) × P o

-- whether a key names something of the inputs
abbrev pub IsKey : List RelObject → Key → Type 0
IsKey inputs (Name k) = k < length (names_of inputs)
IsKey inputs (Own i n) = HasInput inputs i (λ o. n < length o.symbols)
