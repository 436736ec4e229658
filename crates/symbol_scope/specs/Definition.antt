-- The definition of a name in a scope: that of the first module which has one.
use Rattle.std.specs.Prelude.{ℕ, List, find, Option, is_some, option_map, option_and_then}
use Rattle.symbol_scope.specs.declared.tables.Found.{Found}

-- by the first exported definition of the name in each module
abbrev pub first_definition : (ℕ → Option ℕ) → List ℕ → Option Found
first_definition export_of scope =
    option_and_then (λ m. option_map (λ symbol. record { «module» = m; symbol = symbol }) (export_of m)) (find (λ m. is_some (export_of m)) scope)
