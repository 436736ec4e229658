-- Symbols by their names.
use Rattle.std.specs.Prelude.{ℕ, not, ◌&&◌, nat_lt, List, [], ◌∷◌, length, get_or, map, filter, is_none}
use Rattle.std.specs.List.{flat_map}
use Rattle.std.specs.Str.{bytes_eq}
use Rattle.elf_model.specs.declared.constants.TheConstants.{STB_GLOBAL}
use Rattle.elf_model.specs.declared.relocatable.RelObject.{RelObject}
use Rattle.symbol_scope.specs.Closure.{firsts}
use Rattle.link_model.specs.declared.error.LinkRefusal.TheVariants.{Twice, Undefined}
use Rattle.link_model.specs.declared.input.Mode.{Mode}
use Rattle.link_model.specs.declared.target.Target.{Target}
use Rattle.link_model.specs.Inputs.{InputSymbol, numbered, symbols_in}
use Rattle.link_model.specs.Joined.{is_joined, name_of, definitions_of, definition_taken, all_weak, visibility_of}
use Rattle.link_model.specs.Targets.{LinkTest, refuses, is_closed, joined_target}

-- names by first appearance, and the symbols of each
pub record Groups : Type 0 where
  pub names : List (List ℕ)
  pub groups : List (List InputSymbol)

abbrev pub names_among : List InputSymbol → List (List ℕ)
names_among xs = firsts bytes_eq (map name_of xs)

-- those of a name
abbrev pub named : List InputSymbol → List ℕ → List InputSymbol
named xs name = filter (λ x. bytes_eq (name_of x) name) xs

-- those of each name
abbrev pub groups_of : List InputSymbol → Groups
groups_of xs = record { names = names_among xs; groups = map (named xs) (names_among xs) }

-- those that are joined by name
abbrev pub joined_among : List InputSymbol → List InputSymbol
joined_among xs = filter (λ x. is_joined x.symbol) xs

-- the joined symbols of an input
abbrev pub joined_in : ℕ × RelObject → List InputSymbol
joined_in o = joined_among (symbols_in o)

-- ---- what is made of them

-- no two global definitions
abbrev pub once_test : List ℕ → List InputSymbol → LinkTest
once_test name xs = refuses (Twice name) (nat_lt 1 (length (definitions_of STB_GLOBAL xs)))

-- a definition, where an input has to have one
abbrev pub defined_test : Mode → List ℕ → List InputSymbol → LinkTest
defined_test mode name xs =
    refuses (Undefined name) (is_none (definition_taken xs) && (not (all_weak xs) && is_closed mode (visibility_of xs)))

abbrev pub group_tests : Mode → List ℕ → List InputSymbol → List LinkTest
group_tests mode name xs = once_test name xs ∷ defined_test mode name xs ∷ []

-- the tests of each name
abbrev pub all_group_tests : Mode → Groups → List LinkTest
all_group_tests mode g = flat_map (λ e. group_tests mode (get_or g.names e.0 []) e.1) (numbered g.groups)

-- the targets of each name
abbrev pub group_targets : Mode → List RelObject → Groups → List Target
group_targets mode inputs g = map (λ e. joined_target mode inputs e.0 e.1 (definition_taken e.1)) (numbered g.groups)
