-- The names of a text by first appearance, and what lines said of each.
use Rattle.std.specs.Prelude.{ℕ, List, [], ◌∷◌, ◌++◌, get_or, slice_set, None, if◌then◌else◌}
use Rattle.std.specs.List.{list_any, position_or_len}
use Rattle.std.specs.Str.{bytes_eq}
use Rattle.a32_asm.specs.declared.said.Facts.{Facts}

pub record Names : Type 0 where
  pub names : List (List ℕ)
  pub facts : List Facts

abbrev pub no_facts : Facts
no_facts = record { label = None; weak = None; visibility = 0; kind = 0 }

-- the place of a name, or that which it gets
abbrev pub place_of : List ℕ → List (List ℕ) → ℕ
place_of name names = position_or_len (bytes_eq name) names

-- with one more name, unless it is there
abbrev pub with_name : List ℕ → Names → Names
with_name name known =
    if list_any (bytes_eq name) known.names then known
    else record { names = known.names ++ name ∷ []; facts = known.facts ++ no_facts ∷ [] }

-- what lines said of a name, and nothing where none names it
abbrev pub facts_of : List ℕ → Names → Facts
facts_of name known = get_or known.facts (place_of name known.names) no_facts

-- with other facts of a name that is there
abbrev pub with_facts : List ℕ → Facts → Names → Names
with_facts name facts known = record known { facts = slice_set known.facts (place_of name known.names) facts }
