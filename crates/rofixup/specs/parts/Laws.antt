-- What holds of lists of fixups, and of the values of the words that they list.
use Rattle.std.specs.Prelude.{◌≡◌, ℕ, List, Some, map}
use Rattle.load_map.specs.declared.entry.MapEntry.{MapEntry}
use Rattle.load_map.specs.Translation.{placed}
use Rattle.rofixup.specs.Fixups.{fixup_list, sites_of_list, got_of_list, AreTranslated}

-- a list that was made is read back
pub record ListsReadBack : Type 0 where
  pub sites : (sites : List ℕ) (got : ℕ) → sites_of_list (fixup_list sites got) ≡ sites
  pub got : (sites : List ℕ) (got : ℕ) → got_of_list (fixup_list sites got) ≡ Some got

-- each new value is what any word that holds the old link address becomes
abbrev pub ValuesArePlaced : Type 0
ValuesArePlaced = (entries : List MapEntry) (old new : List ℕ) → AreTranslated entries old new → new ≡ map (placed entries) old
