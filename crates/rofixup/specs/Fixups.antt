-- The list of .rofixup (Arm FDPIC ABI, the section .rofixup): the link addresses of the words that hold link
-- addresses, and as the last entry that of the GOT.
use Rattle.std.specs.Prelude.{◌≡◌, ℕ, ◌-◌, List, [], ◌∷◌, ◌++◌, length, map, take, position, slice_get, is_none, Option, Some}
use Rattle.load_map.specs.declared.entry.MapEntry.{MapEntry}
use Rattle.load_map.specs.Translation.{address_of}

-- ---- the list

abbrev pub fixup_list : List ℕ → ℕ → List ℕ
fixup_list sites got = sites ++ got ∷ []

-- what stands before the last entry
abbrev pub sites_of_list : List ℕ → List ℕ
sites_of_list entries = take (length entries - 1) entries

-- the last entry
abbrev pub got_of_list : List ℕ → Option ℕ
got_of_list entries = slice_get entries (length entries - 1)

-- ---- the values of the words that it lists

-- which value is the first without a placed address
abbrev pub first_unplaced : List MapEntry → List ℕ → Option ℕ
first_unplaced entries values = position (λ v. is_none (address_of entries v)) values

-- each new value is the placed address of the old one
abbrev pub AreTranslated : List MapEntry → List ℕ → List ℕ → Type 0
AreTranslated entries old new = map (address_of entries) old ≡ map Some new
