-- Where pieces lie one behind the other, each at a multiple of its alignment (gABI, "Sections", sh_addralign).
use Rattle.std.specs.Prelude.{ℕ, ◌+◌, ◌-◌, ◌*◌, ◌/◌, Bool, List, [], ◌∷◌, max, if◌then◌else◌}
use Rattle.link_layout.specs.declared.layout.Piece.{Piece}

-- the first multiple from a place on; an alignment of 0 counts as 1
abbrev pub aligned : ℕ → ℕ → ℕ
aligned align at = (at + (max align 1 - 1)) / max align 1 * max align 1

-- the places of pieces, none of which begins before a place
abbrev pub places : ℕ → List Piece → List ℕ
places at [] = []
places at (p ∷ ps) = aligned p.align at ∷ places (aligned p.align at + p.size) ps

-- where the last of them ends
abbrev pub end_of : ℕ → List Piece → ℕ
end_of at [] = at
end_of at (p ∷ ps) = end_of (aligned p.align at + p.size) ps

-- the place of the first thing that passes a test, among things that lie so
abbrev pub place_of : {X : Type 0} → (X → Piece) → (X → Bool) → ℕ → List X → ℕ
place_of piece test at [] = at
place_of piece test at (x ∷ xs) =
    let place = aligned (piece x).align at in
    if test x then place else place_of piece test (place + (piece x).size) xs
