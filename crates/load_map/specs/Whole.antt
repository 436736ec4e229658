-- Each segment is placed as a whole, and no two places are one.
use Rattle.std.specs.Prelude.{◌≡◌, ℕ, ◌+◌, ◌≤◌, ◌⊎◌, true, List, Some, AllPairs, slice_get}
use Rattle.load_map.specs.declared.entry.MapEntry.{MapEntry}
use Rattle.load_map.specs.Translation.{address_of, is_held_by, placed_by}

-- two segments share no link address
abbrev pub LinkedApart : MapEntry → MapEntry → Type 0
LinkedApart d e = (d.vaddr + d.memsz ≤ e.vaddr) ⊎ (e.vaddr + e.memsz ≤ d.vaddr)

-- two placed segments share no address
abbrev pub PlacedApart : MapEntry → MapEntry → Type 0
PlacedApart d e = (d.addr + d.memsz ≤ e.addr) ⊎ (e.addr + e.memsz ≤ d.addr)

-- The segment that holds a link address decides its placed address, whichever entry it is. So two places of one
-- segment are as far apart when they are placed as when they are linked.
abbrev pub SegmentsStayWhole : Type 0
SegmentsStayWhole =
    (map : List MapEntry) (i v : ℕ) (e : MapEntry) → AllPairs LinkedApart map → slice_get map i ≡ Some e → is_held_by v e ≡ true
    → address_of map v ≡ Some (placed_by v e)

-- two link addresses that segments hold don't share a placed address
abbrev pub PlacesStayDistinct : Type 0
PlacesStayDistinct =
    (map : List MapEntry) (i j v w : ℕ) (d e : MapEntry) → AllPairs LinkedApart map → AllPairs PlacedApart map
    → slice_get map i ≡ Some d → is_held_by v d ≡ true → slice_get map j ≡ Some e → is_held_by w e ≡ true
    → address_of map v ≡ address_of map w → v ≡ w
