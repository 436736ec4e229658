-- The segments of one module are placed apart.
use Rattle.std.proofs.Common.{ℕ, ◌+◌, List, [], ◌∷◌, ◌++◌, None, Some, arith, All}
use Rattle.std.specs.Prelude.{Contains, AllPairs}
use Rattle.std.proofs.lemmas.List.Elements.{All-nil, All-cons, All-contains, Contains-append_left, Contains-push}
use Rattle.std.proofs.lemmas.List.Kept.{AllPairs-cons}
use Rattle.elf_model.specs.declared.object.Segment.{Segment}
use Rattle.placement.specs.declared.item.Held.{Held}
use Rattle.placement.specs.Legal.{Apart}
use Rattle.placement.specs.Placed.{Placed, range_at}
use Rattle.load_map.specs.Whole.{PlacedApart}
use Rattle.load_image.specs.Items.{items_of, item_of, load_map_of}

-- what is placed meets nothing that is held
away : (low high : ℕ) (held : List Held) (owner : ℕ) (ss : List Segment) (listed addrs : List ℕ) (r : Held)
    → Placed low high held (items_of owner ss listed) addrs → Contains held r → All (λ e. Apart e.addr e.memsz r) (load_map_of ss addrs)
away low high held owner [] listed addrs r placed there = All-nil (λ e. Apart e.addr e.memsz r)
away low high held owner (s ∷ ss) [] [] r placed there = absurd placed
away low high held owner (s ∷ ss) [] (at ∷ addrs) r placed there =
    All-cons (λ e. Apart e.addr e.memsz r) (record { addr = at; vaddr = s.vaddr; memsz = s.memsz }) (load_map_of ss addrs)
    (All-contains (Apart at s.memsz) held r placed.0.legal.apart there)
    (away low high (held ++ range_at (item_of owner s None) at ∷ []) owner ss [] addrs r placed.1 (Contains-append_left held (range_at (item_of owner s None) at ∷ []) r there))
away low high held owner (s ∷ ss) (x ∷ listed) [] r placed there = absurd placed
away low high held owner (s ∷ ss) (x ∷ listed) (at ∷ addrs) r placed there =
    All-cons (λ e. Apart e.addr e.memsz r) (record { addr = at; vaddr = s.vaddr; memsz = s.memsz }) (load_map_of ss addrs)
    (All-contains (Apart at s.memsz) held r placed.0.legal.apart there)
    (away low high (held ++ range_at (item_of owner s (Some x)) at ∷ []) owner ss listed addrs r placed.1 (Contains-append_left held (range_at (item_of owner s (Some x)) at ∷ []) r there))

-- the segments of one module share no placed address
pub placed_apart : (low high : ℕ) (held : List Held) (owner : ℕ) (ss : List Segment) (listed addrs : List ℕ)
    → Placed low high held (items_of owner ss listed) addrs → AllPairs PlacedApart (load_map_of ss addrs)
placed_apart low high held owner [] listed addrs placed = λ i j d lt within. absurd (omega arith)
placed_apart low high held owner (s ∷ ss) [] [] placed = absurd placed
placed_apart low high held owner (s ∷ ss) [] (at ∷ addrs) placed =
    let new = range_at (item_of owner s None) at in
    AllPairs-cons PlacedApart (record { addr = at; vaddr = s.vaddr; memsz = s.memsz }) (load_map_of ss addrs)
    (away low high (held ++ new ∷ []) owner ss [] addrs new placed.1 (Contains-push held new))
    (placed_apart low high (held ++ new ∷ []) owner ss [] addrs placed.1)
placed_apart low high held owner (s ∷ ss) (x ∷ listed) [] placed = absurd placed
placed_apart low high held owner (s ∷ ss) (x ∷ listed) (at ∷ addrs) placed =
    let new = range_at (item_of owner s (Some x)) at in
    AllPairs-cons PlacedApart (record { addr = at; vaddr = s.vaddr; memsz = s.memsz }) (load_map_of ss addrs)
    (away low high (held ++ new ∷ []) owner ss listed addrs new placed.1 (Contains-push held new))
    (placed_apart low high (held ++ new ∷ []) owner ss listed addrs placed.1)
