-- The load maps after a load.
use Rattle.std.proofs.Common.{◌≡◌, ◌≢◌, ℕ, ◌<◌, List, [], ◌∷◌, ◌++◌, length, take, drop, set, refl, sym, subst, ◌∙◌, All}
use Rattle.std.proofs.lemmas.List.{get_or-set_same, get_or-set_other, length-set}
use Rattle.std.proofs.lemmas.List.Elements.{All-nil, All-cons, All-head, All-tail}
use Rattle.load_map.specs.declared.entry.MapEntry.{MapEntry}
use Rattle.placement.specs.declared.item.Held.{Held}
use Rattle.placement.specs.declared.item.Item.{Item}
use Rattle.placement.specs.Placed.{Placed, range_at}
use Rattle.load_model.specs.declared.module.Joining.{Joining}
use Rattle.load_model.specs.declared.plan.PlaceLine.{PlaceLine}
use Rattle.load_model.specs.Plan.{listed_for}
use Rattle.load_image.specs.Items.{load_map_of}
use Rattle.load_image.proofs.ModuleItems.{length-items_of}
use Rattle.load_state.specs.Accepted.{items_for, all_items, maps_after}
use Rattle.load_map.specs.Maps.{map_at}
use Rattle.load_laws.specs.parts.Premises.{HaveOwnNumbers}

-- the placing of some items, and that of the others behind it
pub placed_first : (low high : ℕ) (held : List Held) (xs ys : List Item) (addrs : List ℕ) → Placed low high held (xs ++ ys) addrs
    → Placed low high held xs (take (length xs) addrs)
placed_first low high held [] ys addrs placed = tt
placed_first low high held (x ∷ xs) ys [] placed = absurd placed
placed_first low high held (x ∷ xs) ys (at ∷ addrs) placed = (placed.0, placed_first low high (held ++ range_at x at ∷ []) xs ys addrs placed.1)

pub placed_rest : (low high : ℕ) (held : List Held) (xs ys : List Item) (addrs : List ℕ) → Placed low high held (xs ++ ys) addrs
    → (others : List Held) × Placed low high others ys (drop (length xs) addrs)
placed_rest low high held [] ys addrs placed = (held, placed)
placed_rest low high held (x ∷ xs) ys [] placed = absurd placed
placed_rest low high held (x ∷ xs) ys (at ∷ addrs) placed = placed_rest low high (held ++ range_at x at ∷ []) xs ys addrs placed.1

-- a module whose number nobody gets keeps its map
pub map_stays : (joining : List Joining) (maps : List (List MapEntry)) (addrs : List ℕ) (m : ℕ) → All (λ j. j.number ≢ m) joining
    → map_at (maps_after maps joining addrs) m ≡ map_at maps m
map_stays [] maps addrs m others = refl
map_stays (j ∷ joining) maps addrs m others =
    let head = All-head (λ i. i.number ≢ m) j joining others in
    let count = length j.object.segments in
    let own = load_map_of j.object.segments (take count addrs) in
    map_stays joining (set maps j.number own) (drop count addrs) m (All-tail (λ i. i.number ≢ m) j joining others)
    ∙ get_or-set_other maps j.number m own [] (λ h. head (sym h))

-- the first of new modules has the first addresses
pub map_is : (j : Joining) (joining : List Joining) (maps : List (List MapEntry)) (addrs : List ℕ) → All (λ i. i.number ≢ j.number) joining → j.number < length maps
    → map_at (maps_after maps (j ∷ joining) addrs) j.number ≡ load_map_of j.object.segments (take (length j.object.segments) addrs)
map_is j joining maps addrs others lt =
    let count = length j.object.segments in
    let own = load_map_of j.object.segments (take count addrs) in
    map_stays joining (set maps j.number own) (drop count addrs) j.number others ∙ get_or-set_same maps j.number own [] lt

-- where a new module is placed
pub record IsMapped (low high : ℕ) (places : List PlaceLine) (maps : List (List MapEntry)) (j : Joining) : Type 0 where
  pub held : List Held
  pub addrs : List ℕ
  pub placed : Placed low high held (items_for places j) addrs
  pub map' : map_at maps j.number ≡ load_map_of j.object.segments addrs

pub maps_are : (low high : ℕ) (places : List PlaceLine) (joining : List Joining) (maps : List (List MapEntry)) (held : List Held) (addrs : List ℕ)
    → HaveOwnNumbers joining → All (λ j. j.number < length maps) joining → Placed low high held (all_items places joining) addrs
    → All (IsMapped low high places (maps_after maps joining addrs)) joining
maps_are low high places [] maps held addrs own below placed = All-nil (IsMapped low high places maps)
maps_are low high places (j ∷ joining) maps held addrs own below placed =
    let ss = j.object.segments in
    let count = length ss in
    let items = items_for places j in
    let map' = load_map_of ss (take count addrs) in
    let maps' = set maps j.number map' in
    let same : length items ≡ count = length-items_of j.number ss (listed_for places j.name) in
    let lt : j.number < length maps = All-head (λ i. i.number < length maps) j joining below in
    let here : IsMapped low high places (maps_after maps' joining (drop count addrs)) j = record {
      held = held;
      addrs = take count addrs;
      placed = subst (λ (n : ℕ). Placed low high held items (take n addrs)) same (placed_first low high held items (all_items places joining) addrs placed);
      map' = map_is j joining maps addrs own.0 lt;
    } in
    let rest = placed_rest low high held items (all_items places joining) addrs placed in
    let behind : Placed low high rest.0 (all_items places joining) (drop count addrs) =
    subst (λ (n : ℕ). Placed low high rest.0 (all_items places joining) (drop n addrs)) same rest.1 in
    let below' : All (λ i. i.number < length maps') joining =
    subst (λ (n : ℕ). All (λ i. i.number < n) joining) (sym (length-set maps j.number map')) (All-tail (λ i. i.number < length maps) j joining below) in
    All-cons (IsMapped low high places (maps_after maps' joining (drop count addrs))) j joining here
    (maps_are low high places joining maps' rest.0 (drop count addrs) own.1 below' behind)
