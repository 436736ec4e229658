-- Where the segments of new modules lie.
use Rattle.std.proofs.Common.{◌≡◌, ℕ, ◌^◌, ◌<◌, List, [], ◌∷◌, length, length-append, get_or, take, drop, set, refl, sym, subst, ◌∙◌, arith, All}
use Rattle.std.specs.Prelude.{sum_by}
use Rattle.std.specs.List.{AllZip}
use Rattle.std.proofs.lemmas.List.Elements.{All-set}
use Rattle.std.proofs.lemmas.List.Sums.{sum_by-cons}
use Rattle.load_map.specs.declared.entry.MapEntry.{MapEntry}
use Rattle.placement.specs.declared.item.Held.{Held}
use Rattle.placement.specs.declared.item.Item.{Item}
use Rattle.placement.specs.Placed.{Placed, LiesWithin}
use Rattle.placement.proofs.Placing.{placed_within}
use Rattle.load_model.specs.declared.module.Joining.{Joining}
use Rattle.load_model.specs.declared.plan.PlaceLine.{PlaceLine}
use Rattle.load_model.specs.Plan.{listed_for}
use Rattle.load_image.specs.parts.Bounds.{IsMapOf}
use Rattle.load_map.specs.parts.IsLoadMap.{EndsBelow}
use Rattle.load_image.specs.Items.{load_map_of}
use Rattle.load_image.proofs.ModuleItems.{length-items_of, mapped, map_ends}
use Rattle.load_state.specs.Accepted.{all_items, items_for, maps_after}
use Rattle.load_map.specs.Maps.{map_at}
use Rattle.load_laws.specs.parts.Premises.{HaveOwnNumbers}
use Rattle.load_laws.proofs.MapsAfter.{IsMapped, maps_are, placed_first, placed_rest}
use Rattle.load_plan.proofs.EnteredMaps.{count_of}

-- ---- how many there are

pub placed_length : (low high : ℕ) (held : List Held) (items : List Item) (addrs : List ℕ) → Placed low high held items addrs → length addrs ≡ length items
placed_length low high held [] [] placed = refl
placed_length low high held [] (at ∷ addrs) placed = absurd placed
placed_length low high held (item ∷ items) [] placed = absurd placed
placed_length low high held (item ∷ items) (at ∷ addrs) placed = omega (arith, placed_length low high _ items addrs placed.1)

pub items_length : (places : List PlaceLine) (joining : List Joining) → length (all_items places joining) ≡ sum_by count_of joining
items_length places [] = refl
items_length places (j ∷ joining) =
    let both = length-append (items_for places j) (all_items places joining) in
    let here = length-items_of j.number j.object.segments (listed_for places j.name) in
    let rest = items_length places joining in
    let more = sum_by-cons count_of j joining in
    omega (arith, both, here, rest, more)

-- ---- the load maps after the load

pub ends_after : (low high : ℕ) (places : List PlaceLine) (joining : List Joining) (maps : List (List MapEntry)) (held : List Held) (addrs : List ℕ) → high < 2 ^ 32
    → All (All EndsBelow) maps → Placed low high held (all_items places joining) addrs → All (All EndsBelow) (maps_after maps joining addrs)
ends_after low high places [] maps held addrs small ends placed = ends
ends_after low high places (j ∷ joining) maps held addrs small ends placed =
    let ss = j.object.segments in
    let count = length ss in
    let items = items_for places j in
    let own = load_map_of ss (take count addrs) in
    let same : length items ≡ count = length-items_of j.number ss (listed_for places j.name) in
    let here : Placed low high held items (take count addrs) =
    subst (λ (n : ℕ). Placed low high held items (take n addrs)) same (placed_first low high held items (all_items places joining) addrs placed) in
    let rest = placed_rest low high held items (all_items places joining) addrs placed in
    let behind : Placed low high rest.0 (all_items places joining) (drop count addrs) =
    subst (λ (n : ℕ). Placed low high rest.0 (all_items places joining) (drop n addrs)) same rest.1 in
    let within : AllZip (LiesWithin low high) items (take count addrs) = placed_within low high held items (take count addrs) here in
    let own_ends : All EndsBelow own = map_ends j.number low high ss (listed_for places j.name) (take count addrs) small within in
    ends_after low high places joining (set maps j.number own) rest.0 (drop count addrs) small (All-set (All EndsBelow) maps j.number own own_ends ends) behind

IsMapOfAt : List (List MapEntry) → Joining → Type 0
IsMapOfAt maps j = IsMapOf j.object.segments (map_at maps j.number)

map_of_one : (low high : ℕ) (places : List PlaceLine) (maps : List (List MapEntry)) (j : Joining) → IsMapped low high places maps j → IsMapOf j.object.segments (map_at maps j.number)
map_of_one low high places maps j is =
    let ss = j.object.segments in
    let length' : length is.addrs ≡ length ss =
    placed_length low high is.held (items_for places j) is.addrs is.placed ∙ length-items_of j.number ss (listed_for places j.name) in
    subst (λ (m : List MapEntry). IsMapOf ss m) (sym is.map') (mapped ss is.addrs length')

pub maps_of : (low high : ℕ) (places : List PlaceLine) (joining : List Joining) (maps : List (List MapEntry)) (held : List Held) (addrs : List ℕ)
    → HaveOwnNumbers joining → All (λ j. j.number < length maps) joining → Placed low high held (all_items places joining) addrs
    → All (λ j. IsMapOf j.object.segments (map_at (maps_after maps joining addrs) j.number)) joining
maps_of low high places joining maps held addrs own below placed k d lt =
    map_of_one low high places (maps_after maps joining addrs) (get_or joining k d) (maps_are low high places joining maps held addrs own below placed k d lt)
