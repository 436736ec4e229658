-- What is held after a load.
use Rattle.std.proofs.Common.{◌≡◌, ◌≢◌, ℕ, ◌<◌, ◌⊎◌, inl, inr, List, [], ◌∷◌, ◌++◌, length, get_or, take, drop, set, map, Some, None, refl, sym, ap, subst, ◌∙◌, All}
use Rattle.std.specs.Prelude.{Contains}
use Rattle.std.specs.List.{flat_map}
use Rattle.std.proofs.lemmas.List.Elements.{All-nil, All-cons, All-head, All-tail, Contains-append_left, Contains-append_right, Contains-append_cases}
use Rattle.std.proofs.lemmas.Bool.{cases_eq}
use Rattle.std.proofs.lemmas.List.{length-set}
use Rattle.load_map.specs.declared.entry.MapEntry.{MapEntry}
use Rattle.elf_model.specs.declared.object.Segment.{Segment}
use Rattle.placement.specs.declared.item.Held.{Held}
use Rattle.placement.specs.declared.item.Item.{Item}
use Rattle.placement.specs.Placed.{range_at}
use Rattle.placement.specs.Space.{AreApart, ranges_at}
use Rattle.placement.proofs.Order.{same_all, apart_all}
use Rattle.load_model.specs.declared.module.Joining.{Joining}
use Rattle.load_model.specs.declared.plan.PlaceLine.{PlaceLine}
use Rattle.load_model.specs.Plan.{low_of, high_of, listed_for}
use Rattle.load_model.specs.Process.{object_at}
use Rattle.load_image.specs.Items.{items_of, item_of, load_map_of}
use Rattle.load_state.specs.Accepted.{items_for, all_items, maps_after}
use Rattle.load_state.specs.Consistent.{HasModules, IsPlacedRange}
use Rattle.load_state.specs.Loaded.{LoadedModules}
use Rattle.load_map.specs.Maps.{map_at}
use Rattle.load_laws.specs.parts.Premises.{HaveOwnNumbers, HasFreeNumber}
use Rattle.load_laws.specs.parts.LoadLaws.{RangesStay}
use Rattle.load_image.proofs.ModuleItems.{length-items_of}
use Rattle.load_laws.proofs.MapsAfter.{map_stays, map_is}
use Rattle.fd_base.proofs.Members.{flat_map_in, in_flat_map, map_in, in_map, nothing_in, contains_later, contains_first}

-- the ranges of a load map
abbrev pub range_of : ℕ → MapEntry → Held
range_of owner e = record { owner = owner; start = e.addr; len = e.memsz }

abbrev at_place : ℕ → ℕ → ℕ → Held
at_place owner start len = record { owner = owner; start = start; len = len }

abbrev pub ranges_of : ℕ → List MapEntry → List Held
ranges_of owner load_map = map (range_of owner) load_map

ranges_are : (owner : ℕ) (ss : List Segment) (listed addrs : List ℕ) → ranges_at (items_of owner ss listed) addrs ≡ ranges_of owner (load_map_of ss addrs)
ranges_are owner [] listed addrs = refl
ranges_are owner (s ∷ ss) [] [] = refl
ranges_are owner (s ∷ ss) [] (at ∷ addrs) = ap (λ rest. range_at (item_of owner s None) at ∷ rest) (ranges_are owner ss [] addrs)
ranges_are owner (s ∷ ss) (x ∷ listed) [] = refl
ranges_are owner (s ∷ ss) (x ∷ listed) (at ∷ addrs) = ap (λ rest. range_at (item_of owner s (Some x)) at ∷ rest) (ranges_are owner ss listed addrs)

ranges_nil : (items : List Item) → ranges_at items [] ≡ []
ranges_nil [] = refl
ranges_nil (item ∷ items) = refl

ranges_behind : (xs ys : List Item) (addrs : List ℕ) → ranges_at (xs ++ ys) addrs ≡ ranges_at xs (take (length xs) addrs) ++ ranges_at ys (drop (length xs) addrs)
ranges_behind [] ys addrs = refl
ranges_behind (x ∷ xs) ys [] = sym (ranges_nil ys)
ranges_behind (x ∷ xs) ys (at ∷ addrs) = ap (λ rest. range_at x at ∷ rest) (ranges_behind xs ys addrs)

-- the ranges of new modules by their load maps
abbrev ranges_with : List (List MapEntry) → Joining → List Held
ranges_with maps j = ranges_of j.number (map_at maps j.number)

new_ranges : (places : List PlaceLine) (joining : List Joining) (maps : List (List MapEntry)) (addrs : List ℕ)
    → HaveOwnNumbers joining → All (λ j. j.number < length maps) joining
    → ranges_at (all_items places joining) addrs ≡ flat_map (ranges_with (maps_after maps joining addrs)) joining
new_ranges places [] maps addrs own below = refl
new_ranges places (j ∷ joining) maps addrs own below =
    let ss = j.object.segments in
    let count = length ss in
    let items = items_for places j in
    let maps' = set maps j.number (load_map_of ss (take count addrs)) in
    let rest = drop count addrs in
    let same : length items ≡ count = length-items_of j.number ss (listed_for places j.name) in
    let below' : All (λ i. i.number < length maps') joining =
    subst (λ (n : ℕ). All (λ i. i.number < n) joining) (sym (length-set maps j.number (load_map_of ss (take count addrs)))) (All-tail (λ i. i.number < length maps) j joining below) in
    let here : ranges_at items (take count addrs) ≡ ranges_with (maps_after maps' joining rest) j =
    ranges_are j.number ss (listed_for places j.name) (take count addrs)
    ∙ ap (ranges_of j.number) (sym (map_is j joining maps addrs own.0 (All-head (λ i. i.number < length maps) j joining below))) in
    ranges_behind items (all_items places joining) addrs
    ∙ ap (λ n. ranges_at items (take n addrs) ++ ranges_at (all_items places joining) (drop n addrs)) same
    ∙ ap (λ front. front ++ ranges_at (all_items places joining) rest) here
    ∙ ap (λ behind. ranges_with (maps_after maps' joining rest) j ++ behind) (new_ranges places joining maps' rest own.1 below')

-- whether a number is that of a new module
pub joins_or_not : (joining : List Joining) (m : ℕ) → ((j : Joining) × Contains joining j × (j.number ≡ m)) ⊎ All (λ j. j.number ≢ m) joining
joins_or_not [] m = inr (All-nil (λ j. j.number ≢ m))
joins_or_not (j ∷ joining) m =
    elim (cases_eq j.number m) [
      | inl is ↦ inl (j, contains_first j j joining refl, is)
      | inr other ↦ elim (joins_or_not joining m) [
        | inl later ↦ inl (later.0, contains_later j later.0 joining later.1, later.2)
        | inr others ↦ inr (All-cons (λ i. i.number ≢ m) j joining other others)
      ]
    ]

-- a module that is placed before the load isn't new
pub live_is_old : (l : LoadedModules) (joining : List Joining) (m : ℕ) (e : MapEntry) → HasModules l → All (HasFreeNumber l.process) joining → Contains (map_at l.maps m) e
    → All (λ j. j.number ≢ m) joining
live_is_old l joining m e mods free there k d lt is =
    let none : object_at l.process m ≡ None = subst (λ (n : ℕ). object_at l.process n ≡ None) is (free k d lt).1 in
    let empty : Contains [] e = subst (λ (es : List MapEntry). Contains es e) (mods.others m none) there in
    nothing_in e empty

pub ranges_stay_lem : RangesStay
ranges_stay_lem l new joining addrs mods had own free placed maps' held' = record {
  held' = λ r. (forward r, backward r);
  apart = subst (λ (rs : List Held). AreApart rs) (sym held') (apart_all (low_of l.plan) (high_of l.plan) l.held items addrs had.apart placed);
}
  where
    items : List Item
    items = all_items l.plan.places joining

    after : List (List MapEntry)
    after = maps_after l.maps joining addrs

    below : All (λ j. j.number < length l.maps) joining
    below = λ k d lt. subst (λ (n : ℕ). (get_or joining k d).number < n) (sym mods.count) (free k d lt).0

    news : ranges_at items addrs ≡ flat_map (ranges_with after) joining
    news = new_ranges l.plan.places joining l.maps addrs own below

    stays : (m : ℕ) → All (λ j. j.number ≢ m) joining → map_at new.maps m ≡ map_at l.maps m
    stays m others = ap (λ maps. map_at maps m) maps' ∙ map_stays joining l.maps addrs m others

    old_range : (r : Held) → Contains l.held r → IsPlacedRange new r
    old_range r here =
        let was = (had.held' r).0 here in
        let others = live_is_old l joining r.owner was.entry mods free was.listed in
        record { entry = was.entry; listed = subst (λ (es : List MapEntry). Contains es was.entry) (sym (stays r.owner others)) was.listed; start' = was.start'; len' = was.len' }

    new_range : (r : Held) → Contains (ranges_at items addrs) r → IsPlacedRange new r
    new_range r here =
        let found = in_flat_map (ranges_with after) joining r (subst (λ (rs : List Held). Contains rs r) news here) in
        let j = found.0 in
        let entry = in_map (range_of j.number) (map_at after j.number) r found.2 in
        let listed : Contains (map_at new.maps j.number) entry.0 = subst (λ (maps : List (List MapEntry)). Contains (map_at maps j.number) entry.0) (sym maps') entry.1 in
        record {
          entry = entry.0;
          listed = subst (λ (m : ℕ). Contains (map_at new.maps m) entry.0) (ap (λ q. q.owner) entry.2) listed;
          start' = ap (λ q. q.start) (sym entry.2);
          len' = ap (λ q. q.len) (sym entry.2);
        }

    forward : (r : Held) → Contains new.held r → IsPlacedRange new r
    forward r here =
        elim (Contains-append_cases l.held (ranges_at items addrs) r ((same_all items addrs l.held r).0 (subst (λ (rs : List Held). Contains rs r) held' here))) [
          | inl before ↦ old_range r before
          | inr fresh ↦ new_range r fresh
        ]

    held_again : (r : Held) → Contains (l.held ++ ranges_at items addrs) r → Contains new.held r
    held_again r here = subst (λ (rs : List Held). Contains rs r) (sym held') ((same_all items addrs l.held r).1 here)

    backward : (r : Held) → IsPlacedRange new r → Contains new.held r
    backward r is =
        let range : range_of r.owner is.entry ≡ r =
        ap (λ a. at_place r.owner a is.entry.memsz) (sym is.start') ∙ ap (at_place r.owner r.start) (sym is.len') in
        elim (joins_or_not joining r.owner) [
          | inl joins ↦
              let j = joins.0 in
              let listed : Contains (map_at after j.number) is.entry =
              subst (λ (m : ℕ). Contains (map_at after m) is.entry) (sym joins.2) (subst (λ (maps : List (List MapEntry)). Contains (map_at maps r.owner) is.entry) maps' is.listed) in
              let there = flat_map_in (ranges_with after) joining j (range_of j.number is.entry) joins.1 (map_in (range_of j.number) (map_at after j.number) is.entry listed) in
              let same : range_of j.number is.entry ≡ r = ap (λ m. range_of m is.entry) joins.2 ∙ range in
              held_again r (Contains-append_right l.held (ranges_at items addrs) r
              (subst (λ (rs : List Held). Contains rs r) (sym news) (subst (λ (q : Held). Contains (flat_map (ranges_with after) joining) q) same there)))
          | inr others ↦
              let was : IsPlacedRange l r = record {
                entry = is.entry;
                listed = subst (λ (es : List MapEntry). Contains es is.entry) (stays r.owner others) is.listed;
                start' = is.start';
                len' = is.len';
              } in
              held_again r (Contains-append_left l.held (ranges_at items addrs) r ((had.held' r).1 was))
        ]
