-- What tables by number have left.
use Rattle.std.proofs.Common.{◌≡◌, ℕ, zero, suc, ◌+◌, Bool, true, false, cond, List, [], ◌∷◌, length, map, Option, None, refl, ap, ◌∙◌, arith}
use Rattle.std.specs.List.{enumerate_from}
use Rattle.std.proofs.lemmas.List.{length-map}
use Rattle.std.proofs.lemmas.List.FromFn.{length-enumerate_from}
use Rattle.load_map.specs.declared.entry.MapEntry.{MapEntry}
use Rattle.load_map.specs.Maps.{map_at}
use Rattle.load_process.proofs.NumberedPlaces.{at_place}
use Rattle.load_removal.specs.Going.{ModuleSet, places_left}
use Rattle.load_removal.specs.TakenOut.{maps_left}

same_either : {X : Type 0} (b : Bool) (x : X) → x ≡ cond b x x
same_either true x = refl
same_either false x = refl

-- ---- places

places_from : {X : Type 0} (gone : ModuleSet) (k : ℕ) (places : List (Option X)) (m : ℕ)
    → at_place (map (λ (e : ℕ × Option X). cond (gone e.0) None e.1) (enumerate_from k places)) m ≡ cond (gone (k + m)) None (at_place places m)
places_from {X} gone k [] m = same_either {X = Option X} (gone (k + m)) None
places_from {X} gone k (place ∷ places) zero = let here : k ≡ k + 0 = omega arith in ap (λ n. cond {A = Option X} (gone n) None place) here
places_from {X} gone k (place ∷ places) (suc m) =
    let next : k + 1 + m ≡ k + suc m = omega arith in
    places_from gone (k + 1) places m ∙ ap (λ n. cond {A = Option X} (gone n) None (at_place places m)) next

pub place_left : {X : Type 0} (gone : ModuleSet) (places : List (Option X)) (m : ℕ)
    → at_place (places_left gone places) m ≡ cond (gone m) None (at_place places m)
place_left {X} gone places m =
    let at : 0 + m ≡ m = omega arith in
    places_from gone 0 places m ∙ ap (λ n. cond {A = Option X} (gone n) None (at_place places m)) at

pub length-places_left : {X : Type 0} (gone : ModuleSet) (places : List (Option X)) → length (places_left gone places) ≡ length places
length-places_left {X} gone places = length-map (enumerate_from 0 places) (λ (e : ℕ × Option X). cond (gone e.0) None e.1) ∙ length-enumerate_from 0 places

-- ---- load maps

maps_from : (gone : ModuleSet) (k : ℕ) (maps : List (List MapEntry)) (m : ℕ)
    → map_at (map (λ (e : ℕ × List MapEntry). cond (gone e.0) [] e.1) (enumerate_from k maps)) m ≡ cond (gone (k + m)) [] (map_at maps m)
maps_from gone k [] m = same_either {X = List MapEntry} (gone (k + m)) []
maps_from gone k (es ∷ maps) zero = let here : k ≡ k + 0 = omega arith in ap (λ n. cond {A = List MapEntry} (gone n) [] es) here
maps_from gone k (es ∷ maps) (suc m) =
    let next : k + 1 + m ≡ k + suc m = omega arith in
    maps_from gone (k + 1) maps m ∙ ap (λ n. cond {A = List MapEntry} (gone n) [] (map_at maps m)) next

pub map_left : (gone : ModuleSet) (maps : List (List MapEntry)) (m : ℕ) → map_at (maps_left gone maps) m ≡ cond (gone m) [] (map_at maps m)
map_left gone maps m =
    let at : 0 + m ≡ m = omega arith in
    maps_from gone 0 maps m ∙ ap (λ n. cond {A = List MapEntry} (gone n) [] (map_at maps m)) at

pub length-maps_left : (gone : ModuleSet) (maps : List (List MapEntry)) → length (maps_left gone maps) ≡ length maps
length-maps_left gone maps = length-map (enumerate_from 0 maps) (λ (e : ℕ × List MapEntry). cond (gone e.0) [] e.1) ∙ length-enumerate_from 0 maps
