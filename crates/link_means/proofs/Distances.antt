-- Distances between link addresses of one segment.
use Rattle.std.proofs.Common.{◌≡◌, ℕ, ◌+◌, ◌%◌, ◌^◌, ◌<◌, ◌≤◌, ℤ, Bool, true, false, cond, not, ◌&&◌, List, [], ◌∷◌, map, Some, refl, sym, ap, subst, ◌∙◌, arith}
use Rattle.std.specs.Prelude.{◌==◌, Contains, nat_le, pos, ◌+ℤ◌, ◌-ℤ◌}
use Rattle.std.specs.Option.{option_map_or}
use Rattle.std.proofs.lemmas.Bool.{and_parts, leb-true}
use Rattle.std.proofs.lemmas.Int.{ints}
use Rattle.elf_model.specs.declared.constants.TheConstants.{R_ARM_REL32, R_ARM_GOTOFF32}
use Rattle.elf_model.specs.declared.object.Object.{Object}
use Rattle.elf_model.specs.declared.relocatable.RelObject.{RelObject}
use Rattle.load_map.specs.Translation.{placed}
use Rattle.load_model.specs.Image.{Placing, got_of}
use Rattle.elf_model.specs.Sound.{IsSound}
use Rattle.link_layout.specs.declared.layout.Piece.{Piece}
use Rattle.link_layout.specs.Layout.{aligned, place_of}
use Rattle.link_layout.proofs.Lying.{end_from, from_aligned}
use Rattle.link_model.specs.declared.input.Mode.{Mode}
use Rattle.link_model.specs.declared.target.Reach.TheVariants.{Settled}
use Rattle.link_model.specs.declared.target.Spot.{Spot}
use Rattle.link_model.specs.declared.target.Spot.TheVariants.{Nowhere, Absolute, Section, Common}
use Rattle.link_model.specs.Inputs.{InputRel, all_rels}
use Rattle.link_model.specs.Needs.{all_needs, target_at}
use Rattle.link_model.specs.Places.{address_of, block_piece, blocks_of, data_end, data_place, got_end, is_block_of, is_in_data, is_within_data, is_within_text, section_place, text_end, zeros_end}
use Rattle.link_model.specs.Sections.{data_sections, is_in_text, is_text_section, is_writable, piece_of, place_among, text_place}
use Rattle.link_model.specs.Sites.{addend_of, site_address, site_word, sum_of, word_of}
use Rattle.link_model.specs.SiteTests.{is_in_one_segment, leads_to_number}
use Rattle.link_model.specs.Targets.{is_absolute, is_settled}
use Rattle.link_model.specs.parts.Laws.{AreClear, IsInReach}
use Rattle.link_model.proofs.Passed.{passing_is_fitting}
use Rattle.link_sites.specs.Loaded.{LoadedWord}
use Rattle.link_sites.specs.parts.Linked.{ShareSegment}
use Rattle.link_sites.proofs.Sites.{difference}
use Rattle.link_means.specs.Values.{settled_value}
use Rattle.link_means.specs.parts.Laws.{DistancesMean, IsOutput, is_filled_kind}
use Rattle.link_means.proofs.Held.{data_begins, got_ends, in_data}
use Rattle.link_means.proofs.Sharing.{data_small, shares_in_data, shares_in_text, text_address_small}
use Rattle.link_means.proofs.Staying.{words_stay}
use Rattle.link_means.proofs.Texts.{in_text}

-- ---- definitions in the data

place_from : {X : Type 0} (piece : X → Piece) (test : X → Bool) (at : ℕ) (xs : List X) → at ≤ place_of piece test at xs
place_from piece test at [] = omega arith
place_from piece test at (x ∷ xs) =
    let up = from_aligned (piece x).align at in
    let rest = place_from piece test (aligned (piece x).align at + (piece x).size) xs in
    by (test x) up rest
  where
    by : (b : Bool) → at ≤ aligned (piece x).align at → aligned (piece x).align at + (piece x).size ≤ place_of piece test (aligned (piece x).align at + (piece x).size) xs
        → at ≤ cond b (aligned (piece x).align at) (place_of piece test (aligned (piece x).align at + (piece x).size) xs)
    by true up rest = up
    by false up rest = omega (arith, up, rest)

section_above : (mode : Mode) (inputs : List RelObject) (k : ℕ) → not (is_text_section inputs k) ≡ true → got_end mode inputs ≤ section_place mode inputs k
unfolding section_place
section_above mode inputs k data' = by (is_text_section inputs k) data'
  where
    from : got_end mode inputs ≤ place_among (got_end mode inputs) (data_sections inputs) k
    from = place_from piece_of (λ x. x.index == k) (got_end mode inputs) (data_sections inputs)

    by : (b : Bool) → not b ≡ true → got_end mode inputs ≤ cond b (text_place inputs k) (place_among (got_end mode inputs) (data_sections inputs) k)
    by true no' = absurd cc
    by false yes' = from

pub spot_above : (mode : Mode) (inputs : List RelObject) (spot : Spot) → is_in_data inputs spot ≡ true → got_end mode inputs ≤ address_of mode inputs spot
spot_above mode inputs Nowhere is = absurd cc
spot_above mode inputs (Absolute v) is = absurd cc
spot_above mode inputs (Section k offset) is = let above = section_above mode inputs k is in omega (arith, above)
spot_above mode inputs (Common k) is =
    let zeros = end_from (got_end mode inputs) (map piece_of (data_sections inputs)) in
    let block = place_from block_piece (λ t. is_block_of k t.spot) (zeros_end mode inputs) (blocks_of mode inputs) in
    omega (arith, zeros, block)

pub got_some : (mode : Mode) (inputs : List RelObject) → data_place mode inputs < got_end mode inputs
got_some mode inputs = omega arith

-- ---- what is in reach

reached : (k s b : Bool) → (k && (s && not b)) ≡ false → k ≡ true → s ≡ true → b ≡ true
reached true true true far kind settled = refl
reached true true false far kind settled = absurd cc
reached true false b far kind settled = absurd cc
reached false s b far kind settled = absurd cc

module _ (mode : Mode) (inputs : List RelObject) (o : Object) (clear : AreClear inputs) (out : IsOutput mode inputs o) where
  data_shares : (v : ℕ) (spot : Spot) → data_place mode inputs ≤ v → v < data_end mode inputs → is_within_data mode inputs spot ≡ true → ShareSegment o v (address_of mode inputs spot)
  data_shares v spot from lt within =
      let parts = and_parts (is_in_data inputs spot) (nat_le (address_of mode inputs spot) (data_end mode inputs)) within in
      let above = spot_above mode inputs spot parts.0 in
      shares_in_data mode inputs o out v (address_of mode inputs spot) from lt (omega (arith, above, got_some mode inputs)) (leb-true (address_of mode inputs spot) (data_end mode inputs) parts.1)

  text_shares : (v : ℕ) (spot : Spot) → v < text_end mode inputs → is_within_text mode inputs spot ≡ true → ShareSegment o v (address_of mode inputs spot)
  text_shares v spot lt within =
      let parts = and_parts (is_in_text inputs spot) (nat_le (address_of mode inputs spot) (text_end mode inputs)) within in
      shares_in_text mode inputs o out v (address_of mode inputs spot) lt (leb-true (address_of mode inputs spot) (text_end mode inputs) parts.1) (data_begins mode inputs)

  site_shares : (x : InputRel) → Contains (all_rels inputs) x → is_in_one_segment mode inputs x ≡ true → ShareSegment o (site_address mode inputs x) (address_of mode inputs (target_at mode inputs x).spot)
  site_shares x there one = by (is_writable x.at) refl one
    where
      spot : Spot
      spot = (target_at mode inputs x).spot

      by : (b : Bool) → is_writable x.at ≡ b → cond b (is_within_data mode inputs spot) (is_within_text mode inputs spot) ≡ true → ShareSegment o (site_address mode inputs x) (address_of mode inputs spot)
      by true writable within = let in' = in_data mode inputs x clear there writable in data_shares (site_address mode inputs x) spot in'.from (omega (arith, in'.to)) within
      by false unwritten within = let to = in_text mode inputs x clear there unwritten in text_shares (site_address mode inputs x) spot (omega (arith, to)) within

-- ---- the words

relative_word : (mode : Mode) (inputs : List RelObject) (x : InputRel) → (x.rel).kind ≡ R_ARM_REL32 → (target_at mode inputs x).reach ≡ Settled
    → site_word mode inputs x ≡ Some (word_of (sum_of mode inputs x -ℤ pos (site_address mode inputs x)))
unfolding site_word target_at site_address all_needs
relative_word mode inputs x kind settled = rw (kind, settled) refl

offset_word : (mode : Mode) (inputs : List RelObject) (x : InputRel) → (x.rel).kind ≡ R_ARM_GOTOFF32 → (target_at mode inputs x).reach ≡ Settled
    → site_word mode inputs x ≡ Some (word_of (sum_of mode inputs x -ℤ pos (data_place mode inputs)))
unfolding site_word target_at site_address all_needs
offset_word mode inputs x kind settled = rw (kind, settled) refl

-- a distance is the same between the placed addresses
same_distance : (s base s' base' : ℕ) (a : ℤ) → (pos s' -ℤ pos base') ≡ pos s -ℤ pos base → (pos s +ℤ a) -ℤ pos base ≡ pos s' +ℤ a -ℤ pos base'
same_distance s base s' base' a same = omega (arith, ints)

pub value_is : (mode : Mode) (inputs : List RelObject) (p : Placing) (m : ℕ) (spot : Spot) → is_absolute spot ≡ false → address_of mode inputs spot < 2 ^ 32
    → settled_value mode inputs p m spot ≡ placed (p.maps m) (address_of mode inputs spot)
value_is mode inputs p m spot off small =
    ap (λ b. cond b (address_of mode inputs spot) (placed (p.maps m) (address_of mode inputs spot % 2 ^ 32))) off
    ∙ ap (placed (p.maps m)) (omega (arith, small))

-- what lies in its segment has an address of 32 bits
module _ (mode : Mode) (inputs : List RelObject) (o : Object) (out : IsOutput mode inputs o) (sound : IsSound o) (spot : Spot) where
  pub small_in_data : is_within_data mode inputs spot ≡ true → address_of mode inputs spot < 2 ^ 32
  small_in_data within =
      let parts = and_parts (is_in_data inputs spot) (nat_le (address_of mode inputs spot) (data_end mode inputs)) within in
      let below = leb-true (address_of mode inputs spot) (data_end mode inputs) parts.1 in
      omega (arith, below, data_small mode inputs o out sound)

  pub small_in_text : is_within_text mode inputs spot ≡ true → address_of mode inputs spot < 2 ^ 32
  small_in_text within =
      let parts = and_parts (is_in_text inputs spot) (nat_le (address_of mode inputs spot) (text_end mode inputs)) within in
      text_address_small mode inputs o out (address_of mode inputs spot) sound (leb-true (address_of mode inputs spot) (text_end mode inputs) parts.1)

  small_in_one : (b : Bool) → cond b (is_within_data mode inputs spot) (is_within_text mode inputs spot) ≡ true → address_of mode inputs spot < 2 ^ 32
  small_in_one true within = small_in_data within
  small_in_one false within = small_in_text within

pub distances_mean : DistancesMean
distances_mean = record {
  relative = λ mode inputs o l p m x clear out is there kind settled near.
      let v = site_address mode inputs x in
      let spot = (target_at mode inputs x).spot in
      let s = address_of mode inputs spot in
      let reach : IsInReach mode inputs x = passing_is_fitting.reach mode inputs x near in
      let off : is_absolute spot ≡ false = sym (ap (λ n. leads_to_number n (target_at mode inputs x)) kind) ∙ reach.number in
      let one = reached ((x.rel).kind == R_ARM_REL32) (is_settled (target_at mode inputs x).reach) (is_in_one_segment mode inputs x) reach.distance (ap (λ n. n == R_ARM_REL32) kind) (ap is_settled settled) in
      let other : is_filled_kind (x.rel).kind ≡ false = ap is_filled_kind kind in
      let stays = words_stay mode inputs o l p m x (word_of (sum_of mode inputs x -ℤ pos v)) clear out is there other (relative_word mode inputs x kind settled) in
      let small = small_in_one mode inputs o out is.sound spot (is_writable x.at) one in
      let apart = difference l p m o v s is (site_shares mode inputs o clear out x there one) in
      let same = same_distance s v (placed (p.maps m) s) (placed (p.maps m) v) (addend_of x) apart
      ∙ ap (λ n. pos n +ℤ addend_of x -ℤ pos (placed (p.maps m) v)) (sym (value_is mode inputs p m spot off small)) in
      subst (λ z. LoadedWord l p m o v (word_of z)) same stays;
  from_got = λ mode inputs o l p m x clear out is there kind settled near.
      let v = site_address mode inputs x in
      let spot = (target_at mode inputs x).spot in
      let s = address_of mode inputs spot in
      let base = data_place mode inputs in
      let reach : IsInReach mode inputs x = passing_is_fitting.reach mode inputs x near in
      let off : is_absolute spot ≡ false = sym (ap (λ n. leads_to_number n (target_at mode inputs x)) kind) ∙ reach.number in
      let within = reached ((x.rel).kind == R_ARM_GOTOFF32) (is_settled (target_at mode inputs x).reach) (is_within_data mode inputs spot) reach.offset (ap (λ n. n == R_ARM_GOTOFF32) kind) (ap is_settled settled) in
      let other : is_filled_kind (x.rel).kind ≡ false = ap is_filled_kind kind in
      let stays = words_stay mode inputs o l p m x (word_of (sum_of mode inputs x -ℤ pos base)) clear out is there other (offset_word mode inputs x kind settled) in
      let shares = data_shares mode inputs o clear out base spot (omega arith) (omega (arith, got_some mode inputs, got_ends mode inputs)) within in
      let small = small_in_data mode inputs o out is.sound spot within in
      let apart = difference l p m o base s is shares in
      let got : got_of p m ≡ placed (p.maps m) base = ap (λ g. option_map_or (placed (p.maps m)) g 0) is.got' ∙ ap (placed (p.maps m)) out.got' in
      let same = same_distance s base (placed (p.maps m) s) (placed (p.maps m) base) (addend_of x) apart
      ∙ ap (λ n. pos n +ℤ addend_of x -ℤ pos (placed (p.maps m) base)) (sym (value_is mode inputs p m spot off small))
      ∙ ap (λ n. pos (settled_value mode inputs p m spot) +ℤ addend_of x -ℤ pos n) (sym got) in
      subst (λ z. LoadedWord l p m o v (word_of z)) same stays;
}
