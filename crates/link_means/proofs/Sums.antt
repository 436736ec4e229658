-- The word of an address in a segment, as the sum of the placed symbol and the addend.
use Rattle.std.proofs.Common.{◌≡◌, ℕ, ◌%◌, ◌^◌, ◌<◌, ◌≤◌, inl, inr, ℤ, Bool, true, false, cond, not, ◌&&◌, ◌||◌, List, refl, sym, ap, ◌∙◌, arith}
use Rattle.std.specs.Prelude.{pos, negsuc, ◌+ℤ◌, ◌-ℤ◌, int_le, nat_le, Contains}
use Rattle.std.proofs.lemmas.Bool.{and_parts, cases_lt, leb-true, or_cases}
use Rattle.std.proofs.lemmas.Int.{ints}
use Rattle.elf_model.specs.declared.object.Object.{Object}
use Rattle.elf_model.specs.declared.relocatable.RelObject.{RelObject}
use Rattle.load_map.specs.Translation.{placed}
use Rattle.load_model.specs.Definition.{Linkage}
use Rattle.load_model.specs.Image.{Placing, image_of}
use Rattle.link_model.specs.declared.input.Mode.{Mode}
use Rattle.link_model.specs.declared.target.Reach.TheVariants.{Settled}
use Rattle.link_model.specs.declared.target.Spot.{Spot}
use Rattle.link_model.specs.declared.target.Spot.TheVariants.{Nowhere, Absolute, Section, Common}
use Rattle.link_model.specs.Inputs.{InputRel, all_rels}
use Rattle.link_model.specs.Needs.{target_at}
use Rattle.link_model.specs.Places.{address_of, data_end, data_place, is_in_data, is_within_data, is_within_text, text_end}
use Rattle.link_model.specs.Sections.{is_in_text, is_text_section, is_writable}
use Rattle.link_model.specs.Sites.{addend_of, is_address_kind, site_address, sum_of, word_of}
use Rattle.link_model.specs.SiteTests.{is_cross, lies_between, stays_in_segment}
use Rattle.link_model.specs.Targets.{is_absolute, is_settled}
use Rattle.link_model.specs.parts.Laws.{AreClear}
use Rattle.link_model.proofs.Passed.{passing_is_fitting}
use Rattle.link_sites.specs.Loaded.{IsModule, LoadedWord}
use Rattle.link_sites.proofs.Sites.{difference}
use Rattle.link_means.specs.Values.{address_word, settled_value}
use Rattle.link_means.specs.parts.Laws.{IsOutput}
use Rattle.link_means.proofs.Addresses.{settled_addresses_mean}
use Rattle.link_means.proofs.Distances.{small_in_data, small_in_text, spot_above, value_is}
use Rattle.link_means.proofs.Held.{data_begins}
use Rattle.link_means.proofs.Sharing.{data_small, shares_in_data, shares_in_text, text_address_small}
use Rattle.link_means.proofs.Words.{holds_same}

-- ---- link addresses of one segment

module _ (mode : Mode) (inputs : List RelObject) (o : Object) (l : Linkage) (p : Placing) (m : ℕ) (out : IsOutput mode inputs o) (is : IsModule l p m o) where
  -- as far from the segment's first byte as they are linked
  abbrev IsAsFar : ℕ → ℕ → Type 0
  IsAsFar base u = (pos (placed (p.maps m) u) -ℤ pos (placed (p.maps m) base)) ≡ pos u -ℤ pos base

  at_begin : (base u : ℕ) → base ≡ u → IsAsFar base u
  at_begin base u same = ap (λ n. pos (placed (p.maps m) u) -ℤ pos (placed (p.maps m) n)) same ∙ none (placed (p.maps m) u) ∙ sym (none u) ∙ ap (λ n. pos u -ℤ pos n) (sym same)
    where
      none : (n : ℕ) → (pos n -ℤ pos n) ≡ pos 0
      none n = omega (arith, ints)

  far_in_text : (u : ℕ) → u ≤ text_end mode inputs → IsAsFar 0 u
  far_in_text u le = elim (cases_lt 0 (text_end mode inputs)) [
    | inl some ↦ difference l p m o 0 u is (shares_in_text mode inputs o out 0 u some le (data_begins mode inputs))
    | inr none ↦ at_begin 0 u (omega (arith, le, none))
  ]

  far_in_data : (u : ℕ) → data_place mode inputs ≤ u → u ≤ data_end mode inputs → IsAsFar (data_place mode inputs) u
  far_in_data u ge le = elim (cases_lt (data_place mode inputs) u) [
    | inl above ↦ difference l p m o (data_place mode inputs) u is
        (shares_in_data mode inputs o out (data_place mode inputs) u (omega arith) (omega (arith, above, le)) above le)
    | inr at ↦ at_begin (data_place mode inputs) u (omega (arith, ge, at))
  ]

-- ---- the sum

-- from S and S + A in one segment
added : (s u s' u' base base' : ℕ) (a : ℤ) → (pos s' -ℤ pos base') ≡ pos s -ℤ pos base → (pos u' -ℤ pos base') ≡ pos u -ℤ pos base → pos s +ℤ a ≡ pos u → pos u' ≡ pos s' +ℤ a
added s u s' u' base base' a e f g = omega (arith, ints)

cut : (n : ℕ) (z : ℤ) → pos n ≡ z → n % 2 ^ 32 ≡ word_of z % 2 ^ 32
cut n z e = omega arith ∙ ap (λ y. word_of y % 2 ^ 32) e

between : (low high : ℕ) (z : ℤ) → lies_between low high z ≡ true → (u : ℕ) × (z ≡ pos u) × (low ≤ u) × (u ≤ high)
between low high (pos u) is =
    let parts = and_parts (int_le (pos low) (pos u)) (int_le (pos u) (pos high)) is in
    (u, refl, leb-true low u parts.0, leb-true u high parts.1)
between low high (negsuc u) is = absurd cc

word_at_sum : (u : ℕ) → u < 2 ^ 32 → word_of (pos u) ≡ u
word_at_sum u small = omega (arith, small)

reached : (k s a b : Bool) → (k && (s && (not a && not b))) ≡ false → k ≡ true → s ≡ true → a ≡ false → b ≡ true
reached true true false true far kind settled off = refl
reached true true false false far kind settled off = absurd cc
reached true true true b far kind settled off = absurd cc
reached true false a b far kind settled off = absurd cc
reached false s a b far kind settled off = absurd cc

not_absolute : (mode : Mode) (inputs : List RelObject) (spot : Spot) → (is_within_text mode inputs spot || is_within_data mode inputs spot) ≡ true → is_absolute spot ≡ false
not_absolute mode inputs (Absolute v) is = absurd cc
not_absolute mode inputs Nowhere is = refl
not_absolute mode inputs (Section k offset) is = refl
not_absolute mode inputs (Common k) is = refl

data_not_text : (mode : Mode) (inputs : List RelObject) (spot : Spot) → is_in_data inputs spot ≡ true → is_in_text inputs spot ≡ false
data_not_text mode inputs Nowhere is = absurd cc
data_not_text mode inputs (Absolute v) is = absurd cc
data_not_text mode inputs (Section k offset) is = by (is_text_section inputs k) is
  where
    by : (b : Bool) → not b ≡ true → b ≡ false
    by true e = absurd cc
    by false e = refl
data_not_text mode inputs (Common k) is = refl

module _ (mode : Mode) (inputs : List RelObject) (o : Object) (l : Linkage) (p : Placing) (m : ℕ) (x : InputRel)
    (clear : AreClear inputs) (out : IsOutput mode inputs o) (is : IsModule l p m o) (there : Contains (all_rels inputs) x) where
  abbrev spot : Spot
  spot = (target_at mode inputs x).spot

  abbrev s : ℕ
  s = address_of mode inputs (target_at mode inputs x).spot

  -- the word that loading writes is the sum, of 32 bits
  abbrev IsSum : Type 0
  IsSum = placed (p.maps m) (word_of (sum_of mode inputs x)) % 2 ^ 32 ≡ word_of (pos (settled_value mode inputs p m spot) +ℤ addend_of x) % 2 ^ 32

  made : (base u : ℕ) → is_absolute spot ≡ false → s < 2 ^ 32 → u < 2 ^ 32 → sum_of mode inputs x ≡ pos u
      → IsAsFar mode inputs o l p m out is base s → IsAsFar mode inputs o l p m out is base u → IsSum
  made base u off small small' sum e f =
      let value = value_is mode inputs p m spot off small in
      let word : word_of (sum_of mode inputs x) ≡ u = ap word_of sum ∙ word_at_sum u small' in
      let total : pos (placed (p.maps m) u) ≡ pos (placed (p.maps m) s) +ℤ addend_of x =
      added s u (placed (p.maps m) s) (placed (p.maps m) u) base (placed (p.maps m) base) (addend_of x) e f sum in
      ap (λ n. placed (p.maps m) n % 2 ^ 32) word
      ∙ cut (placed (p.maps m) u) (pos (placed (p.maps m) s) +ℤ addend_of x) total
      ∙ ap (λ n. word_of (pos n +ℤ addend_of x) % 2 ^ 32) (sym value)

  text_sum : is_within_text mode inputs spot ≡ true → is_absolute spot ≡ false → stays_in_segment mode inputs x ≡ true → IsSum
  text_sum within off stays =
      let parts = and_parts (is_in_text inputs spot) (nat_le s (text_end mode inputs)) within in
      let in' : lies_between 0 (text_end mode inputs) (sum_of mode inputs x) ≡ true =
      sym (ap (λ b. cond b (lies_between 0 (text_end mode inputs) (sum_of mode inputs x)) (lies_between (data_place mode inputs) (data_end mode inputs) (sum_of mode inputs x))) parts.0) ∙ stays in
      let u = between 0 (text_end mode inputs) (sum_of mode inputs x) in' in
      made 0 u.0 off (small_in_text mode inputs o out is.sound spot within) (text_address_small mode inputs o out u.0 is.sound u.3) u.1
      (far_in_text mode inputs o l p m out is s (leb-true s (text_end mode inputs) parts.1)) (far_in_text mode inputs o l p m out is u.0 u.3)

  data_sum : is_within_data mode inputs spot ≡ true → is_absolute spot ≡ false → stays_in_segment mode inputs x ≡ true → IsSum
  data_sum within off stays =
      let parts = and_parts (is_in_data inputs spot) (nat_le s (data_end mode inputs)) within in
      let in' : lies_between (data_place mode inputs) (data_end mode inputs) (sum_of mode inputs x) ≡ true =
      sym (ap (λ b. cond b (lies_between 0 (text_end mode inputs) (sum_of mode inputs x)) (lies_between (data_place mode inputs) (data_end mode inputs) (sum_of mode inputs x))) (data_not_text mode inputs spot parts.0)) ∙ stays in
      let u = between (data_place mode inputs) (data_end mode inputs) (sum_of mode inputs x) in' in
      let above = spot_above mode inputs spot parts.0 in
      let small = data_small mode inputs o out is.sound in
      made (data_place mode inputs) u.0 off (small_in_data mode inputs o out is.sound spot within) (omega (arith, small, u.3)) u.1
      (far_in_data mode inputs o l p m out is s (omega (arith, above)) (leb-true s (data_end mode inputs) parts.1)) (far_in_data mode inputs o l p m out is u.0 u.2 u.3)

  pub sum_means : is_address_kind (x.rel).kind ≡ true → is_writable x.at ≡ true → is_cross mode inputs x ≡ false → (target_at mode inputs x).reach ≡ Settled
      → (is_within_text mode inputs spot || is_within_data mode inputs spot) ≡ true
      → LoadedWord l p m o (site_address mode inputs x) (word_of (pos (settled_value mode inputs p m spot) +ℤ addend_of x))
  sum_means kind writable near settled within =
      let off = not_absolute mode inputs spot within in
      let far = (passing_is_fitting.reach mode inputs x near).address in
      let stays = reached (is_address_kind (x.rel).kind) (is_settled (target_at mode inputs x).reach) (is_absolute spot) (stays_in_segment mode inputs x) far kind (ap is_settled settled) off in
      let sum : IsSum = elim (or_cases (is_within_text mode inputs spot) (is_within_data mode inputs spot) within) [
        | inl text ↦ text_sum text off stays
        | inr data' ↦ data_sum data' off stays
      ] in
      let same : address_word mode inputs l p m o x ≡ placed (p.maps m) (word_of (sum_of mode inputs x)) = rw (settled, off) refl in
      let loaded = settled_addresses_mean mode inputs o l p m x clear out is there kind writable settled off in
      λ unbound. holds_same (image_of l p m o unbound) (site_address mode inputs x) (address_word mode inputs l p m o x)
      (word_of (pos (settled_value mode inputs p m spot) +ℤ addend_of x)) (ap (λ n. n % 2 ^ 32) same ∙ sum) (loaded unbound)
