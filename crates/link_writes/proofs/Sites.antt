-- The places that the loader fills: in the data behind the header of the GOT, at multiples of 4, and apart.
use Rattle.std.proofs.Common.{◌≡◌, ◌≢◌, refl, ap, sym, subst, ◌∙◌, ℕ, ◌+◌, ◌*◌, ◌/◌, ◌%◌, ◌≤◌, inl, Bool, true, false, not, ◌&&◌, ◌||◌, List, [], ◌∷◌, ◌++◌, map, arith, All, AllPairs}
use Rattle.std.specs.Prelude.{◌==◌, flat_map, filter_map, Contains}
use Rattle.std.proofs.lemmas.Bool.{or_parts, eqb-true}
use Rattle.std.proofs.lemmas.List.Elements.{All-nil, All-cons, All-append, All-contains}
use Rattle.fd_base.proofs.Lists.{pairs_of_none, pairs_of_one}
use Rattle.fd_base.proofs.Members.{all_contained, in_flat_map, nothing_in, in_map}
use Rattle.elf_model.specs.declared.constants.TheConstants.{R_ARM_ABS32, R_ARM_TARGET1, R_ARM_FUNCDESC, R_ARM_FUNCDESC_VALUE}
use Rattle.elf_model.specs.declared.object.Rel.{Rel}
use Rattle.elf_model.specs.declared.relocatable.RelObject.{RelObject}
use Rattle.elf_model.specs.declared.relocatable.RelSection.{RelSection}
use Rattle.elf_model.specs.Header.{is_one_of}
use Rattle.elf_model.specs.Relocations.{site_size}
use Rattle.link_model.specs.declared.input.Mode.{Mode}
use Rattle.link_model.specs.declared.need.Need.{Need}
use Rattle.link_model.specs.declared.need.Need.TheVariants.{Word, FuncWord, Descriptor, NoFunction, Slot}
use Rattle.link_model.specs.declared.target.Key.{Key}
use Rattle.link_model.specs.DynamicRels.{need_rels, jmprels_for, dynamic_rels}
use Rattle.link_model.specs.DynamicSymbols.{symbol_index}
use Rattle.link_model.specs.Inputs.{InputSection, InputRel, numbered, sections_in, sections_of, rels_in, all_rels}
use Rattle.link_model.specs.Needs.{is_idle, all_needs, is_same_need, slot_key}
use Rattle.link_model.specs.Places.{text_end, data_place, got_end, zeros_end, data_end, need_place, blocks_of, block_piece}
use Rattle.link_model.specs.Sections.{is_writable}
use Rattle.link_model.specs.Sites.{site_address, site_rels}
use Rattle.link_model.specs.parts.Laws.{AreClear, IsWellTyped, word_range, need_range}
use Rattle.link_model.proofs.Needed.{same_need, needs_once, stands, needs_apart}
use Rattle.link_model.proofs.Numbering.{section_of_rel, rel_inside}
use Rattle.link_model.proofs.Placed.{sections_lie_apart}
use Rattle.link_model.proofs.Sited.{address, sites_lie_apart}
use Rattle.link_layout.proofs.Lying.{end_from}
use Rattle.link_writes.proofs.Filled.{RelsApart, rels_turned, LiesIn, AreIn, of_apart, need_in, site_in, filled_kind}
use Rattle.link_writes.proofs.Pairs.{pairs_append, pairs_flat_map, pairs_numbered, pairs_mapped, all_sorted, pairs_sorted}
use Rattle.link_writes.proofs.Segmented.{got_in_data, header_in_got}

-- ---- relocations of the inputs stand in their list once

abbrev made : ℕ × (ℕ × ℕ × RelSection) → InputSection
made e = record { index = e.0; input = (e.1).0; number = (e.1).1; section = (e.1).2 }

module _ (inputs : List RelObject) where
  sections_once : AllPairs (λ x y. x ≢ y) (sections_of inputs)
  sections_once =
      pairs_mapped (λ a b. a.0 ≢ b.0) (λ x y. x ≢ y) made (numbered (flat_map sections_in (numbered inputs)))
      (λ a b ne same. ne (ap (λ (x : InputSection). x.index) same))
      (pairs_numbered 0 (flat_map sections_in (numbered inputs)))

  rels_once : (x : InputSection) → AllPairs (λ a b. a ≢ b) (rels_in x)
  rels_once x =
      pairs_mapped (λ a b. a.0 ≢ b.0) (λ a b. a ≢ b) (λ e. record { at = x; place = e.0; rel = e.1 }) (numbered (x.section).rels)
      (λ a b ne same. ne (ap (λ (y : InputRel). y.place) same))
      (pairs_numbered 0 (x.section).rels)

  at_is : (x : InputSection) (r : InputRel) → Contains (rels_in x) r → r.at ≡ x
  at_is x r there =
      let from = in_map (λ e. record { at = x; place = e.0; rel = e.1 }) (numbered (x.section).rels) r there in
      sym (ap (λ (y : InputRel). y.at) from.2)

  pub all_rels_once : AllPairs (λ a b. a ≢ b) (all_rels inputs)
  all_rels_once =
      pairs_flat_map (λ a b. a ≢ b) rels_in (sections_of inputs) sections_once (λ x there. rels_once x)
      (λ a b one two ne r q in' there same. ne (sym (at_is a r in') ∙ ap (λ (y : InputRel). y.at) same ∙ at_is b q there))

-- ---- slots

abbrev pub slot_rel : Mode → List RelObject → Key → Rel
slot_rel mode inputs key = record { site = need_place mode inputs (Slot key); kind = R_ARM_FUNCDESC_VALUE; symbol = symbol_index mode inputs key }

abbrev pub slot_rels : Mode → List RelObject → Need → List Rel
slot_rels mode inputs (Slot key) = slot_rel mode inputs key ∷ []
slot_rels mode inputs other = []

module _ (mode : Mode) (inputs : List RelObject) where
  pub slots_of : (needs : List Need) → map (slot_rel mode inputs) (filter_map slot_key needs) ≡ flat_map (slot_rels mode inputs) needs
  slots_of [] = refl
  slots_of (Word key ∷ needs) = slots_of needs
  slots_of (FuncWord key ∷ needs) = slots_of needs
  slots_of (Descriptor function ∷ needs) = slots_of needs
  slots_of (NoFunction key ∷ needs) = slots_of needs
  slots_of (Slot key ∷ needs) = ap (λ rs. slot_rel mode inputs key ∷ rs) (slots_of needs)

  slot_in : (n : Need) → AreIn (need_range mode inputs n) (slot_rels mode inputs n)
  slot_in (Word key) = record { each = All-nil (LiesIn (need_range mode inputs (Word key))); apart = pairs_of_none RelsApart }
  slot_in (FuncWord key) = record { each = All-nil (LiesIn (need_range mode inputs (FuncWord key))); apart = pairs_of_none RelsApart }
  slot_in (Descriptor function) = record { each = All-nil (LiesIn (need_range mode inputs (Descriptor function))); apart = pairs_of_none RelsApart }
  slot_in (NoFunction key) = record { each = All-nil (LiesIn (need_range mode inputs (NoFunction key))); apart = pairs_of_none RelsApart }
  slot_in (Slot key) = record {
    each = All-cons (LiesIn (need_range mode inputs (Slot key))) (slot_rel mode inputs key) [] (record { from = omega arith; to = omega arith; multiple = λ e. e }) (All-nil (LiesIn (need_range mode inputs (Slot key))));
    apart = pairs_of_one RelsApart (slot_rel mode inputs key);
  }

  no_need_of_slot : (n : Need) (r q : Rel) → Contains (need_rels mode inputs n) r → Contains (slot_rels mode inputs n) q → RelsApart r q
  no_need_of_slot (Word key) r q one two = absurd (nothing_in q two)
  no_need_of_slot (FuncWord key) r q one two = absurd (nothing_in q two)
  no_need_of_slot (Descriptor function) r q one two = absurd (nothing_in q two)
  no_need_of_slot (NoFunction key) r q one two = absurd (nothing_in q two)
  no_need_of_slot (Slot key) r q one two = absurd (nothing_in r one)

-- ---- what can be filled

-- in the data behind the header of the GOT, at a multiple of 4
pub record IsFillable (mode : Mode) (inputs : List RelObject) (r : Rel) : Type 0 where
  pub multiple : r.site % 4 ≡ 0
  pub from : data_place mode inputs + 12 ≤ r.site
  pub to : r.site + site_size r.kind ≤ data_end mode inputs

module _ (mode : Mode) (inputs : List RelObject) where
  pub data_multiple : data_place mode inputs % 4 ≡ 0
  unfolding data_place
  data_multiple = step (text_end mode inputs / 0x1_0000)
    where
      step : (n : ℕ) → ((n + 1) * 0x1_0000) % 4 ≡ 0
      step n = omega arith

  need_multiple : (n : Need) → need_place mode inputs n % 4 ≡ 0
  need_multiple (Word key) = omega (arith, data_multiple)
  need_multiple (FuncWord key) = omega (arith, data_multiple)
  need_multiple (Descriptor function) = omega (arith, data_multiple)
  need_multiple (NoFunction key) = omega (arith, data_multiple)
  need_multiple (Slot key) = omega (arith, data_multiple)

  of_need : (n : Need) (r : Rel) → Contains (all_needs mode inputs) n → LiesIn (need_range mode inputs n) r → IsFillable mode inputs r
  of_need n r there l =
      let s = stands mode inputs n there in
      let up = got_in_data mode inputs in
      record { multiple = l.multiple (need_multiple n); from = omega (arith, s.from, l.from); to = omega (arith, s.to, l.to, up) }

  zeros_in_data : zeros_end mode inputs ≤ data_end mode inputs
  unfolding data_end
  zeros_in_data = end_from (zeros_end mode inputs) (map block_piece (blocks_of mode inputs))

module _ (mode : Mode) (inputs : List RelObject) (clear : AreClear inputs) (typed : (x : InputRel) → Contains (all_rels inputs) x → IsWellTyped mode inputs x) where
  -- ---- of relocations

  record IsSite (x : InputRel) : Type 0 where
    pub multiple : site_address mode inputs x % 4 ≡ 0
    pub writable : is_writable x.at ≡ true
    pub busy : is_idle (x.rel).kind ≡ false

  not_not : (b : Bool) → not b ≡ false → b ≡ true
  not_not true e = refl
  not_not false e = absurd cc

  site_is : (x : InputRel) (r : Rel) → Contains (all_rels inputs) x → Contains (site_rels mode inputs x) r → IsSite x
  site_is x r there in' =
      let kinds : List ℕ = R_ARM_ABS32 ∷ R_ARM_TARGET1 ∷ R_ARM_FUNCDESC ∷ [] in
      let listed : is_one_of kinds (x.rel).kind ≡ true = filled_kind mode inputs (λ k. is_one_of kinds k ≡ true) refl refl refl x r in' in
      let off : (not (is_writable x.at) || not (site_address mode inputs x % 4 == 0)) ≡ false =
      sym (ap (λ b. b && (not (is_writable x.at) || not (site_address mode inputs x % 4 == 0))) listed) ∙ (typed x there).fillable in
      let parts = or_parts (not (is_writable x.at)) (not (site_address mode inputs x % 4 == 0)) off in
      record {
        multiple = eqb-true (site_address mode inputs x % 4) 0 (not_not (site_address mode inputs x % 4 == 0) parts.1);
        writable = not_not (is_writable x.at) parts.0;
        busy = filled_kind mode inputs (λ k. is_idle k ≡ false) refl refl refl x r in';
      }

  -- behind the GOT too
  record IsSiteRel (r : Rel) : Type 0 where
    pub fillable : IsFillable mode inputs r
    pub behind : got_end mode inputs ≤ r.site

  of_site : (x : InputRel) (r : Rel) → Contains (all_rels inputs) x → Contains (site_rels mode inputs x) r → IsSiteRel r
  of_site x r there in' =
      let s = site_is x r there in' in
      let l = All-contains (LiesIn (word_range mode inputs x)) (site_rels mode inputs x) r (site_in mode inputs x).each in' in
      let own = section_of_rel inputs x there in
      let between = (sections_lie_apart.each mode inputs x.at own.0).in_data s.writable in
      let inside = (rel_inside inputs clear.sound x there).within in
      let place = address mode inputs clear x in
      let low = header_in_got mode inputs in
      let up = zeros_in_data mode inputs in
      record {
        fillable = record {
          multiple = l.multiple s.multiple;
          from = omega (arith, l.from, place, between.from, low);
          to = omega (arith, l.to, place, between.to, inside, up);
        };
        behind = omega (arith, l.from, place, between.from);
      }

  -- ---- all

  abbrev of_needs : List Rel
  of_needs = flat_map (need_rels mode inputs) (all_needs mode inputs)

  abbrev of_sites : List Rel
  of_sites = flat_map (site_rels mode inputs) (all_rels inputs)

  abbrev of_slots : List Rel
  of_slots = flat_map (slot_rels mode inputs) (all_needs mode inputs)

  -- in the GOT
  InGot : Rel → Type 0
  InGot r = (n : Need) × Contains (all_needs mode inputs) n × LiesIn (need_range mode inputs n) r

  need_rel : (r : Rel) → Contains of_needs r → InGot r
  unfolding InGot
  need_rel r there =
      let from = in_flat_map (need_rels mode inputs) (all_needs mode inputs) r there in
      (from.0, from.1, All-contains (LiesIn (need_range mode inputs from.0)) (need_rels mode inputs from.0) r (need_in mode inputs from.0).each from.2)

  slot_is : (r : Rel) → Contains of_slots r → InGot r
  unfolding InGot
  slot_is r there =
      let from = in_flat_map (slot_rels mode inputs) (all_needs mode inputs) r there in
      (from.0, from.1, All-contains (LiesIn (need_range mode inputs from.0)) (slot_rels mode inputs from.0) r (slot_in mode inputs from.0).each from.2)

  site_rel : (r : Rel) → Contains of_sites r → IsSiteRel r
  site_rel r there =
      let from = in_flat_map (site_rels mode inputs) (all_rels inputs) r there in
      of_site from.0 r from.1 from.2

  got_apart : (r q : Rel) → InGot r → IsSiteRel q → RelsApart r q
  unfolding InGot
  got_apart r q g s = let stand = stands mode inputs g.0 g.1 in inl (omega (arith, stand.to, g.2.to, s.behind))

  got_fillable : (r : Rel) → InGot r → IsFillable mode inputs r
  unfolding InGot
  got_fillable r g = of_need mode inputs g.0 r g.1 g.2

  by_needs : (f : Need → List Rel) → ((n : Need) → AreIn (need_range mode inputs n) (f n)) → AllPairs RelsApart (flat_map f (all_needs mode inputs))
  by_needs f each =
      pairs_flat_map RelsApart f (all_needs mode inputs) (needs_once mode inputs) (λ n there. (each n).apart)
      (λ a b one two ne r q in' there.
      of_apart (need_range mode inputs a) (need_range mode inputs b) r q (needs_apart mode inputs a b one two ne)
      (All-contains (LiesIn (need_range mode inputs a)) (f a) r (each a).each in') (All-contains (LiesIn (need_range mode inputs b)) (f b) q (each b).each there))

  by_sites : AllPairs RelsApart of_sites
  by_sites =
      pairs_flat_map RelsApart (site_rels mode inputs) (all_rels inputs) (all_rels_once inputs) (λ x there. (site_in mode inputs x).apart)
      (λ x y one two ne r q in' there.
      of_apart (word_range mode inputs x) (word_range mode inputs y) r q
      (sites_lie_apart.apart mode inputs x y clear one two ne (site_is x r one in').busy (site_is y q two there).busy)
      (All-contains (LiesIn (word_range mode inputs x)) (site_rels mode inputs x) r (site_in mode inputs x).each in')
      (All-contains (LiesIn (word_range mode inputs y)) (site_rels mode inputs y) q (site_in mode inputs y).each there))

  need_or_slot : (r q : Rel) → Contains of_needs r → Contains of_slots q → RelsApart r q
  need_or_slot r q one two =
      let a = in_flat_map (need_rels mode inputs) (all_needs mode inputs) r one in
      let b = in_flat_map (slot_rels mode inputs) (all_needs mode inputs) q two in
      by a b (is_same_need a.0 b.0) refl
    where
      by : (a : (n : Need) × Contains (all_needs mode inputs) n × Contains (need_rels mode inputs n) r) (b : (n : Need) × Contains (all_needs mode inputs) n × Contains (slot_rels mode inputs n) q) (same : Bool)
          → is_same_need a.0 b.0 ≡ same → RelsApart r q
      by a b true e =
          let one' : a.0 ≡ b.0 = (same_need a.0 b.0).0 e in
          no_need_of_slot mode inputs b.0 r q (subst (λ n. Contains (need_rels mode inputs n) r) one' a.2) b.2
      by a b false e =
          of_apart (need_range mode inputs a.0) (need_range mode inputs b.0) r q
          (needs_apart mode inputs a.0 b.0 a.1 b.1 (λ same. let yes' : true ≡ false = sym ((same_need a.0 b.0).1 same) ∙ e in cc))
          (All-contains (LiesIn (need_range mode inputs a.0)) (need_rels mode inputs a.0) r (need_in mode inputs a.0).each a.2)
          (All-contains (LiesIn (need_range mode inputs b.0)) (slot_rels mode inputs b.0) q (slot_in mode inputs b.0).each b.2)

  pub dynamic_apart : AllPairs RelsApart (dynamic_rels mode inputs)
  dynamic_apart =
      pairs_sorted RelsApart rels_turned (of_needs ++ of_sites)
      (pairs_append RelsApart of_needs of_sites (by_needs (need_rels mode inputs) (need_in mode inputs)) by_sites (λ r q one two. got_apart r q (need_rel r one) (site_rel q two)))

  pub dynamic_fillable : All (IsFillable mode inputs) (dynamic_rels mode inputs)
  dynamic_fillable =
      all_sorted (IsFillable mode inputs) (of_needs ++ of_sites)
      (All-append (IsFillable mode inputs) of_needs of_sites
      (all_contained (IsFillable mode inputs) of_needs (λ r there. got_fillable r (need_rel r there)))
      (all_contained (IsFillable mode inputs) of_sites (λ r there. (site_rel r there).fillable)))

  slots_are : jmprels_for mode inputs ≡ of_slots
  slots_are = slots_of mode inputs (all_needs mode inputs)

  pub slots_apart : AllPairs RelsApart (jmprels_for mode inputs)
  slots_apart = subst (AllPairs RelsApart) (sym slots_are) (by_needs (slot_rels mode inputs) (slot_in mode inputs))

  pub slots_fillable : All (IsFillable mode inputs) (jmprels_for mode inputs)
  slots_fillable = subst (All (IsFillable mode inputs)) (sym slots_are) (all_contained (IsFillable mode inputs) of_slots (λ r there. got_fillable r (slot_is r there)))

  slot_from_all : (q : Rel) → Contains of_slots q → All (λ r. RelsApart r q) (dynamic_rels mode inputs)
  slot_from_all q there =
      all_sorted (λ r. RelsApart r q) (of_needs ++ of_sites)
      (All-append (λ r. RelsApart r q) of_needs of_sites
      (all_contained (λ r. RelsApart r q) of_needs (λ r in'. need_or_slot r q in' there))
      (all_contained (λ r. RelsApart r q) of_sites (λ r in'. rels_turned q r (got_apart q r (slot_is q there) (site_rel r in')))))

  pub dynamic_or_slot : (r q : Rel) → Contains (dynamic_rels mode inputs) r → Contains (jmprels_for mode inputs) q → RelsApart r q
  dynamic_or_slot r q one two =
      All-contains (λ p. RelsApart p q) (dynamic_rels mode inputs) r (slot_from_all q (subst (λ rs. Contains rs q) slots_are two)) one
