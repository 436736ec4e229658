-- The words of relocations share no byte.
use Rattle.std.proofs.Common.{◌≡◌, ◌≢◌, ◌+◌, ◌<◌, ◌≤◌, ◌⊎◌, inl, inr, Bool, true, false, not, ◌&&◌, List, take, Some, refl, ap, sym, ◌∙◌, arith}
use Rattle.std.specs.Prelude.{nat_lt, slice_get, Contains}
use Rattle.std.specs.List.{list_any}
use Rattle.std.proofs.lemmas.Bool.{cases_lt}
use Rattle.std.proofs.lemmas.Bool.Decides.{nat_tests}
use Rattle.std.proofs.lemmas.List.Elements.{All-contains}
use Rattle.fd_base.proofs.Finding.{none_pass}
use Rattle.fd_base.proofs.Lists.{all_at, take-slice_get}
use Rattle.elf_model.specs.declared.object.Rel.{Rel}
use Rattle.elf_model.specs.declared.relocatable.RelObject.{RelObject}
use Rattle.elf_model.specs.Sound.{RangesApart}
use Rattle.link_model.specs.declared.input.Mode.{Mode}
use Rattle.link_model.specs.Inputs.{InputSection, InputRel, all_rels}
use Rattle.link_model.specs.Needs.{is_idle}
use Rattle.link_model.specs.Places.{section_place}
use Rattle.link_model.specs.Sites.{site_address}
use Rattle.link_model.specs.SiteTests.{meets_earlier}
use Rattle.link_model.specs.parts.Laws.{AreClear, SitesLieApart, word_range}
use Rattle.link_model.proofs.Numbering.{section_of_rel, rel_is, all_are_rels, one_rel, one_section, rel_inside}
use Rattle.link_model.proofs.Placed.{sections_apart}

-- ---- two of one section

abbrev is_met_by : Rel → Rel → Bool
is_met_by r e = not (is_idle e.kind) && (nat_lt e.site (r.site + 4) && nat_lt r.site (e.site + 4))

not_met : (e r : Rel) → is_idle e.kind ≡ false → is_met_by r e ≡ false → (e.site + 4 ≤ r.site) ⊎ (r.site + 4 ≤ e.site)
not_met e r idle off = by (nat_lt e.site (r.site + 4)) (nat_lt r.site (e.site + 4)) refl refl (ap (λ b. not b && (nat_lt e.site (r.site + 4) && nat_lt r.site (e.site + 4))) (sym idle) ∙ off)
  where
    by : (a b : Bool) → nat_lt e.site (r.site + 4) ≡ a → nat_lt r.site (e.site + 4) ≡ b → (nat_lt e.site (r.site + 4) && nat_lt r.site (e.site + 4)) ≡ false
        → (e.site + 4 ≤ r.site) ⊎ (r.site + 4 ≤ e.site)
    by true true p q none = let both : true ≡ false = sym (ap (λ x. x && nat_lt r.site (e.site + 4)) p ∙ q) ∙ none in absurd cc
    by true false p q none = inl (let le : e.site + 4 ≤ r.site = grind (arith, nat_tests) in le)
    by false b p q none = inr (let le : r.site + 4 ≤ e.site = grind (arith, nat_tests) in le)

module _ (mode : Mode) (inputs : List RelObject) (clear : AreClear inputs) where
  pub address : (x : InputRel) → site_address mode inputs x ≡ section_place mode inputs (x.at).index + (x.rel).site
  unfolding site_address
  address x = refl

  earlier : (x y : InputRel) → Contains (all_rels inputs) x → Contains (all_rels inputs) y → (x.at).index ≡ (y.at).index → x.place < y.place → is_idle (x.rel).kind ≡ false → is_idle (y.rel).kind ≡ false
      → RangesApart (word_range mode inputs x) (word_range mode inputs y)
  earlier x y one two same lt idle idle' =
      let at : x.at ≡ y.at = one_section inputs x.at y.at (section_of_rel inputs x one).0 (section_of_rel inputs y two).0 same in
      let rels = ((y.at).section).rels in
      let there : slice_get rels x.place ≡ Some x.rel = ap (λ (s : InputSection). slice_get (s.section).rels x.place) (sym at) ∙ (rel_is inputs x one).rel' in
      let free : meets_earlier y ≡ false = All-contains (λ z. meets_earlier z ≡ false) (all_rels inputs) y clear.clear two in
      let none : list_any (is_met_by y.rel) (take y.place rels) ≡ false = ap (λ b. not b && list_any (is_met_by y.rel) (take y.place rels)) (sym idle') ∙ free in
      let off : is_met_by y.rel x.rel ≡ false =
      all_at (λ e. is_met_by y.rel e ≡ false) (take y.place rels) x.place x.rel (none_pass (is_met_by y.rel) (take y.place rels) none) (take-slice_get y.place x.place rels lt ∙ there) in
      let place : section_place mode inputs (x.at).index ≡ section_place mode inputs (y.at).index = ap (section_place mode inputs) same in
      let a = address x in
      let b = address y in
      elim (not_met x.rel y.rel idle off) [ inl h ↦ inl (omega (arith, h, place, a, b)) | inr h ↦ inr (omega (arith, h, place, a, b)) ]

  -- ---- two of two sections

  elsewhere : (x y : InputRel) → Contains (all_rels inputs) x → Contains (all_rels inputs) y → (x.at).index ≢ (y.at).index → RangesApart (word_range mode inputs x) (word_range mode inputs y)
  elsewhere x y one two ne =
      let p = (rel_inside inputs clear.sound x one).within in
      let q = (rel_inside inputs clear.sound y two).within in
      let a = address x in
      let b = address y in
      elim (sections_apart mode inputs x.at y.at (section_of_rel inputs x one).0 (section_of_rel inputs y two).0 ne) [ inl h ↦ inl (omega (arith, h, p, a, b)) | inr h ↦ inr (omega (arith, h, q, a, b)) ]

  -- ---- any two

  turned : (x y : InputRel) → RangesApart (word_range mode inputs y) (word_range mode inputs x) → RangesApart (word_range mode inputs x) (word_range mode inputs y)
  turned x y (inl h) = inr h
  turned x y (inr h) = inl h

  -- two relocations are one, or their words are apart
  pub one_or_apart : (x y : InputRel) → Contains (all_rels inputs) x → Contains (all_rels inputs) y → is_idle (x.rel).kind ≡ false → is_idle (y.rel).kind ≡ false
      → (x ≡ y) ⊎ RangesApart (word_range mode inputs x) (word_range mode inputs y)
  one_or_apart x y one two idle idle' = elim (cases_lt (x.at).index (y.at).index) [
    | inl lt ↦ inr (elsewhere x y one two (λ e. absurd (omega arith)))
    | inr le ↦ elim (cases_lt (y.at).index (x.at).index) [
      | inl lt ↦ inr (elsewhere x y one two (λ e. absurd (omega arith)))
      | inr ge ↦ together (omega arith)
    ]
  ]
    where
      together : (x.at).index ≡ (y.at).index → (x ≡ y) ⊎ RangesApart (word_range mode inputs x) (word_range mode inputs y)
      together same = elim (cases_lt x.place y.place) [
        | inl lt ↦ inr (earlier x y one two same lt idle idle')
        | inr le ↦ elim (cases_lt y.place x.place) [
          | inl lt ↦ inr (turned x y (earlier y x two one (sym same) lt idle' idle))
          | inr ge ↦ inl (one_rel inputs x y one two same (omega arith))
        ]
      ]

pub sites_lie_apart : SitesLieApart
sites_lie_apart = record {
  each = all_are_rels;
  apart = λ mode inputs x y clear one two ne idle idle'. elim (one_or_apart mode inputs clear x y one two idle idle') [ inl same ↦ absurd (ne same) | inr off ↦ off ];
}
