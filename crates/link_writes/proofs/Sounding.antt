-- A linked object is such as readers accept: whatever loading fills lies in its data, and apart.
use Rattle.std.proofs.Common.{◌≡◌, ap, subst, ◌+◌, ◌-◌, ◌%◌, ◌≤◌, inl, inr, Bool, true, false, cond, ◌||◌, List, [], ◌∷◌, ◌++◌, map, arith, All, AllPairs}
use Rattle.std.specs.Prelude.{◌==◌, Contains}
use Rattle.std.proofs.lemmas.List.Elements.{All-cons, All-append, All-contains, All-map}
use Rattle.std.proofs.lemmas.List.Kept.{AllPairs-cons}
use Rattle.fd_base.proofs.Members.{all_contained, in_map}
use Rattle.fd_base.proofs.Ranges.{is_spanned}
use Rattle.elf_model.specs.declared.object.Rel.{Rel}
use Rattle.elf_model.specs.declared.relocatable.RelObject.{RelObject}
use Rattle.elf_model.specs.declared.table.Site.{Site}
use Rattle.elf_model.specs.Places.{is_writable_in, spans, site_of_rel}
use Rattle.elf_model.specs.Relocations.{got_header}
use Rattle.elf_model.specs.Sound.{IsInPlace, IsWhole, RangesApart}
use Rattle.link_model.specs.declared.input.Mode.{Mode}
use Rattle.link_model.specs.Places.{text_end, data_place, data_end}
use Rattle.link_model.specs.Segments.{text_segment, data_segment, segments_of}
use Rattle.link_model.proofs.Placed.{data_above}
use Rattle.link_writes.proofs.Filled.{RelsApart}
use Rattle.link_writes.proofs.Pairs.{pairs_append, pairs_mapped}
use Rattle.link_writes.proofs.Segmented.{of_both, some_data}
use Rattle.link_writes.proofs.Sites.{IsFillable, data_multiple}

-- ---- a range in the data

module _ (mode : Mode) (inputs : List RelObject) where
  pub record IsInData (r : Site) : Type 0 where
    pub multiple : r.addr % 4 ≡ 0
    pub from : data_place mode inputs ≤ r.addr
    pub to : r.addr + r.size ≤ data_end mode inputs

  in_place : (r : Site) → IsInData r → IsInPlace (segments_of mode inputs) r
  in_place r d = record { aligned = d.multiple; writable = by (text_end mode inputs == 0) }
    where
      held : spans (data_segment mode inputs) r.addr r.size ≡ true
      held =
          let some = some_data mode inputs in
          is_spanned (data_place mode inputs) (data_end mode inputs - data_place mode inputs) r.addr r.size d.from (omega (arith, d.to, some))

      by : (b : Bool) → is_writable_in (cond b (data_segment mode inputs ∷ []) (text_segment mode inputs ∷ data_segment mode inputs ∷ [])) r.addr r.size ≡ true
      by true = ap (λ b. b || false) held
      by false = ap (λ b. b || false) held

  whole_in : (r : Site) → IsInData r → All (λ s. IsWhole s r) (segments_of mode inputs)
  whole_in r d =
      let some = some_data mode inputs in
      of_both mode inputs (λ s. IsWhole s r) (λ text. inr (inr (let above = data_above mode inputs in omega (arith, above, d.from)))) (inl (d.from, omega (arith, d.to, some)))

  pub all_in_place : (rs : List Site) → All IsInData rs → All (IsInPlace (segments_of mode inputs)) rs
  all_in_place rs all = all_contained (IsInPlace (segments_of mode inputs)) rs (λ r there. in_place r (All-contains IsInData rs r all there))

  pub all_whole : (rs : List Site) → All IsInData rs → All (λ s. All (IsWhole s) rs) (segments_of mode inputs)
  all_whole rs all =
      all_contained (λ s. All (IsWhole s) rs) (segments_of mode inputs) (λ s in'.
      all_contained (IsWhole s) rs (λ r there. All-contains (λ t. IsWhole t r) (segments_of mode inputs) s (whole_in r (All-contains IsInData rs r all there)) in'))

  -- ---- the header of the GOT, and what is behind it

  abbrev pub header : Site
  header = got_header (data_place mode inputs)

  header_in : IsInData header
  header_in = let some = some_data mode inputs in record { multiple = data_multiple mode inputs; from = omega arith; to = some }

  -- some ranges in the data, all behind the header and apart
  pub record AreFillable (rs : List Site) : Type 0 where
    pub inside : All IsInData rs
    pub behind : All (λ r. data_place mode inputs + 12 ≤ r.addr) rs
    pub apart : AllPairs RangesApart rs

  pub with_header : (rs : List Site) → AreFillable rs → All IsInData (header ∷ rs) × AllPairs RangesApart (header ∷ rs)
  with_header rs f = (
    All-cons IsInData header rs header_in f.inside,
    AllPairs-cons RangesApart header rs (all_contained (RangesApart header) rs (λ r there. inl (All-contains (λ q. data_place mode inputs + 12 ≤ q.addr) rs r f.behind there))) f.apart,
  )

  -- ---- of relocations

  in_data : (r : Rel) → IsFillable mode inputs r → IsInData (site_of_rel r)
  in_data r f = record { multiple = f.multiple; from = omega (arith, f.from); to = f.to }

  pub of_rels : (rs qs : List Rel) → All (IsFillable mode inputs) rs → All (IsFillable mode inputs) qs → AllPairs RelsApart rs → AllPairs RelsApart qs → ((r q : Rel) → Contains rs r → Contains qs q → RelsApart r q)
      → AreFillable (map site_of_rel rs ++ map site_of_rel qs)
  of_rels rs qs fr fq ar aq cross = record {
    inside = All-append IsInData (map site_of_rel rs) (map site_of_rel qs) (insides rs fr) (insides qs fq);
    behind = All-append (λ r. data_place mode inputs + 12 ≤ r.addr) (map site_of_rel rs) (map site_of_rel qs) (behinds rs fr) (behinds qs fq);
    apart = pairs_append RangesApart (map site_of_rel rs) (map site_of_rel qs) (aparts rs ar) (aparts qs aq) (λ a b one two. both a b (in_map site_of_rel rs a one) (in_map site_of_rel qs b two));
  }
    where
      insides : (xs : List Rel) → All (IsFillable mode inputs) xs → All IsInData (map site_of_rel xs)
      insides xs all = All-map IsInData site_of_rel xs (all_contained (λ r. IsInData (site_of_rel r)) xs (λ r there. in_data r (All-contains (IsFillable mode inputs) xs r all there)))

      behinds : (xs : List Rel) → All (IsFillable mode inputs) xs → All (λ (r : Site). data_place mode inputs + 12 ≤ r.addr) (map site_of_rel xs)
      behinds xs all =
          All-map (λ (r : Site). data_place mode inputs + 12 ≤ r.addr) site_of_rel xs
          (all_contained (λ (r : Rel). data_place mode inputs + 12 ≤ r.site) xs (λ r there. (All-contains (IsFillable mode inputs) xs r all there).from))

      aparts : (xs : List Rel) → AllPairs RelsApart xs → AllPairs RangesApart (map site_of_rel xs)
      aparts xs p = pairs_mapped RelsApart RangesApart site_of_rel xs (λ a b h. h) p

      both : (a b : Site) → (r : Rel) × Contains rs r × (site_of_rel r ≡ a) → (q : Rel) × Contains qs q × (site_of_rel q ≡ b) → RangesApart a b
      both a b one two = subst (λ c. RangesApart c b) one.2 (subst (RangesApart (site_of_rel one.0)) two.2 (cross one.0 two.0 one.1 two.1))
