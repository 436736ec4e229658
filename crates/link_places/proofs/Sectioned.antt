-- What is known of a section from what the layout asks of it.
use Rattle.std.proofs.Common.{◌≡◌, ℕ, ◌+◌, ◌<◌, ◌≤◌, Bool, true, false, cond, not, List, [], ◌∷◌, ◌++◌, length, map, Option, Some, None, refl, ap, sym, ◌∙◌, arith, All}
use Rattle.std.specs.Prelude.{◌==◌, filter, slice_get, get_or, Contains}
use Rattle.std.specs.Option.{option_map, option_map_or}
use Rattle.std.proofs.lemmas.List.{length-map, map-append}
use Rattle.std.proofs.lemmas.List.Elements.{All-append, All-contains}
use Rattle.std.proofs.lemmas.Option.{slice_get-map, slice_get_within}
use Rattle.fd_base.proofs.Members.{all_contained, in_map, in_filter}
use Rattle.elf_model.specs.declared.relocatable.RelObject.{RelObject}
use Rattle.link_layout.specs.Layout.{aligned}
use Rattle.link_layout.proofs.Lying.{end_from}
use Rattle.link_model.specs.Inputs.{InputSection, sections_of}
use Rattle.link_model.specs.Sections as spec
use Rattle.link_model.specs.Sections.{place_among, sections_end}
use Rattle.link_model.proofs.Numbering.{section_at}
use Rattle.link_places.specs.declared.heads.SectionHead.{SectionHead}
use Rattle.link_places.specs.declared.lying.Lying.{Lying}
use Rattle.link_places.specs.parts.Heads.{head_of, heads_of, text_heads, is_writable, piece_of}
use Rattle.link_places.specs.declared.data.DataPart.TheVariants.{Starts, Ends, Others, Zeros}
use Rattle.link_places.specs.parts.Data.{is_of, filled_heads, data_heads}
use Rattle.link_places.specs.declared.lying.NumberedPiece.{NumberedPiece}
use Rattle.link_places.specs.parts.Lying.{numbered_of, numbered_end, numbered_place, ArePlaced, heads_end, head_place, AreLaid}

map_or-map : {X Y : Type 0} (f : X → Y) (p : Y → Bool) (o : Option X) → option_map_or p (option_map f o) false ≡ option_map_or (λ x. p (f x)) o false
map_or-map f p None = refl
map_or-map f p (Some x) = refl

-- ---- lists of them

pub filter-map : {X Y : Type 0} (f : X → Y) (p : Y → Bool) (xs : List X) → filter p (map f xs) ≡ map f (filter (λ x. p (f x)) xs)
filter-map f p [] = refl
filter-map f p (x ∷ xs) = by (p (f x)) (filter-map f p xs)
  where
    by : (b : Bool) → filter p (map f xs) ≡ map f (filter (λ y. p (f y)) xs) → cond b (f x ∷ filter p (map f xs)) (filter p (map f xs)) ≡ map f (cond b (x ∷ filter (λ y. p (f y)) xs) (filter (λ y. p (f y)) xs))
    by true rest = ap (λ ys. f x ∷ ys) rest
    by false rest = rest

pub place-heads : (from k : ℕ) (xs : List InputSection) → head_place from (map head_of xs) k ≡ place_among from xs k
place-heads from k [] = refl
place-heads from k (x ∷ xs) = ap (λ n. cond (x.index == k) (aligned (x.section).align from) n) (place-heads (aligned (x.section).align from + (x.section).size) k xs)

pub end-heads : (from : ℕ) (xs : List InputSection) → heads_end from (map head_of xs) ≡ sections_end from xs
end-heads from [] = refl
end-heads from (x ∷ xs) = end-heads (aligned (x.section).align from + (x.section).size) xs

-- no section lies behind the end
pub place-below : (from k : ℕ) (hs : List SectionHead) → head_place from hs k ≤ heads_end from hs
place-below from k [] = omega arith
place-below from k (h ∷ hs) = by (h.index == k) (place-below behind k hs) (end_from behind (map piece_of hs))
  where
    behind : ℕ
    behind = aligned h.align from + h.size

    by : (b : Bool) → head_place behind hs k ≤ heads_end behind hs → behind ≤ heads_end behind hs → cond b (aligned h.align from) (head_place behind hs k) ≤ heads_end behind hs
    by true rest end = omega (arith, end)
    by false rest end = rest

module _ (inputs : List RelObject) where
  -- ---- numbers

  pub numbered-head : (h : SectionHead) → Contains (heads_of inputs) h → h.index < length (heads_of inputs)
  numbered-head h there =
      let from = in_map head_of (sections_of inputs) h there in
      let x = from.0 in
      let at = slice_get_within (sections_of inputs) x.index x (section_at inputs x from.1) in
      let same : x.index ≡ h.index = ap (λ (g : SectionHead). g.index) from.2 in
      omega (arith, at, same, length-map (sections_of inputs) head_of)

  pub numbered-in : (p : SectionHead → Bool) → All (λ h. h.index < length (heads_of inputs)) (filter p (heads_of inputs))
  numbered-in p = all_contained (λ h. h.index < length (heads_of inputs)) (filter p (heads_of inputs)) (λ h there. numbered-head h (in_filter p (heads_of inputs) h there).0)

  -- ---- the text

  text-heads : text_heads inputs ≡ map head_of (spec.text_sections inputs)
  text-heads = filter-map head_of (λ h. not (is_writable h)) (sections_of inputs)

  pub text-place : (l : Lying) (k : ℕ) → AreLaid 0 (text_heads inputs) l → get_or l.places.items k l.end ≡ spec.text_place inputs k
  unfolding spec.text_place
  text-place l k laid = laid.place k ∙ ap (λ hs. head_place 0 hs k) text-heads ∙ place-heads 0 k (spec.text_sections inputs)

  pub text-end : (l : Lying) → AreLaid 0 (text_heads inputs) l → l.end ≡ spec.text_sections_end inputs
  unfolding spec.text_sections_end
  text-end l laid = laid.end ∙ ap (heads_end 0) text-heads ∙ end-heads 0 (spec.text_sections inputs)

  pub head-at : (k : ℕ) → slice_get (heads_of inputs) k ≡ option_map head_of (slice_get (sections_of inputs) k)
  head-at k = slice_get-map head_of (sections_of inputs) k

  -- a test of the section of a number
  pub tested : (k : ℕ) (p : SectionHead → Bool) → option_map_or p (slice_get (heads_of inputs) k) false ≡ spec.has_section inputs k (λ x. p (head_of x))
  tested k p = ap (λ o. option_map_or p o false) (head-at k) ∙ map_or-map head_of p (slice_get (sections_of inputs) k)

pub below-end : (from k : ℕ) (hs : List SectionHead) (l : Lying) → AreLaid from hs l → get_or l.places.items k l.end ≤ l.end
below-end from k hs l laid = omega (arith, laid.place k, laid.end, place-below from k hs)

-- ---- the data

module _ (inputs : List RelObject) where
  abbrev hs : List SectionHead
  hs = heads_of inputs

  abbrev Numbered : SectionHead → Type 0
  Numbered h = h.index < length hs

  pub numbered-filled : All (λ h. h.index < length (heads_of inputs)) (filled_heads (heads_of inputs))
  numbered-filled =
      All-append Numbered (filter (is_of Starts) hs) (filter (is_of Ends) hs ++ filter (is_of Others) hs) (numbered-in inputs (is_of Starts))
      (All-append Numbered (filter (is_of Ends) hs) (filter (is_of Others) hs) (numbered-in inputs (is_of Ends)) (numbered-in inputs (is_of Others)))

  pub numbered-data : All (λ h. h.index < length (heads_of inputs)) (data_heads (heads_of inputs))
  numbered-data = All-append Numbered (filled_heads hs) (filter (is_of Zeros) hs) numbered-filled (numbered-in inputs (is_of Zeros))

  part : (p : SectionHead → Bool) → filter p hs ≡ map head_of (filter (λ x. p (head_of x)) (sections_of inputs))
  part p = filter-map head_of p (sections_of inputs)

  filled-are : filled_heads hs ≡ map head_of (spec.filled_sections inputs)
  filled-are =
      let starts = filter (λ x. is_of Starts (head_of x)) (sections_of inputs) in
      let ends = filter (λ x. is_of Ends (head_of x)) (sections_of inputs) in
      let others = filter (λ x. is_of Others (head_of x)) (sections_of inputs) in
      (λ i. part (is_of Starts) i ++ (part (is_of Ends) i ++ part (is_of Others) i))
      ∙ ap (λ xs. map head_of starts ++ xs) (sym (map-append head_of ends others)) ∙ sym (map-append head_of starts (ends ++ others))

  data-are : data_heads hs ≡ map head_of (spec.data_sections inputs)
  data-are =
      let zeros = filter (λ x. is_of Zeros (head_of x)) (sections_of inputs) in
      (λ i. filled-are i ++ part (is_of Zeros) i) ∙ sym (map-append head_of (spec.filled_sections inputs) zeros)

  pub filled-end : (from : ℕ) → heads_end from (filled_heads (heads_of inputs)) ≡ sections_end from (spec.filled_sections inputs)
  filled-end from = ap (heads_end from) filled-are ∙ end-heads from (spec.filled_sections inputs)

  pub data-end : (from : ℕ) (l : Lying) → AreLaid from (data_heads (heads_of inputs)) l → l.end ≡ sections_end from (spec.data_sections inputs)
  data-end from l laid = laid.end ∙ ap (heads_end from) data-are ∙ end-heads from (spec.data_sections inputs)

  pub data-place : (from k : ℕ) (l : Lying) → AreLaid from (data_heads (heads_of inputs)) l → get_or l.places.items k l.end ≡ place_among from (spec.data_sections inputs) k
  data-place from k l laid = laid.place k ∙ ap (λ xs. head_place from xs k) data-are ∙ place-heads from k (spec.data_sections inputs)

-- ---- sections as pieces with numbers

pub numbered-heads : (from k : ℕ) (hs : List SectionHead) → numbered_place from (map numbered_of hs) k ≡ head_place from hs k
numbered-heads from k [] = refl
numbered-heads from k (h ∷ hs) = ap (λ n. cond (h.index == k) (aligned h.align from) n) (numbered-heads (aligned h.align from + h.size) k hs)

pub numbered-ends : (from : ℕ) (hs : List SectionHead) → numbered_end from (map numbered_of hs) ≡ heads_end from hs
numbered-ends from [] = refl
numbered-ends from (h ∷ hs) = numbered-ends (aligned h.align from + h.size) hs

pub laid-heads : (from : ℕ) (hs : List SectionHead) (ps : List NumberedPiece) (l : Lying) → ps ≡ map numbered_of hs → ArePlaced from ps l → AreLaid from hs l
laid-heads from hs ps l is placed = record {
  end = placed.end ∙ ap (numbered_end from) is ∙ numbered-ends from hs;
  place = λ k. placed.place k ∙ ap (λ xs. numbered_place from xs k) is ∙ numbered-heads from k hs;
}

pub below-numbers : (count : ℕ) (hs : List SectionHead) → All (λ h. h.index < count) hs → All (λ n. n.number < count) (map numbered_of hs)
below-numbers count hs all = all_contained (λ n. n.number < count) (map numbered_of hs) (λ n there. from n (in_map numbered_of hs n there))
  where
    from : (n : NumberedPiece) → (h : SectionHead) × Contains hs h × (numbered_of h ≡ n) → n.number < count
    from n found =
        let small : (found.0).index < count = All-contains (λ h. h.index < count) hs found.0 all found.1 in
        let same : (found.0).index ≡ n.number = ap (λ (m : NumberedPiece). m.number) found.2 in
        omega (arith, small, same)

-- no piece lies behind the end
numbered-below : (from k : ℕ) (ps : List NumberedPiece) → numbered_place from ps k ≤ numbered_end from ps
numbered-below from k [] = omega arith
numbered-below from k (p ∷ ps) = by (p.number == k) (numbered-below behind k ps) (end_from behind (map (λ (n : NumberedPiece). n.piece) ps))
  where
    behind : ℕ
    behind = aligned p.piece.align from + p.piece.size

    by : (b : Bool) → numbered_place behind ps k ≤ numbered_end behind ps → behind ≤ numbered_end behind ps → cond b (aligned p.piece.align from) (numbered_place behind ps k) ≤ numbered_end behind ps
    by true rest end = omega (arith, end)
    by false rest end = rest

pub below-blocks : (from k : ℕ) (ps : List NumberedPiece) (l : Lying) → ArePlaced from ps l → get_or l.places.items k l.end ≤ l.end
below-blocks from k ps l placed = omega (arith, placed.place k, placed.end, numbered-below from k ps)
