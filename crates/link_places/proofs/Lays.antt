-- Places by number.
use Rattle.std.proofs.Common.{◌≡◌, ◌≢◌, ℕ, ◌+◌, ◌<◌, Bool, true, false, cond, List, ◌∷◌, length, get_or, take, drop, map, Some, refl, ap, sym, ◌∙◌, arith, All, get_or-set_other, get_or-set_same}
use Rattle.std.specs.Prelude.{◌==◌}
use Rattle.std.proofs.lemmas.Bool.Decides.{nat_tests}
use Rattle.std.proofs.lemmas.List.{take-map, length-map}
use Rattle.std.proofs.lemmas.Option.{slice_get-get_or, slice_get_within, get_or_from_slice_get}
use Rattle.std.proofs.Math.ListN.{set, get_or-map}
use Rattle.std.proofs.Math.Numerals.{add-one}
use Rattle.std.proofs.Math.Seq.{drop-cons}
use Rattle.fd_base.proofs.Lists.{all_at}
use Rattle.link_layout.specs.declared.layout.Piece.{Piece}
use Rattle.link_layout.specs.Layout.{aligned, places, end_of}
use Rattle.link_layout.specs.parts.Laws.{IsLaid}
use Rattle.link_layout.proofs.Lying.{pieces_lie_apart, end_more}
use Rattle.link_places.specs.declared.lying.NumberedPiece.{NumberedPiece}
use Rattle.link_places.specs.parts.Lying.{numbered_end, numbered_place}

abbrev pub no_piece : NumberedPiece
no_piece = record { number = 0; piece = record { align = 0; size = 0 } }

abbrev piece_of : NumberedPiece → Piece
piece_of n = n.piece

pub within-numbers : (count : ℕ) (hs : List NumberedPiece) (i : ℕ) (d : NumberedPiece) → All (λ h. h.number < count) hs → i < length hs → (get_or hs i d).number < count
within-numbers count hs i d all lt = all_at (λ h. h.number < count) hs i (get_or hs i d) all (slice_get-get_or hs i d lt)

module _ (from : ℕ) (hs : List NumberedPiece) where
  end-more : (i : ℕ) (d : NumberedPiece) → i < length hs → numbered_end from (take (i + 1) hs) ≡ aligned (get_or hs i d).piece.align (numbered_end from (take i hs)) + (get_or hs i d).piece.size
  end-more i d lt =
      let within : i < length (map piece_of hs) = omega (arith, length-map hs piece_of) in
      ap (end_of from) (sym (take-map piece_of (i + 1) hs)) ∙ end_more from i (map piece_of hs) (piece_of d) within
      ∙ ap (λ p. aligned (p.align) (end_of from (take i (map piece_of hs))) + p.size) (get_or-map piece_of hs i d)
      ∙ ap (λ ps. aligned (get_or hs i d).piece.align (end_of from ps) + (get_or hs i d).piece.size) (take-map piece_of i hs)

  laid : (i : ℕ) (d : NumberedPiece) → i < length hs → IsLaid from i (map piece_of hs) (piece_of (get_or hs i d))
  laid i d lt =
      let within : i < length (map piece_of hs) = omega (arith, length-map hs piece_of) in
      pieces_lie_apart.each from i (map piece_of hs) (piece_of (get_or hs i d))
      (slice_get-get_or (map piece_of hs) i (piece_of d) within ∙ ap Some (get_or-map piece_of hs i d))

  -- the place of section i
  pub place-at : (i : ℕ) (d : NumberedPiece) → i < length hs → get_or (places from (map piece_of hs)) i 0 ≡ aligned (get_or hs i d).piece.align (numbered_end from (take i hs))
  place-at i d lt =
      let l = laid i d lt in
      get_or_from_slice_get (places from (map piece_of hs)) i l.place 0 l.there ∙ l.next ∙ ap (λ ps. aligned (get_or hs i d).piece.align (end_of from ps)) (take-map piece_of i hs)

  pub has-place : (i : ℕ) (d : NumberedPiece) → i < length hs → i < length (places from (map piece_of hs))
  has-place i d lt = let l = laid i d lt in slice_get_within (places from (map piece_of hs)) i l.place l.there

  -- a section written over those behind it
  placed-more : (i end place : ℕ) (ps : List ℕ) (d : NumberedPiece) → i < length hs → (get_or hs i d).number < length ps → place ≡ aligned (get_or hs i d).piece.align (numbered_end from (take i hs))
      → ((k : ℕ) → get_or ps k end ≡ numbered_place (numbered_end from (take (i + 1) hs)) (drop (i + 1) hs) k)
      → (k : ℕ) → get_or (set ps (get_or hs i d).number place) k end ≡ numbered_place (numbered_end from (take i hs)) (drop i hs) k
  placed-more i end place ps d lt within is rest k =
      by (h.number == k) refl ∙ sym (ap (λ xs. numbered_place (numbered_end from (take i hs)) xs k) (drop-cons hs i d lt ∙ ap (λ m. h ∷ drop m hs) (sym (add-one i))))
    where
      h : NumberedPiece
      h = get_or hs i d

      here : ℕ
      here = aligned h.piece.align (numbered_end from (take i hs))

      by : (b : Bool) → (h.number == k) ≡ b → get_or (set ps h.number place) k end ≡ cond (h.number == k) here (numbered_place (here + h.piece.size) (drop (i + 1) hs) k)
      by true e =
          let same : k ≡ h.number = grind (arith, nat_tests) in
          ap (λ m. get_or (set ps h.number place) m end) same ∙ get_or-set_same ps h.number place end within ∙ is ∙ ap (λ b. cond b here (numbered_place (here + h.piece.size) (drop (i + 1) hs) k)) (sym e)
      by false e =
          let other : k ≢ h.number = grind (arith, nat_tests) in
          get_or-set_other ps h.number k place end other ∙ rest k ∙ ap (λ n. numbered_place n (drop (i + 1) hs) k) (end-more i d lt)
          ∙ ap (λ b. cond b here (numbered_place (here + h.piece.size) (drop (i + 1) hs) k)) (sym e)

  pub placed-before : (i left end place : ℕ) (ps : List ℕ) (d : NumberedPiece) → i < length hs → (get_or hs i d).number < length ps → place ≡ aligned (get_or hs i d).piece.align (numbered_end from (take i hs))
      → left ≡ i + 1 → ((k : ℕ) → get_or ps k end ≡ numbered_place (numbered_end from (take left hs)) (drop left hs) k)
      → (k : ℕ) → get_or (set ps (get_or hs i d).number place) k end ≡ numbered_place (numbered_end from (take i hs)) (drop i hs) k
  placed-before i left end place ps d lt within is one rest =
      placed-more i end place ps d lt within is (λ k. rest k ∙ ap (λ n. numbered_place (numbered_end from (take n hs)) (drop n hs) k) one)
