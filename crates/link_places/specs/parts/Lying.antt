-- Sections one behind the other.
use Rattle.std.specs.Prelude.{◌≡◌, ℕ, ◌==◌, List, map, get_or}
use Rattle.link_layout.specs.Layout.{end_of, place_of}
use Rattle.link_places.specs.declared.heads.SectionHead.{SectionHead}
use Rattle.link_places.specs.declared.lying.Lying.{Lying}
use Rattle.link_places.specs.declared.lying.NumberedPiece.{NumberedPiece}
use Rattle.link_places.specs.parts.Heads.{piece_of}

-- ---- pieces with numbers

abbrev pub numbered_end : ℕ → List NumberedPiece → ℕ
numbered_end from ps = end_of from (map (λ n. n.piece) ps)

-- where the piece of this number lies among them
abbrev pub numbered_place : ℕ → List NumberedPiece → ℕ → ℕ
numbered_place from ps k = place_of (λ n. n.piece) (λ n. n.number == k) from ps

-- they lie one behind the other from a place on
pub record ArePlaced (from : ℕ) (ps : List NumberedPiece) (l : Lying) : Type 0 where
  pub end : l.end ≡ numbered_end from ps
  pub place : (k : ℕ) → get_or l.places.items k l.end ≡ numbered_place from ps k

-- ---- sections

abbrev pub numbered_of : SectionHead → NumberedPiece
numbered_of h = record { number = h.index; piece = piece_of h }

-- where they end
abbrev pub heads_end : ℕ → List SectionHead → ℕ
heads_end from hs = end_of from (map piece_of hs)

-- where the section of this number lies among them
abbrev pub head_place : ℕ → List SectionHead → ℕ → ℕ
head_place from hs k = place_of piece_of (λ h. h.index == k) from hs

-- they lie so from a place on
pub record AreLaid (from : ℕ) (hs : List SectionHead) (l : Lying) : Type 0 where
  pub end : l.end ≡ heads_end from hs
  pub place : (k : ℕ) → get_or l.places.items k l.end ≡ head_place from hs k
