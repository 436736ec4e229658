-- What holds of places.
use Rattle.std.specs.Prelude.{◌≡◌, ℕ, ◌+◌, ◌%◌, ◌<◌, ◌≤◌, List, take, max, Some, slice_get}
use Rattle.link_layout.specs.declared.layout.Piece.{Piece}
use Rattle.link_layout.specs.Layout.{aligned, places, end_of}

-- piece k lies at a multiple of its alignment, between the beginning and the end
pub record IsLaid (at k : ℕ) (ps : List Piece) (p : Piece) : Type 0 where
  pub place : ℕ
  pub there : slice_get (places at ps) k ≡ Some place
  -- right behind what stands before it
  pub next : place ≡ aligned p.align (end_of at (take k ps))
  pub multiple : place % max p.align 1 ≡ 0
  pub from : at ≤ place
  pub to : place + p.size ≤ end_of at ps

-- the law
pub record PiecesLieApart : Type 0 where
  pub each : (at k : ℕ) (ps : List Piece) (p : Piece) → slice_get ps k ≡ Some p → IsLaid at k ps p
  pub apart : (at j k a b : ℕ) (ps : List Piece) (p : Piece) → j < k → slice_get ps j ≡ Some p → slice_get (places at ps) j ≡ Some a → slice_get (places at ps) k ≡ Some b
      → a + p.size ≤ b
