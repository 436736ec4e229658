-- Where common blocks lie.
use Rattle.std.proofs.Common.{◌≡◌, ℕ, ◌+◌, cond, List, [], ◌∷◌, map, refl, ap}
use Rattle.std.specs.Prelude.{◌==◌, filter}
use Rattle.std.specs.List.{filter_map}
use Rattle.link_layout.specs.Layout.{aligned, end_of, place_of}
use Rattle.link_model.specs.declared.target.Spot.{Spot}
use Rattle.link_model.specs.declared.target.Spot.TheVariants.{Nowhere, Absolute, Section, Common}
use Rattle.link_model.specs.declared.target.Target.{Target}
use Rattle.link_model.specs.Places.{block_piece, is_block_of}
use Rattle.link_model.specs.Targets.{is_block}
use Rattle.link_places.specs.parts.Blocks.{block_of}
use Rattle.link_places.specs.parts.Lying.{numbered_end, numbered_place}

abbrev blocks : List Target → List Target
blocks ts = filter (λ t. is_block t.spot) ts

abbrev place : ℕ → ℕ → List Target → ℕ
place from k ts = place_of block_piece (λ t. is_block_of k t.spot) from (blocks ts)

pub blocks-end : (from : ℕ) (ts : List Target) → end_of from (map block_piece (blocks ts)) ≡ numbered_end from (filter_map block_of ts)
blocks-end from [] = refl
blocks-end from (t ∷ ts) = by t.spot refl (blocks-end from ts) (blocks-end (aligned t.align from + t.size) ts)
  where
    by : (s : Spot) → t.spot ≡ s → end_of from (map block_piece (blocks ts)) ≡ numbered_end from (filter_map block_of ts)
        → end_of (aligned t.align from + t.size) (map block_piece (blocks ts)) ≡ numbered_end (aligned t.align from + t.size) (filter_map block_of ts)
        → end_of from (map block_piece (blocks (t ∷ ts))) ≡ numbered_end from (filter_map block_of (t ∷ ts))
    by (Common n) is here behind = rw is behind
    by Nowhere is here behind = rw is here
    by (Absolute v) is here behind = rw is here
    by (Section n o) is here behind = rw is here

pub blocks-place : (from k : ℕ) (ts : List Target) → place from k ts ≡ numbered_place from (filter_map block_of ts) k
blocks-place from k [] = refl
blocks-place from k (t ∷ ts) = by t.spot refl (blocks-place from k ts) (blocks-place (aligned t.align from + t.size) k ts)
  where
    by : (s : Spot) → t.spot ≡ s → place from k ts ≡ numbered_place from (filter_map block_of ts) k
        → place (aligned t.align from + t.size) k ts ≡ numbered_place (aligned t.align from + t.size) (filter_map block_of ts) k
        → place from k (t ∷ ts) ≡ numbered_place from (filter_map block_of (t ∷ ts)) k
    by (Common n) is here behind = rw is (ap (λ m. cond (n == k) (aligned t.align from) m) behind)
    by Nowhere is here behind = rw is here
    by (Absolute v) is here behind = rw is here
    by (Section n o) is here behind = rw is here
