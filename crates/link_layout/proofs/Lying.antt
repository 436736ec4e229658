-- Pieces one behind the other.
use Rattle.std.proofs.Common.{◌≡◌, ℕ, zero, suc, ◌+◌, ◌-◌, ◌*◌, ◌/◌, ◌%◌, ◌<◌, ◌≤◌, List, [], ◌∷◌, ◌++◌, length, take, get_or, Some, refl, ap, ◌∙◌, arith}
use Rattle.std.specs.Prelude.{slice_get, max}
use Rattle.std.proofs.lemmas.List.{take_more}
use Rattle.std.proofs.lemmas.Nat.{div-add-mod'}
use Rattle.std.proofs.Math.Nat.{mul-mod_left, mod-lt}
use Rattle.link_layout.specs.declared.layout.Piece.{Piece}
use Rattle.link_layout.specs.Layout.{aligned, places, end_of}
use Rattle.link_layout.specs.parts.Laws.{IsLaid, PiecesLieApart}

up_from : (u at : ℕ) → 0 < u → at ≤ (at + (u - 1)) / u * u
up_from u at some =
    let n = at + (u - 1) in
    let parts : n / u * u + n % u ≡ n = div-add-mod' n u in
    let rest : n % u < u = mod-lt n some in
    omega (arith, parts, rest, some)

pub from_aligned : (align at : ℕ) → at ≤ aligned align at
from_aligned align at = up_from (max align 1) at (omega arith)

pub aligned_multiple : (align at : ℕ) → aligned align at % max align 1 ≡ 0
aligned_multiple align at = mul-mod_left ((at + (max align 1 - 1)) / max align 1) (max align 1)

pub end_from : (at : ℕ) (ps : List Piece) → at ≤ end_of at ps
end_from at [] = omega arith
end_from at (p ∷ ps) =
    let here = from_aligned p.align at in
    let rest = end_from (aligned p.align at + p.size) ps in
    omega (arith, here, rest)

each : (at k : ℕ) (ps : List Piece) (p : Piece) → slice_get ps k ≡ Some p → IsLaid at k ps p
each at k [] p is = absurd cc
each at zero (q ∷ ps) p is =
    let same : q ≡ p = cc in
    let here : aligned q.align at ≡ aligned p.align at = ap (λ (x : Piece). aligned x.align at) same in
    let size : q.size ≡ p.size = ap (λ (x : Piece). x.size) same in
    let from = from_aligned q.align at in
    let rest = end_from (aligned q.align at + q.size) ps in
    record {
      place = aligned q.align at;
      there = refl;
      next = here;
      multiple = ap (λ n. n % max p.align 1) here ∙ aligned_multiple p.align at;
      from = from;
      to = omega (arith, rest, size);
    }
each at (suc k) (q ∷ ps) p is =
    let rest = each (aligned q.align at + q.size) k ps p is in
    let from = from_aligned q.align at in
    record { place = rest.place; there = rest.there; next = rest.next; multiple = rest.multiple; from = omega (arith, from, rest.from); to = rest.to }

apart : (at j k a b : ℕ) (ps : List Piece) (p : Piece) → j < k → slice_get ps j ≡ Some p → slice_get (places at ps) j ≡ Some a → slice_get (places at ps) k ≡ Some b
    → a + p.size ≤ b
apart at j k a b [] p lt is one two = absurd cc
apart at zero zero a b (q ∷ ps) p lt is one two = absurd (omega arith)
apart at zero (suc k) a b (q ∷ ps) p lt is one two =
    let same : q ≡ p = cc in
    let size : q.size ≡ p.size = ap (λ (x : Piece). x.size) same in
    let first : aligned q.align at ≡ a = cc in
    let le = placed_from (aligned q.align at + q.size) k b ps two in
    omega (arith, size, first, le)
  where
    placed_from : (at k b : ℕ) (ps : List Piece) → slice_get (places at ps) k ≡ Some b → at ≤ b
    placed_from at k b [] is = absurd cc
    placed_from at zero b (q ∷ ps) is = let first : aligned q.align at ≡ b = cc in let le = from_aligned q.align at in omega (arith, first, le)
    placed_from at (suc k) b (q ∷ ps) is =
        let rest = placed_from (aligned q.align at + q.size) k b ps is in
        let le = from_aligned q.align at in
        omega (arith, rest, le)
apart at (suc j) zero a b (q ∷ ps) p lt is one two = absurd (omega arith)
apart at (suc j) (suc k) a b (q ∷ ps) p lt is one two = apart (aligned q.align at + q.size) j k a b ps p (omega arith) is one two

pub pieces_lie_apart : PiecesLieApart
pieces_lie_apart = record { each = each; apart = apart }

-- ---- one piece more

places_append : (at : ℕ) (ps qs : List Piece) → places at (ps ++ qs) ≡ places at ps ++ places (end_of at ps) qs
places_append at [] qs = refl
places_append at (p ∷ ps) qs = ap (λ xs. aligned p.align at ∷ xs) (places_append (aligned p.align at + p.size) ps qs)

pub end_append : (at : ℕ) (ps qs : List Piece) → end_of at (ps ++ qs) ≡ end_of (end_of at ps) qs
end_append at [] qs = refl
end_append at (p ∷ ps) qs = end_append (aligned p.align at + p.size) ps qs

pub places_more : (at i : ℕ) (ps : List Piece) (d : Piece) → i < length ps → places at (take (i + 1) ps) ≡ places at (take i ps) ++ aligned (get_or ps i d).align (end_of at (take i ps)) ∷ []
places_more at i ps d lt = ap (places at) (take_more ps i d lt) ∙ places_append at (take i ps) (get_or ps i d ∷ [])

pub end_more : (at i : ℕ) (ps : List Piece) (d : Piece) → i < length ps → end_of at (take (i + 1) ps) ≡ aligned (get_or ps i d).align (end_of at (take i ps)) + (get_or ps i d).size
end_more at i ps d lt = ap (end_of at) (take_more ps i d lt) ∙ end_append at (take i ps) (get_or ps i d ∷ [])
