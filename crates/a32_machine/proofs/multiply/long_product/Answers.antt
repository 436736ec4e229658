use Rattle.std.proofs.Common.{◌≡◌, ◌^◌, ◌<◌, ◌≤◌, sym, ap, ◌∙◌, arith}
use Rattle.std.specs.Prelude.{ℤ, pos, negsuc, ◌*ℤ◌, nat_lt, unsigned_abs}
use Rattle.std.specs.Int.{w32, w64, cast_signed}
use Rattle.std.proofs.lemmas.Bool.{cond-false, le-ltb}
use Rattle.std.proofs.lemmas.Int.{to_z-of_z, fits_signed_mul}
use lib.Signed.{mag}
use mir.Val.{SFits, to_z, of_z}
use Rattle.a32_machine.proofs.multiply.long_product.Goals as goal

within : (z : ℤ) → mag z < 2 ^ 31 → unsigned_abs z ≤ 2 ^ 31
within (pos n) h = omega arith
within (negsuc n) h = omega arith

pub returns-else-kind-lt2 : goal.returns-else-kind-lt2
returns-else-kind-lt2 c =
    let x : ℤ = c.cast_signed.result in
    let y : ℤ = c.cast_signed-else-kind-lt2.result in
    let fx : SFits w32 x = record { sfits = c.cast_signed.type_inv } in
    let fy : SFits w32 y = record { sfits = c.cast_signed-else-kind-lt2.type_inv } in
    let wx : SFits w64 x = record { sfits = omega arith } in
    let wy : SFits w64 y = record { sfits = omega arith } in
    let ex : to_z w64 (of_z w64 (to_z w32 (of_z w32 x))) ≡ x = ap (λ z. to_z w64 (of_z w64 z)) (to_z-of_z w32 x fx) ∙ to_z-of_z w64 x wx in
    let ey : to_z w64 (of_z w64 (to_z w32 (of_z w32 y))) ≡ y = ap (λ z. to_z w64 (of_z w64 z)) (to_z-of_z w32 y fy) ∙ to_z-of_z w64 y wy in
    let bound : unsigned_abs x ≤ 2 ^ 31 = within x c.cast_signed.type_inv in
    let bound' : unsigned_abs y ≤ 2 ^ 31 = within y c.cast_signed-else-kind-lt2.type_inv in
    let fp : SFits w64 (x *ℤ y) = fits_signed_mul w64 x y (2 ^ 31) (2 ^ 31) bound bound' (omega arith) in
    c.cast_unsigned.ensures
    ∙ ap (λ z. of_z w64 (to_z w64 (of_z w64 (z *ℤ to_z w64 (of_z w64 (to_z w32 (of_z w32 y))))))) ex
    ∙ ap (λ z. of_z w64 (to_z w64 (of_z w64 (x *ℤ z)))) ey
    ∙ ap (of_z w64) (to_z-of_z w64 (x *ℤ y) fp)
    ∙ ap (λ z. of_z w64 (z *ℤ y)) c.cast_signed.ensures
    ∙ ap (λ z. of_z w64 (cast_signed w32 c.args.a *ℤ z)) c.cast_signed-else-kind-lt2.ensures
    ∙ sym (cond-false (nat_lt c.args.kind 2) _ _ (le-ltb c.args.kind 2 c.if-kind-lt2.false))
