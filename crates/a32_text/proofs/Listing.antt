-- Lists of registers.
use Rattle.std.proofs.Common.{ℕ, ◌+◌, ◌^◌, ◌<◌, ◌≤◌, arith}
use Rattle.std.proofs.Math.Pow.{pow_mono}
use Rattle.a32_text.specs.List.{bits_from}

pub few_bits : (first last : ℕ) → first ≤ last → last < 16 → 2 ^ first ≤ 2 ^ (last + 1)
few_bits first last h l = let e : first ≤ last + 1 = omega arith in pow_mono e

-- registers from a place on, behind others below it
pub more_bits : (list low first last : ℕ) → list < 2 ^ low → low ≤ first → first ≤ last → last < 16 → (list + bits_from first last < 2 ^ (last + 1)) × (2 ^ (last + 1) ≤ 2 ^ 16)
unfolding bits_from
more_bits list low first last b r o l =
    let p : 2 ^ low ≤ 2 ^ first = pow_mono r in
    let q : 2 ^ first ≤ 2 ^ (last + 1) = few_bits first last o l in
    let e : last + 1 ≤ 16 = omega arith in
    let s : 2 ^ (last + 1) ≤ 2 ^ 16 = pow_mono e in
    (omega arith, s)
