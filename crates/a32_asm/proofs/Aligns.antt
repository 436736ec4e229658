-- The alignments that may be asked for are numbers from 1 to 4,096.
use Rattle.std.proofs.Common.{◌≡◌, ℕ, ◌<◌, ◌≤◌, true, List, [], ◌∷◌, refl, arith}
use Rattle.std.specs.Prelude.{◌==◌, ◌&&◌, nat_lt, nat_le}
use Rattle.std.specs.List.{list_any, list_all}
use Rattle.a32_asm.specs.Directive.{is_align}
use Rattle.a32_asm.specs.declared.operands.TheConstants.{ALIGNS}

among : (n : ℕ) (xs : List ℕ) → list_any (λ align. align == n) xs ≡ true → list_all (λ align. nat_lt 0 align && nat_le align 4096) xs ≡ true → (0 < n) × (n ≤ 4096)
among n [] e all = absurd cc
among n (x ∷ xs) e all = grind (arith, among n xs)

pub within : (n : ℕ) → is_align n ≡ true → (0 < n) × (n ≤ 4096)
within n e = among n ALIGNS e refl
