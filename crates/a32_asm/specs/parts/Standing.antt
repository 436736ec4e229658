-- Lines that have passed.
use Rattle.std.specs.Prelude.{◌≡◌, ℕ, List, [], Ok, All}
use Rattle.a32_asm.specs.Layout.{start}
use Rattle.a32_asm.specs.FirstPass.{Passed, first_pass}
use Rattle.a32_asm.specs.parts.Fits.{IsSaid}

-- what the first pass made of some lines
pub record HavePassed (passed : Passed) : Type 0 where
  pub lines : List (List ℕ)
  pub pass : first_pass 1 (record { saids = []; layout = start }) lines ≡ Ok passed
  pub fit : All IsSaid passed.saids
