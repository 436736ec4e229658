use Rattle.std.proofs.Common.{◌≡◌, List, ℕ, Some, drop, take, position, subst, sym, ap, ◌∙◌}
use Rattle.elf_read.specs.parts.Strings.{IsString}
use Rattle.elf_read.proofs.Near.{is_zero, near_string}
use Rattle.elf_read.proofs.strings.string_at.Goals as goal

pub returns-in-Some-clause-string : goal.returns-in-Some-clause-string
returns-in-Some-clause-string c =
    let rest = drop c.args.k c.args.strings.now in
    let found : position is_zero (take 256 rest) ≡ Some c.in-Some.n = ap (position is_zero) (sym c.near-near.ensures) ∙ sym c.in-Some.ensures in
    subst (λ (text : List ℕ). IsString (take c.in-Some.n text)) (sym c.near-near.ensures) (near_string rest c.in-Some.n found)
