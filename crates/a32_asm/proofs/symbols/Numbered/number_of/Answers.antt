use Rattle.std.proofs.Common.{ℕ, ◌≤◌, List, length, ap, subst, arith}
use Rattle.std.specs.Prelude.{◌==◌}
use Rattle.std.specs.List.{position_or_len}
use Rattle.a32_asm.proofs.Lists.{missing}
use Rattle.a32_asm.proofs.symbols.Numbered.number_of.Goals as goal

pub returns-in-None : goal.returns-in-None
returns-in-None c =
    let inside = c.self.inside in
    let place = c.args.place in
    let past = c.in-None.ensures.lookup.3 in
    let far : length inside.numbers.items ≤ place = subst (λ (ns : List ℕ). length ns ≤ place) c.deref.ensures.value past in
    let none = missing inside.places.items place (length inside.numbers.items) c.self.invariant.1 far in
    let shown = ap (position_or_len (λ k. k == place)) c.self.view_is in
    omega (arith, c.len.ensures, none, shown, inside.places.ok.0)
