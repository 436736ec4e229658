use Rattle.std.proofs.Common.{◌≡◌, List, ◌++◌}
use Rattle.link_model.specs.Inputs.{InputSymbol}
use Rattle.link_names.specs.parts.Grouped.{groups_of, joined_among}
use Rattle.link_names.proofs.Prefixes.{symbols_until}
use Rattle.link_names.proofs.groups.Groups.put_symbols.Given as goal

abbrev pub invariant-loop-number : goal.invariant-loop-number
invariant-loop-number l = (xs : List InputSymbol) → l.fn.self ≡ groups_of xs → l.self ≡ groups_of (xs ++ joined_among (symbols_until l.fn.input l.fn.object.symbols l.number))
