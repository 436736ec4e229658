use Rattle.std.proofs.Common.{◌≡◌, drop}
use Rattle.symbol_scope.specs.Definition.{first_definition}
use Rattle.symbol_scope.specs.parts.Needs.{export_in}
use Rattle.symbol_scope.proofs.tables.found_in.Given as goal

-- no module so far decides
abbrev pub invariant-loop-number : goal.invariant-loop-number
invariant-loop-number l = first_definition (export_in l.slots l.name) (drop l.number-index l.scope) ≡ first_definition (export_in l.slots l.name) l.scope
