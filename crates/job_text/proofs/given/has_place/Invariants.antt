use Rattle.std.proofs.Common.{◌≡◌, drop}
use Rattle.std.specs.List.{list_any}
use Rattle.std.specs.Str.{bytes_eq}
use Rattle.load_model.specs.declared.plan.PlaceLine.{PlaceLine}
use Rattle.job_text.proofs.given.has_place.Given as goal

-- no line so far has the name
abbrev pub invariant-loop-line : goal.invariant-loop-line
invariant-loop-line l =
    list_any (λ (line : PlaceLine). bytes_eq line.name l.name) (drop l.line-index l.places) ≡ list_any (λ (line : PlaceLine). bytes_eq line.name l.name) l.places
