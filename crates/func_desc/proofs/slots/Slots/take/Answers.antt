use Rattle.std.proofs.Common.{ℕ, List, drop, ap, sym, ◌∙◌}
use Rattle.func_desc.specs.parts.Slots.{Slots}
use Rattle.std.proofs.lemmas.List.{drop-drop}
use Rattle.func_desc.proofs.slots.Slots.take.Goals as goal

pub returns-clause-rest : goal.returns-clause-rest
returns-clause-rest c =
    let s = c.self.inside in
    let made : List ℕ → Slots = λ free. record { base = s.base; marks = s.marks.items; free = free } in
    let with : Slots → Slots = λ seen. record { base = seen.base; marks = seen.marks; free = drop 1 seen.free } in
    ap made (sym (drop-drop 1 s.taken s.listed.items)) ∙ ap with c.self.view_is
