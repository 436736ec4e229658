use Rattle.std.proofs.Common.{◌≡◌, Some, ap, sym, ◌∙◌, subst, length}
use Rattle.std.specs.Prelude.{IfSome}
use Rattle.std.specs.FinMap.{get}
use Rattle.elf_model.specs.declared.func.Func.{Func}
use Rattle.func_desc.proofs.Entered.{entered_get}
use Rattle.func_desc.proofs.Kept.{one_holder}
use Rattle.func_desc.proofs.pool.DescPool.get.Goals as goal

pub returns-clause-value : goal.returns-clause-value
returns-clause-value c = c.find.ensures ∙ sym (entered_get c.self.inside.entries.entries c.args.f.now) ∙ ap (λ p. get p.addrs c.args.f.now) c.self.view_is

pub returns-clause-distinct : goal.returns-clause-distinct
returns-clause-distinct c =
    let s = c.self.inside in
    subst (λ p. IfSome c.find.result (λ a. (g : Func) → get p.addrs g ≡ Some a → g ≡ c.args.f.now)) c.self.view_is
    (one_holder s.slots.base (length s.slots.marks) s.entries.entries s.slots.free s.entries.spare c.self.invariant c.args.f.now c.find.result c.find.ensures)
