use Rattle.std.proofs.Common.{◌∙◌, ap, sym, ◌++◌, ◌∷◌, []}
use Rattle.a32_asm.specs.declared.said.Facts.{Facts}
use Rattle.a32_asm.specs.Known.{with_name}
use Rattle.a32_asm.proofs.Interned.{added_is, present_is}
use Rattle.a32_asm.proofs.known.Known.add.Goals as goal

pub returns-in_ok-push : goal.returns-in_ok-push
returns-in_ok-push c =
    added_is c.args.name c.self.inside.names.keys c.insert_full.new.self.keys c.self.inside.facts.items c.push.new.self.items c.in_ok-added.ensures.keys (sym c.if-added.true ∙ c.in_ok-added.ensures.added) (c.in_ok-push.ensures.items ∙ ap (λ (new : Facts). c.self.inside.facts.items ++ new ∷ []) c.no_facts.ensures)
    ∙ ap (with_name c.args.name.now) c.self.view_is

pub returns-else-added : goal.returns-else-added
returns-else-added c =
    present_is c.args.name c.self.inside.names.keys c.insert_full.new.self.keys c.self.inside.facts.items c.in_ok-added.ensures.keys (sym c.if-added.false ∙ c.in_ok-added.ensures.added)
    ∙ ap (with_name c.args.name.now) c.self.view_is
