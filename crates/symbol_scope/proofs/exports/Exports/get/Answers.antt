use Rattle.std.proofs.Common.{sym, ap, ◌∙◌}
use Rattle.std.specs.FinMap.{get, get-from_entries}
use Rattle.std.specs.Cmp.Lexicographic.{nat_list_cmp_total}
use Rattle.symbol_scope.proofs.Indexing.{looked_up}
use Rattle.symbol_scope.proofs.exports.Exports.get.Goals as goal

pub returns : goal.returns
returns c =
    c.copied.ensures ∙ c.get.ensures.value ∙ looked_up c.args.name.now c.self.inside.index.entries
    ∙ sym (get-from_entries nat_list_cmp_total c.self.inside.index.entries c.args.name.now)
    ∙ ap (λ exports. get exports c.args.name.now) c.self.view_is
