use Rattle.std.proofs.Common.{ap, sym, ◌∙◌}
use Rattle.std.specs.Str.{bytes_eq}
use Rattle.indexmap.proofs.CallerLemmas.{insert_entry-new}
use Rattle.symbol_scope.specs.Exports.{export_map}
use Rattle.symbol_scope.proofs.Indexing.{entered_before, not_there}
use Rattle.symbol_scope.proofs.exports.enter.Goals as goal

pub returns-then-contains_key : goal.returns-then-contains_key
returns-then-contains_key c = entered_before c.args.index.now.entries c.args.name.now c.args.number (sym c.contains_key.ensures ∙ c.if-contains_key.true)

pub returns : goal.returns
returns c =
    let new = not_there c.args.name.now c.args.index.now.entries (sym c.contains_key.ensures ∙ c.if-contains_key.false) in
    rw (c.in_ok-insert.ensures.entries, c.in_ok-name.ensures)
    (ap export_map (insert_entry-new bytes_eq c.args.index.now c.args.name.now c.args.number new))
