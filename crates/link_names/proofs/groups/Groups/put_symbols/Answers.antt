use Rattle.std.proofs.Common.{◌≡◌, ◌<◌, ◌≤◌, length, get_or, ap, sym, ◌∙◌, ◌++◌, arith}
use Rattle.std.proofs.lemmas.List.{append-nil}
use Rattle.link_names.specs.parts.Grouped.{groups_of, joined_among}
use Rattle.link_names.proofs.Prefixes.{symbols_until, next_symbol, all_symbols}
use Rattle.link_names.proofs.groups.Groups.put_symbols.Goals as goal

pub loop-number-init : goal.loop-number-init
loop-number-init c xs old = old ∙ ap groups_of (sym (append-nil xs))

pub loop-number-preserved : goal.loop-number-preserved
loop-number-preserved c xs old =
    let symbols = c.args.object.now.symbols in
    let within : c.loop-number.number < length symbols = omega (arith, c.loop-number-test.true, ap length c.as_slice-symbol-items.ensures) in
    let item : c.symbol-item.result ≡ get_or symbols c.loop-number.number c.symbol-item.result = c.symbol-item.is ∙ ap (λ ss. get_or ss c.loop-number.number c.symbol-item.result) c.as_slice-symbol-items.ensures in
    c.in_ok-put_symbol.ensures (xs ++ joined_among (symbols_until c.args.input symbols c.loop-number.number)) (c.loop-number.invariant xs old)
    ∙ ap groups_of (next_symbol xs c.args.input symbols c.loop-number.number c.symbol-item.result within item)

pub returns : goal.returns
returns c xs old =
    let past : length c.args.object.now.symbols ≤ c.loop-number.number = omega (arith, c.loop-number-test.false, ap length c.as_slice-symbol-items.ensures) in
    c.loop-number.invariant xs old ∙ ap (λ ys. groups_of (xs ++ joined_among ys)) (all_symbols c.args.input c.args.object.now.symbols c.loop-number.number past)
