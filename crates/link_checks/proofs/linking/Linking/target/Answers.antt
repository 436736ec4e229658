use Rattle.std.proofs.Common.{◌≡◌, None, Some, refl, ap, sym, ◌∙◌}
use Rattle.std.specs.Prelude.{option_and_then, slice_get, unwrap_or}
use Rattle.std.proofs.lemmas.Option.{slice_get_within}
use Rattle.fd_base.proofs.Options.{from_then}
use Rattle.elf_model.specs.declared.relocatable.RelObject.{RelObject}
use Rattle.elf_model.specs.Symbols.{null_symbol}
use Rattle.link_names.proofs.Agreeing.{own_is}
use Rattle.link_checks.proofs.linking.Linking.target.Goals as goal

pub target-requires : goal.target-requires
target-requires c =
    let inputs = c.args.self.now.joined.inputs in
    let is : Some c.in-Some.field-0.now ≡ option_and_then (λ (o : RelObject). slice_get o.symbols c.args.number) (slice_get inputs c.args.input) =
    c.in-Some.ensures ∙ ap (λ os. option_and_then (λ (o : RelObject). slice_get o.symbols c.args.number) (slice_get os c.args.input)) c.inputs.ensures in
    let from = from_then (λ (o : RelObject). slice_get o.symbols c.args.number) (slice_get inputs c.args.input) c.in-Some.field-0.now (sym is) in
    (from.0, from.1, slice_get_within (from.0).symbols c.args.number c.in-Some.field-0.now from.2)

pub returns-in-None : goal.returns-in-None
returns-in-None c =
    let inputs = c.args.self.now.joined.inputs in
    let is : None ≡ option_and_then (λ (o : RelObject). slice_get o.symbols c.args.number) (slice_get inputs c.args.input) =
    c.in-None.ensures ∙ ap (λ os. option_and_then (λ (o : RelObject). slice_get o.symbols c.args.number) (slice_get os c.args.input)) c.inputs.ensures in
    c.null_target.ensures ∙ own_is c.args.self.now.joined.mode inputs c.args.input c.args.number null_symbol (ap (λ o. unwrap_or o null_symbol) (sym is)) refl
