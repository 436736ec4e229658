use Rattle.std.proofs.Common.{◌∙◌, ap, sym}
use Rattle.a32_asm.specs.Known.{Names, place_of}
use Rattle.a32_asm.proofs.Interned.{same, found, found_nowhere, place_same}
use Rattle.a32_asm.proofs.known.Known.place_of.Goals as goal

pub returns-in-Some : goal.returns-in-Some
returns-in-Some c =
    found (same c.args.name) c.self.inside.names.keys c.in-Some.place (sym c.in-Some.ensures.index)
    ∙ place_same c.args.name c.self.inside.names.keys
    ∙ ap (λ (known : Names). place_of c.args.name.now known.names) c.self.view_is

pub returns-in-None : goal.returns-in-None
returns-in-None c =
    c.len.ensures.len
    ∙ found_nowhere (same c.args.name) c.self.inside.names.keys (sym c.in-None.ensures.index)
    ∙ place_same c.args.name c.self.inside.names.keys
    ∙ ap (λ (known : Names). place_of c.args.name.now known.names) c.self.view_is
