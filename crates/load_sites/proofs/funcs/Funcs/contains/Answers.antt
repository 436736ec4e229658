use Rattle.std.proofs.Common.{ap, ◌∙◌}
use Rattle.symbol_scope.specs.Closure.{has}
use Rattle.load_model.specs.Descriptors.{is_same_func}
use Rattle.load_sites.proofs.SameFunctions.{has_key}
use Rattle.load_sites.proofs.funcs.Funcs.contains.Goals as goal

pub returns : goal.returns
returns c =
    c.contains.ensures ∙ has_key (is_same_func c.args.f.now) c.self.inside.keys.keys
    ∙ ap (λ funcs. has is_same_func funcs c.args.f.now) c.self.view_is
