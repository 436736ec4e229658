use Rattle.std.proofs.Common.{map, ap, ◌∙◌}
use Rattle.symbol_scope.specs.Closure.{with_one}
use Rattle.load_model.specs.Descriptors.{is_same_func}
use Rattle.load_sites.specs.parts.Funcs.{func_of}
use Rattle.load_sites.proofs.SameFunctions.{entered}
use Rattle.load_sites.proofs.funcs.Funcs.insert.Goals as goal

pub returns : goal.returns
returns c =
    ap (map func_of) c.in_ok-insert_full.ensures.keys ∙ entered c.self.inside.keys.keys c.args.f.now
    ∙ ap (λ funcs. with_one is_same_func funcs c.args.f.now) c.self.view_is
