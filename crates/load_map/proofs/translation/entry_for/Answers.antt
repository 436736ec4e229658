use Rattle.std.proofs.Common.{◌≡◌, sym, subst, rules}
use Rattle.std.specs.Prelude.{IfSome}
use Rattle.std.specs.List.{find}
use Rattle.std.specs.Option.{option_or}
use Rattle.load_map.specs.parts.IsLoadMap.{Translates}
use Rattle.load_map.specs.Translation.{is_held_by, is_end_of}
use Rattle.load_map.proofs.Reached.{reached}
use Rattle.load_map.proofs.translation.entry_for.Goals as goal

pub returns-clause-reaches : goal.returns-clause-reaches
returns-clause-reaches c =
    let entry : c.copied.result ≡ option_or (find (is_held_by c.args.v) c.args.entries.now) (find (is_end_of c.args.v) c.args.entries.now) = search rules in
    subst (λ o. IfSome o (Translates c.args.v)) (sym entry) (reached c.args.entries.now c.args.v c.requires)
