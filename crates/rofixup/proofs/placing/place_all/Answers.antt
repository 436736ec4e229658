use Rattle.std.proofs.Common.{◌≡◌, ◌∙◌, ◌<◌, ap, set, length, unwrap_or, get_or, arith}
use Rattle.std.proofs.lemmas.Grind.{common_steps}
use Rattle.std.proofs.lemmas.List.Edits.{map_over_more}
use Rattle.load_map.specs.Translation.{address_of}
use Rattle.rofixup.proofs.placing.place_all.Goals as goal

pub loop-value-preserved : goal.loop-value-preserved
loop-value-preserved c =
    let i = c.loop-value.value-index in
    let v = get_or c.loop-value.values i 0 in
    let new : c.unwrap_or.result ≡ unwrap_or (address_of c.args.by.now v) v = cc in
    let within : i < length c.loop-value.values = omega arith in
    ap (set c.loop-value.values i) new
    ∙ map_over_more (λ x. unwrap_or (address_of c.args.by.now x) x) c.args.values.now c.loop-value.values i v c.loop-value-test.true c.loop-value.invariant (grind (arith, common_steps))
