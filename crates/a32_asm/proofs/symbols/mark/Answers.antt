use Rattle.std.proofs.Common.{◌≤◌, Bool, true, false, List, length, get_or, ap, sym, ◌∙◌, arith}
use Rattle.std.proofs.lemmas.List.{set_past}
use Rattle.a32_asm.proofs.Marking.{marked_more}
use Rattle.a32_asm.proofs.symbols.mark.Goals as goal
use Rattle.a32_asm.proofs.symbols.mark.Goals.{then-place-named, else-place-named}

pub loop-rel-preserved : goal.loop-rel-preserved
loop-rel-preserved c =
    let names = c.args.known.now.names in
    let now = c.loop-rel.named in
    let place = c.place_of-place.result in
    let more = marked_more names c.args.rels.now c.loop-rel.rel-index _ place c.args.named.now now c.place_of-place.ensures c.requires.different c.loop-rel-test.true c.loop-rel.invariant.each c.loop-rel.invariant.marked in
    record {
      each = c.if-place-named.auto.named ∙ c.loop-rel.invariant.each;
      marked = λ k l. elim c.if-place-named.branch [
        | then-place-named w ↦ ap (λ (bs : List Bool). get_or bs k false) w.named-is ∙ more k l
        | else-place-named w ↦
            (let past : length now ≤ place = (let outside = w.if-place-named.false in omega arith) in
            ap (λ (bs : List Bool). get_or bs k false) (w.named-is ∙ sym (set_past now place true past)) ∙ more k l)
      ];
    }
