use Rattle.std.proofs.Common.{◌+◌, ◌≤◌, ◌<◌, ◌^◌, ap, ◌∙◌, subst, arith}
use Rattle.link_places.specs.parts.Data.{data_heads, filled_heads}
use Rattle.link_places.specs.parts.Heads.{heads_of}
use Rattle.link_places.specs.parts.Lying.{AreLaid, ArePlaced, heads_end}
use Rattle.link_places.specs.parts.NeedTable.{needs_of}
use Rattle.link_places.proofs.Ends.{begins, begin-near, got-ends}
use Rattle.link_places.proofs.Sectioned.{filled-end, data-end}
use Rattle.std.specs.List.{filter_map}
use Rattle.link_model.specs.Places.{got_end}
use Rattle.link_model.specs.Targets.{targets_of}
use Rattle.link_places.specs.parts.Blocks.{block_of}
use Rattle.link_places.proofs.layout.Layout.new.Goals as goal

pub invariant_of-result : goal.invariant_of-result
invariant_of-result c =
    let mode = c.args.mode in
    let inputs = c.args.text.inputs.now in
    let begin = begins mode inputs c.text_end-text_end.result c.from.result c.from-2.result c.text_end-text_end.ensures.end c.from.ensures c.from-2.ensures in
    let end = got-ends mode inputs _ c.from-3.result (needs_of c.args.needs) begin (c.from-3.ensures ∙ c.got_size.ensures) c.requires.needs in
    let start = begin-near c.text_end-text_end.result c.from.result c.from-2.result c.from.ensures c.from-2.ensures c.text_end-text_end.ensures.near in
    let size : c.from-3.result < 2 ^ 32 = omega (arith, c.from-3.ensures, c.got_size.type_inv) in
    let ends : c.in_ok-places.places.lying.end ≤ 2 ^ 60 + 2 ^ 42 = omega (arith, c.in_ok-places.ensures.near, start, size) in
    let last : c.in_ok-blocks.blocks.end ≤ 2 ^ 60 + 2 ^ 42 = omega (arith, c.in_ok-blocks.ensures.near, ends) in
    let zeros = data-end inputs (got_end mode inputs) c.in_ok-places.places.lying (subst (λ n. AreLaid n (data_heads (heads_of inputs)) c.in_ok-places.places.lying) end c.in_ok-places.ensures.laid) in
    record {
      wanted = c.requires.needs;
      begin = begin;
      laid = subst (λ n. AreLaid n (data_heads (heads_of inputs)) c.in_ok-places.places.lying) end c.in_ok-places.ensures.laid;
      shared =
          subst (λ n. ArePlaced n (filter_map block_of (targets_of mode inputs)) c.in_ok-blocks.blocks) zeros
          (subst (λ ts. ArePlaced c.in_ok-places.places.lying.end (filter_map block_of ts) c.in_ok-blocks.blocks) c.requires.targets c.in_ok-blocks.ensures.laid);
      near = ends;
      blocks_near = last;
      begin_near = start;
      filled_near = omega (arith, c.in_ok-places.ensures.filled_near, start, size);
      filled = c.in_ok-places.ensures.filled ∙ ap (λ n. heads_end n (filled_heads (heads_of inputs))) end ∙ filled-end inputs (got_end mode inputs);
    }
