use Rattle.std.proofs.Common.{◌≡◌, Bool, false, List, length, get_or, map, ap, sym, subst, ◌∙◌}
use Rattle.std.proofs.lemmas.List.{with_items_is}
use Rattle.a32_asm.specs.SecondPass.{Contents}
use Rattle.a32_asm.specs.Shown.{shown_rel}
use Rattle.a32_asm.specs.parts.Numbered.{AreMarked}
use Rattle.a32_asm.proofs.Marking.{named_more, section_at, sections_within}
use Rattle.a32_asm.proofs.symbols.named_places.Goals as goal

pub loop-rels-preserved : goal.loop-rels-preserved
loop-rels-preserved c =
    let names = c.args.known.now.names in
    let sections = c.args.contents.now.rels in
    let old = c.loop-rels.named in
    let new = c.mark.new.named in
    let i = c.loop-rels.rels-index in
    let all = c.deref-rels-items.result.now in
    let inside = c.contents.inside.rels.items in
    let view = ap (λ (contents : Contents). contents.rels) c.contents.view_is in
    let long : length new ≡ length old.items = c.mark.auto.named ∙ ap (λ (bs : List Bool). length bs) c.deref_mut.ensures.value in
    let same = with_items_is old new (long ∙ sym old.ok.0) in
    let marked = subst (λ (bs : List Bool). AreMarked names (map shown_rel c.as_slice.result.now) bs new) c.deref_mut.ensures.value c.mark.ensures in
    let within = sections_within inside sections all i view c.deref-rels-items.ensures.value c.loop-rels-test.true in
    let here = section_at inside sections all i c.rels-item.result c.as_slice.result.now view c.deref-rels-items.ensures.value c.loop-rels-test.true c.rels-item.is c.as_slice.ensures in
    let more = named_more names sections (map shown_rel c.as_slice.result.now) i old.items new within here c.loop-rels.invariant.named marked in
    record {
      each = ap (λ (bs : List Bool). length bs) same ∙ (long ∙ c.loop-rels.invariant.each);
      named = λ k l. ap (λ (bs : List Bool). get_or bs k false) same ∙ more k l;
    }
