use Rattle.std.proofs.Common.{ℕ, ◌<◌, ◌≤◌, Bool, false, List, length, get_or, sym, subst, ◌∙◌, arith, lt_of_le_of_lt}
use Rattle.std.specs.Prelude.{◌&&◌, is_none, All}
use Rattle.a32_asm.specs.declared.section.TheConstants.{SECTIONS}
use Rattle.a32_asm.specs.Known.{Names}
use Rattle.a32_asm.specs.Object.{facts_at}
use Rattle.a32_asm.specs.parts.Numbered.{AreNamed}
use Rattle.a32_asm.proofs.Writing.{kept_below, kept_few}
use Rattle.a32_asm.proofs.Numbering.{labels_below, places_below, places_few}
use Rattle.a32_asm.proofs.Built.{object_is}
use Rattle.a32_asm.proofs.object.object_of.Goals as goal

pub of-requires-clause-below : goal.of-requires-clause-below
of-requires-clause-below c = labels_below c.args.all.now c.requires

pub of-requires-clause-few : goal.of-requires-clause-few
of-requires-clause-few c =
    let all = c.args.all.now in
    let contents = c.args.contents.now in
    let named = subst (λ (known : Names). AreNamed known.names contents.rels c.as_slice.result.now) c.known.ensures
    (subst (λ (bs : List Bool). AreNamed c.known.result.now.names contents.rels bs) (sym c.as_slice.ensures.value) c.in_ok-named.ensures) in
    lt_of_le_of_lt (places_few all contents c.as_slice.result.now c.requires named) (let few = c.requires.few in omega arith)

pub sections_of-requires : goal.sections_of-requires
sections_of-requires c = subst (λ (ks : List ℕ). All (λ k. k < SECTIONS) ks) (sym (c.as_slice-2.ensures.value ∙ c.in_ok-kept.ensures)) (kept_below c.args.all.now)

pub symbols_of-requires-clause-few : goal.symbols_of-requires-clause-few
symbols_of-requires-clause-few c = subst (λ (ks : List ℕ). length ks ≤ 4) (sym (c.as_slice-3.ensures.value ∙ c.in_ok-kept.ensures)) (kept_few c.args.all.now)

pub symbols_of-requires-clause-inside : goal.symbols_of-requires-clause-inside
symbols_of-requires-clause-inside c =
    let all = c.args.all.now in
    subst (λ (ps : List ℕ). All (λ k. k < length all.known.names) ps) (sym (c.places.ensures ∙ c.in_ok-numbered.ensures))
    (places_below all (λ k. is_none (facts_at all k).weak && get_or c.as_slice.result.now k false) (labels_below all c.requires))

pub returns : goal.returns
returns c =
    let all = c.args.all.now in
    let contents = c.args.contents.now in
    let named = subst (λ (known : Names). AreNamed known.names contents.rels c.as_slice.result.now) c.known.ensures
    (subst (λ (bs : List Bool). AreNamed c.known.result.now.names contents.rels bs) (sym c.as_slice.ensures.value) c.in_ok-named.ensures) in
    object_is all contents c.as_slice.result.now c.in_ok-numbered.numbered c.places.result.now c.as_slice-2.result.now c.in_ok-sections_of.field-0 c.in_ok-symbols_of.field-0 c.requires named
    c.in_ok-numbered.ensures c.places.ensures (c.as_slice-2.ensures.value ∙ c.in_ok-kept.ensures) c.in_ok-sections_of.ensures c.in_ok-symbols_of.ensures
