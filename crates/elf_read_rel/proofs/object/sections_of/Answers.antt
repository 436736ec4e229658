use Rattle.std.proofs.Common.{◌≡◌, ℕ, ◌<◌, Bool, true, false, [], refl, sym, ap, ◌∙◌, arith}
use Rattle.std.proofs.lemmas.Bool.{lt-ltb}
use Rattle.std.proofs.lemmas.List.{get_or_read, length-set}
use Rattle.elf_model.specs.Header.{e_shnum}
use Rattle.elf_model.specs.Sections.{section_header}
use Rattle.elf_model.specs.RelSections.{is_kept, is_kept_at}
use Rattle.elf_model.specs.Relocatable.{section_of}
use Rattle.elf_model.proofs.RelSoundness.{kept_sound}
use Rattle.elf_read_rel.proofs.Listed.{one_more, none_more}
use Rattle.elf_read_rel.proofs.Listing.{left}
use Rattle.elf_read_rel.proofs.object.sections_of.Goals as goal
use Rattle.elf_read_rel.proofs.object.sections_of.Goals.{then-is_kept+in_ok-section_of+in_ok-push, else-is_kept}

pub section_of-requires-clause-in_file : goal.section_of-requires-clause-in_file
section_of-requires-clause-in_file c =
    let here : is_kept (section_header c.args.bytes.now c.loop-i.i) ≡ true = ap is_kept (sym c.section_header-h.ensures) ∙ sym c.if-is_kept.ensures in
    rw c.section_header-h.ensures (kept_sound c.args.bytes.now c.loop-i.i c.requires.passed (omega arith) here).in_file

pub section_of-requires-clause-are_rels : goal.section_of-requires-clause-are_rels
unfolding is_kept_at
section_of-requires-clause-are_rels c =
    let bytes = c.args.bytes.now in
    let here : is_kept (section_header bytes c.loop-i.i) ≡ true = ap is_kept (sym c.section_header-h.ensures) ∙ sym c.if-is_kept.ensures in
    let lt : c.loop-i.i < e_shnum bytes = omega arith in
    let there : is_kept_at bytes c.loop-i.i ≡ true = rw (lt-ltb c.loop-i.i (e_shnum bytes) lt, here) refl in
    c.replace-rels.ensures.value
    ∙ get_or_read c.loop-i.lists.items c.loop-i.i c.index_mut.result.now (omega (arith, lt, c.loop-i.invariant.whole)) c.index_mut.ensures.value []
    ∙ c.loop-i.invariant.left c.loop-i.i (omega arith) there

pub loop-i-preserved : goal.loop-i-preserved
loop-i-preserved c =
    let bytes = c.args.bytes.now in
    let kept : ℕ → Bool = λ i. is_kept (section_header bytes i) in
    elim c.if-is_kept.branch [
      | then-is_kept+in_ok-section_of+in_ok-push w ↦
          let here : kept c.loop-i.i ≡ true = ap is_kept (sym c.section_header-h.ensures) ∙ sym w.if-is_kept.ensures in
          record {
            read = rw (w.sections-is, w.in_ok-push.ensures) (one_more kept (section_of bytes) c.loop-i.i c.loop-i.sections w.in_ok-section_of.field-0 here w.in_ok-section_of.ensures c.loop-i.invariant.read);
            whole = rw w.lists-is (length-set c.loop-i.lists.items c.loop-i.i _ ∙ c.loop-i.invariant.whole);
            left = λ k le there. rw w.lists-is (left c.loop-i.lists.items c.loop-i.i k _ le ∙ c.loop-i.invariant.left k (omega (arith, le)) there);
          }
      | else-is_kept w ↦
          let here : kept c.loop-i.i ≡ false = ap is_kept (sym c.section_header-h.ensures) ∙ sym w.if-is_kept.ensures in
          record {
            read = rw w.sections-is (none_more kept (section_of bytes) c.loop-i.i c.loop-i.sections here c.loop-i.invariant.read);
            whole = rw w.lists-is c.loop-i.invariant.whole;
            left = λ k le there. rw w.lists-is (c.loop-i.invariant.left k (omega (arith, le)) there);
          }
    ]
