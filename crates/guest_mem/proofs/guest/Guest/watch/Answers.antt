use Rattle.std.proofs.Common.{◌≡◌, ◌+◌, ◌<◌, ◌≤◌, ℕ, true, List, Option, Some, None, length, get_or, refl, ap, ◌∙◌, arith}
use Rattle.std.specs.Prelude.{Bool}
use Rattle.std.specs.Vec.{with_items}
use Rattle.std.proofs.lemmas.List.{with_items_is}
use Rattle.guest_mem.specs.declared.kind.MemKind.{MemKind}
use Rattle.guest_mem.specs.declared.kind.MemKind.TheVariants.{Data}
use Rattle.guest_mem.specs.declared.tags.WordTag.{WordTag}
use Rattle.guest_mem.specs.declared.tags.WordTag.TheVariants.{Readable}
use Rattle.guest_mem.specs.Ranges.{filled}
use Rattle.guest_mem.specs.parts.Tags.{retagged}
use Rattle.guest_mem.proofs.Pasted.{length-filled}
use Rattle.guest_mem.proofs.Tagged.{length-retagged, AreTagged-watched, AreTagged-along}
use Rattle.guest_mem.proofs.guest.Guest.watch.Goals as goal

pub invariant_of-self : goal.invariant_of-self
invariant_of-self c =
    let start = c.args.start in
    let len = c.args.len in
    let old_kinds : List (Option MemKind) = c.self.inside.kinds.items in
    let old_marks : List Bool = c.self.inside.marks.items in
    let old_tags : List WordTag = c.self.inside.tags.items in
    let inside : start + len ≤ length c.self.inside.bytes.items = rw (← c.self.view_is) at c.requires.inside in
    let data_there : (a : ℕ) → start ≤ a → a < start + len → get_or old_kinds a None ≡ Some Data = rw (← c.self.view_is) at c.requires.data_there in
    let marks : c.fill.new.values ≡ filled old_marks start len true = c.fill.ensures ∙ ap (λ (ms : List Bool). filled ms start len true) c.deref_mut.ensures.value in
    let tags : c.retag.new.tags ≡ retagged old_tags start len Readable = c.retag.ensures ∙ ap (λ (ts : List WordTag). retagged ts start len Readable) c.deref_mut-2.ensures.value in
    let marks_size : length c.fill.new.values ≡ length old_marks = ap length marks ∙ length-filled old_marks start len true in
    let tags_size : length c.retag.new.tags ≡ length old_tags = ap length tags ∙ length-retagged old_tags start len Readable in
    let marks_now = with_items_is c.self.inside.marks c.fill.new.values (omega arith) in
    let tags_now = with_items_is c.self.inside.tags c.retag.new.tags (omega arith) in
    record {
      kinds = c.self.invariant.kinds;
      marks = ap length marks_now ∙ marks_size ∙ c.self.invariant.marks;
      size = c.self.invariant.size;
      words = ap length tags_now ∙ tags_size ∙ c.self.invariant.words;
      tags = AreTagged-along (retagged old_tags start len Readable) (with_items c.self.inside.tags c.retag.new.tags).items
          old_kinds old_kinds (filled old_marks start len true) (with_items c.self.inside.marks c.fill.new.values).items
          (tags_now ∙ tags) refl (marks_now ∙ marks)
          (AreTagged-watched old_tags old_kinds old_marks start len (omega arith) data_there c.self.invariant.tags);
    }
