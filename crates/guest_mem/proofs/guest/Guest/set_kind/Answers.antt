use Rattle.std.proofs.Common.{◌≡◌, ◌+◌, ◌≤◌, false, List, Option, length, ap, ◌∙◌, arith}
use Rattle.std.specs.Prelude.{Bool}
use Rattle.std.specs.Vec.{with_items}
use Rattle.std.proofs.lemmas.List.{with_items_is}
use Rattle.guest_mem.specs.declared.kind.MemKind.{MemKind}
use Rattle.guest_mem.specs.declared.tags.WordTag.{WordTag}
use Rattle.guest_mem.specs.Ranges.{filled}
use Rattle.guest_mem.specs.parts.Tags.{retagged, tag_of}
use Rattle.guest_mem.proofs.Pasted.{length-filled}
use Rattle.guest_mem.proofs.Tagged.{length-retagged, AreTagged-mapped, AreTagged-along}
use Rattle.guest_mem.proofs.guest.Guest.set_kind.Goals as goal

pub invariant_of-self : goal.invariant_of-self
invariant_of-self c =
    let start = c.args.start in
    let len = c.args.len in
    let old_kinds : List (Option MemKind) = c.self.inside.kinds.items in
    let old_marks : List Bool = c.self.inside.marks.items in
    let old_tags : List WordTag = c.self.inside.tags.items in
    let inside : start + len ≤ length c.self.inside.bytes.items = rw (← c.self.view_is) at c.requires in
    let kinds : c.fill.new.values ≡ filled old_kinds start len c.args.kind = c.fill.ensures ∙ ap (λ (ks : List (Option MemKind)). filled ks start len c.args.kind) c.deref_mut.ensures.value in
    let marks : c.fill-2.new.values ≡ filled old_marks start len false = c.fill-2.ensures ∙ ap (λ (ms : List Bool). filled ms start len false) c.deref_mut-2.ensures.value in
    let tags : c.retag.new.tags ≡ retagged old_tags start len (tag_of c.args.kind) = c.retag.ensures ∙ ap (λ (ts : List WordTag). retagged ts start len c.tag_of.result) c.deref_mut-3.ensures.value ∙ ap (retagged old_tags start len) c.tag_of.ensures in
    let kinds_size : length c.fill.new.values ≡ length old_kinds = ap length kinds ∙ length-filled old_kinds start len c.args.kind in
    let marks_size : length c.fill-2.new.values ≡ length old_marks = ap length marks ∙ length-filled old_marks start len false in
    let tags_size : length c.retag.new.tags ≡ length old_tags = ap length tags ∙ length-retagged old_tags start len (tag_of c.args.kind) in
    let kinds_now = with_items_is c.self.inside.kinds c.fill.new.values (omega arith) in
    let marks_now = with_items_is c.self.inside.marks c.fill-2.new.values (omega arith) in
    let tags_now = with_items_is c.self.inside.tags c.retag.new.tags (omega arith) in
    record {
      kinds = ap length kinds_now ∙ kinds_size ∙ c.self.invariant.kinds;
      marks = ap length marks_now ∙ marks_size ∙ c.self.invariant.marks;
      size = c.self.invariant.size;
      words = ap length tags_now ∙ tags_size ∙ c.self.invariant.words;
      tags = AreTagged-along (retagged old_tags start len (tag_of c.args.kind)) (with_items c.self.inside.tags c.retag.new.tags).items
          (filled old_kinds start len c.args.kind) (with_items c.self.inside.kinds c.fill.new.values).items
          (filled old_marks start len false) (with_items c.self.inside.marks c.fill-2.new.values).items
          (tags_now ∙ tags) (kinds_now ∙ kinds) (marks_now ∙ marks)
          (AreTagged-mapped old_tags old_kinds old_marks start len c.args.kind (omega arith) (omega arith) (omega arith) c.self.invariant.tags);
    }
