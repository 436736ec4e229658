-- Which slot's entry stands at an address.
use Rattle.std.proofs.Common.{◌≡◌, ℕ, ◌+◌, ◌%◌, false, ◌&&◌, ◌==◌, Some, get_or, position, sym, ap, ◌∙◌}
use Rattle.std.specs.BTreeMap as tree
use Rattle.std.specs.BTreeMap.{BTreeMap}
use Rattle.std.specs.Ordering.{nat_cmp}
use Rattle.std.proofs.lemmas.Bool.{and_parts, eqb-true, false≢true}
use Rattle.std.proofs.lemmas.List.Quantifiers.{position-Some}
use Rattle.std.proofs.lemmas.Option.{get_or_from_slice_get, slice_get-get_or}
use Rattle.fd_base.specs.Sums.{minus}
use Rattle.fd_base.proofs.Options.{cond_some_parts}
use Rattle.elf_model.specs.declared.object.Object.{Object}
use Rattle.elf_model.specs.declared.object.Rel.{Rel}
use Rattle.elf_model.specs.Places.{file_word, slot_of}
use Rattle.elf_model.specs.Sound.{IsSound}
use Rattle.plt_code.specs.Entries.{IsPltEntry, is_call, is_entry_of}
use Rattle.plt_code.specs.Standing.{is_code_in, is_near, stand_at}
use Rattle.plt_code.specs.Words.{call_words}
use Rattle.plt_code.specs.Table.{HasOffsets}
use Rattle.plt_code.specs.parts.Laws.{OneSlot, SlotsEntered}
use Rattle.plt_code.proofs.Offsets.{one_offset}

pub one_slot : OneSlot
one_slot o at j k sound x y = one_offset o j k x.rel y.rel sound x.is_slot y.is_slot (sym x.offset ∙ y.offset)

-- an entry's relocation is its slot's
pub rel_is : (o : Object) (at slot : ℕ) (r : Rel) (e : IsPltEntry o at slot) → slot_of o slot ≡ Some r → e.rel ≡ r
rel_is o at slot r e is = let both : Some e.rel ≡ Some r = sym e.is_slot ∙ is in cc

-- where the slot at the fifth word's offset isn't near the GOT
pub not_near : (o : Object) (at k : ℕ) (r : Rel) → IsSound o → slot_of o k ≡ Some r → file_word o.segments (at + 16) ≡ minus r.site o.got
    → is_near o.segments r.site o.got ≡ false → (slot : ℕ) → ¬ IsPltEntry o at slot
not_near o at k r sound is word far slot e =
    let same : slot ≡ k = one_offset o slot k e.rel r sound e.is_slot is (sym e.offset ∙ word) in
    let rel : e.rel ≡ r = rel_is o at slot r e (ap (slot_of o) same ∙ is) in
    false≢true (sym far ∙ ap (λ (x : Rel). is_near o.segments x.site o.got) (sym rel) ∙ e.near)

pub not_called : (o : Object) (at k l n : ℕ) (d : Rel) (table : BTreeMap ℕ ℕ) → IsSound o → HasOffsets o.got o.jmprels n table → tree.get nat_cmp table l ≡ Some k
    → l ≡ file_word o.segments (at + 16) → is_near o.segments (get_or o.jmprels k d).site o.got ≡ false → (slot : ℕ) → ¬ IsPltEntry o at slot
not_called o at k l n d table sound slots is word far =
    let found = slots.found l k is in
    let rel : get_or o.jmprels k d ≡ found.0 = get_or_from_slice_get o.jmprels k found.0 d found.1.0 in
    not_near o at k found.0 sound found.1.0 (sym word ∙ sym found.1.1) (ap (λ (x : Rel). is_near o.segments x.site o.got) (sym rel) ∙ far)

-- the entry of a slot stands where the slot is entered
pub entered : SlotsEntered
unfolding is_call
entered o v k is =
    let chosen = cond_some_parts (is_call o v) (position (is_entry_of o v) o.jmprels) k is in
    let one = and_parts (v % 4 == 0) (is_code_in o.segments v 20 && stand_at o.segments v call_words) chosen.0 in
    let two = and_parts (is_code_in o.segments v 20) (stand_at o.segments v call_words) one.1 in
    let d : Rel = record { site = 0; kind = 0; symbol = 0 } in
    let at = position-Some (is_entry_of o v) o.jmprels k d chosen.1 in
    let r = get_or o.jmprels k d in
    let three = and_parts (minus r.site o.got == file_word o.segments (v + 16)) (is_near o.segments r.site o.got) at.1 in
    record {
      rel = r;
      is_slot = slice_get-get_or o.jmprels k d at.0;
      aligned = eqb-true (v % 4) 0 one.0;
      code = two.0;
      words = two.1;
      offset = sym (eqb-true (minus r.site o.got) (file_word o.segments (v + 16)) three.0);
      near = three.1;
    }
