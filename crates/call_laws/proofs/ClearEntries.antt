-- A clear entry is that of a call.
use Rattle.std.proofs.Common.{◌≡◌, ℕ, ◌+◌, ◌^◌, ◌<◌, ◌≤◌, true, cond, List, [], Option, Some, Ok, slice_get, sym, ap, subst, ◌∙◌, arith}
use Rattle.std.specs.Prelude.{option_map}
use Rattle.std.specs.FinMap.{empty}
use Rattle.std.specs.Option.{option_map_or}
use Rattle.std.proofs.lemmas.Option.{slice_get-map}
use Rattle.elf_model.specs.declared.object.Object.{Object}
use Rattle.elf_model.specs.declared.object.Rel.{Rel}
use Rattle.elf_model.specs.Places.{file_word, slot_of}
use Rattle.guest_mem.specs.Accesses.{fetch_of}
use Rattle.guest_mem.specs.Memory.{GuestMemory, is_watched}
use Rattle.fd_base.specs.Sums.{plus, minus}
use Rattle.load_model.specs.declared.words.SlotPair.{SlotPair}
use Rattle.load_map.specs.Maps.{map_at}
use Rattle.load_map.specs.Translation.{placed}
use Rattle.load_model.specs.Linkage.{linkage_of}
use Rattle.load_model.specs.Process.{object_at}
use Rattle.load_model.specs.Unbound.{stub_of, unbound_of, waits}
use Rattle.elf_model.specs.declared.func.Func.{Func}
use Rattle.elf_model.specs.Filled.{slot_site, slot_sites}
use Rattle.elf_model.proofs.FilledSites.{numbered_slot}
use Rattle.load_state.specs.Consistent.{IsConsistent}
use Rattle.load_state.specs.Loaded.{Loaded, placing_of}
use Rattle.load_map.specs.Maps.{map_at}
use Rattle.load_state.specs.Slots.{function_or_none, slot_pair_at, slot_pair_of, slot_pairs}
use Rattle.plt_code.specs.Entries.{IsPltEntry, IsClear}
use Rattle.plt_code.specs.parts.Laws.{CallStands}
use Rattle.plt_code.proofs.Resolved.{entries_stand}
use Rattle.call_laws.specs.Calls.{Holds, Stays, bound_call}
use Rattle.call_laws.specs.parts.StandingCalls.{CallsAreHeld, HoldsEntry}
use Rattle.call_laws.proofs.EntryWords.{entry_below, entry_watched, word_fetched, word_read}
use Rattle.call_laws.proofs.SlotPairs.{code_aligned, code_of, code_read, function_is, got_for, got_read, leads_back, now, now_is, offset_is, slot_below, slot_watched}

-- the pair of slot k
pub slot_listed : (l : Loaded) (m k : ℕ) (o : Object) (r : Rel) → object_at l.modules.process m ≡ Some o → slot_of o k ≡ Some r
    → slot_pair_of l.modules.process l.modules.maps m k
    ≡ Some (slot_pair_at (linkage_of l.modules.process) (placing_of l.modules.process l.modules.maps empty) m o (unbound_of l.modules.process m) (slot_site k r))
slot_listed l m k o r live slot_is =
    let pairs : Object → List SlotPair = λ y.
    slot_pairs (linkage_of l.modules.process) (placing_of l.modules.process l.modules.maps empty) m y (unbound_of l.modules.process m) in
    let at = slot_pair_at (linkage_of l.modules.process) (placing_of l.modules.process l.modules.maps empty) m o (unbound_of l.modules.process m) in
    ap (λ (y : Option Object). slice_get (option_map_or pairs y []) k) live ∙ slice_get-map at (slot_sites 0 o.jmprels) k
    ∙ ap (option_map at) (numbered_slot o.jmprels k r slot_is)

-- a word among watched bytes
stays_at : (m : GuestMemory) (a n j : ℕ) → ((i : ℕ) → i < n → is_watched m (a + i) ≡ true) → j + 4 ≤ n → (i : ℕ) → i < 4 → is_watched m (a + j + i) ≡ true
stays_at m a n j watched room i lt = let at : a + j + i ≡ a + (j + i) = omega arith in ap (is_watched m) at ∙ watched (j + i) (omega arith)

module _ (l : Loaded) (h : IsConsistent l) (small : l.modules.plan.memory < 2 ^ 32) (m v k : ℕ) (o : Object) (live : object_at l.modules.process m ≡ Some o)
    (entry : IsPltEntry o v k) (clear : IsClear o v k) where
  abbrev r : Rel
  r = entry.rel

  abbrev p : ℕ
  p = placed (map_at l.modules.maps m) v

  abbrev pair : SlotPair
  pair = record {
    addr = placed (map_at l.modules.maps m) r.site;
    code = code_of (placing_of l.modules.process l.modules.maps l.modules.addrs) (now l h small m k o r live entry.is_slot entry.near);
    got = got_for (placing_of l.modules.process l.modules.maps l.modules.addrs) (now l h small m k o r live entry.is_slot entry.near);
  }

  stands : CallStands o v r.site
  stands = entries_stand.words o v k r entry entry.is_slot

  first_fetched : fetch_of l.memory p ≡ Ok 0xe59fc008
  first_fetched =
      let here : p ≡ p + 0 = omega arith in
      let link : v + 0 ≡ v = omega arith in
      ap (fetch_of l.memory) here
      ∙ word_fetched l h m v k o live entry clear 0 0xe59fc008 (omega arith) (omega arith) (ap (file_word o.segments) link ∙ stands.first)

  abbrev x : ℕ
  x = placed (map_at l.modules.maps m) r.site

  abbrev got : ℕ
  got = placed (map_at l.modules.maps m) o.got

  leads : plus got (minus x got) ≡ x
  leads = leads_back l h small m k o r live entry.is_slot entry.near

  next_leads : plus (plus got (minus x got)) 4 ≡ x + 4
  next_leads =
      let below : x + 8 < 2 ^ 32 = slot_below l h small m k o r live entry.is_slot entry.near in
      let sum : plus x 4 ≡ x + 4 = omega arith in
      ap (λ a. plus a 4) leads ∙ sum

  entry_stays : (i : ℕ) → i < 20 → is_watched l.memory (p + i) ≡ true
  entry_stays = entry_watched l h m v k o live entry clear

  slot_stays : (i : ℕ) → i < 8 → is_watched l.memory (x + i) ≡ true
  slot_stays = slot_watched l h small m k o r live entry.is_slot entry.near

  pair_holds : Holds l.memory (bound_call p got pair)
  pair_holds = record {
    below = entry_below l h m v k o live entry clear small;
    word_0 = first_fetched;
    word_1 = word_fetched l h m v k o live entry clear 4 0xe08cc009 (omega arith) (omega arith) stands.second;
    word_2 = word_fetched l h m v k o live entry clear 8 0xe59c9004 (omega arith) (omega arith) stands.third;
    word_3 = word_fetched l h m v k o live entry clear 12 0xe59cf000 (omega arith) (omega arith) stands.fourth;
    word_4 = record {
      value =
          word_read l h m v k o live entry clear 16 _ (omega arith) (omega arith)
          (stands.offset ∙ sym (offset_is l h small m k o r live entry.is_slot entry.near));
      watched = stays_at l.memory p 20 16 entry_stays (omega arith);
    };
    slot = subst (λ (a : ℕ). Stays l.memory a pair.code) (sym leads)
        (record { value = code_read l h small m k o r live entry.is_slot entry.near; watched = λ i lt. slot_stays i (omega arith) });
    slot_got = subst (λ (a : ℕ). Stays l.memory a pair.got) (sym next_leads)
        (record { value = got_read l h small m k o r live entry.is_slot entry.near; watched = stays_at l.memory x 8 4 slot_stays (omega arith) });
    aligned = code_aligned l h small m k o r live entry.is_slot entry.near;
  }

  pair_held : HoldsEntry l.memory p got pair
  pair_held = record {
    holds = pair_holds;
    leads = leads;
    slot_below = slot_below l h small m k o r live entry.is_slot entry.near;
    watched = entry_stays;
  }

  -- by where the slot leads
  abbrev pair_by : Option Func → SlotPair
  pair_by f = record {
    addr = placed (map_at l.modules.maps m) r.site;
    code = code_of (placing_of l.modules.process l.modules.maps l.modules.addrs) f;
    got = got_for (placing_of l.modules.process l.modules.maps l.modules.addrs) f;
  }

  pair_is : slot_pair_of l.modules.process l.modules.maps m k ≡ Some pair
  pair_is =
      let b = waits (unbound_of l.modules.process m) (slot_site k r) in
      slot_listed l m k o r live entry.is_slot
      ∙ ap (λ y. Some (pair_by (cond b (Some (stub_of m o r)) (function_or_none y)))) (function_is l h small m k o r live entry.is_slot entry.near)
      ∙ ap (λ f. Some (pair_by f)) (sym (now_is l h small m k o r live entry.is_slot entry.near))

  held : (slot : SlotPair) → slot_pair_of l.modules.process l.modules.maps m k ≡ Some slot → HoldsEntry l.memory p got slot
  held slot is =
      let both : Some pair ≡ Some slot = sym pair_is ∙ is in
      let same : pair ≡ slot = cc in
      subst (HoldsEntry l.memory p got) same pair_held

pub calls_are_held_lem : CallsAreHeld
calls_are_held_lem = record {
  slots = λ l m v k o live entry. (_, slot_listed l m k o entry.rel live entry.is_slot);
  held = λ l m v k o slot h small live entry clear is. held l h small m v k o live entry clear slot is;
}
