-- Calls of what the loader looks up: the branch leads to the entry of the symbol's slot in the PLT.
use Rattle.std.proofs.Common.{◌≡◌, ℕ, suc, ◌+◌, ◌-◌, ◌*◌, ◌%◌, ◌^◌, ◌<◌, ◌≤◌, true, false, cond, not, ◌&&◌, List, [], ◌∷◌, ◌++◌, length, filter, Some, refl, sym, ap, subst, ◌∙◌, arith, All}
use Rattle.std.specs.Prelude.{◌==◌, pos, ◌+ℤ◌, ◌-ℤ◌, Contains, option_map, position, slice_get, unwrap_or}
use Rattle.std.proofs.lemmas.Bool.{and_from, eq-eqb}
use Rattle.std.proofs.lemmas.Bool.Decides.{nat_tests}
use Rattle.std.proofs.lemmas.List.Elements.{All-append, All-cons, All-contains, All-nil, Contains-append_left, Contains-append_right}
use Rattle.std.proofs.lemmas.List.FromFn.{length-map-range_with_len}
use Rattle.std.proofs.lemmas.Option.{slice_get-map, slice_get_within}
use Rattle.fd_base.specs.Sums.{minus}
use Rattle.fd_base.proofs.Lists.{all_at}
use Rattle.fd_base.proofs.Members.{contains_first, filter_map_in, flat_map_in, map_in}
use Rattle.fd_base.proofs.Ranges.{is_spanned}
use Rattle.arm_relocs.specs.Branch.{branch_addend}
use Rattle.elf_model.specs.declared.constants.TheConstants.{R_ARM_FUNCDESC_VALUE}
use Rattle.elf_model.specs.declared.object.Object.{Object}
use Rattle.elf_model.specs.declared.object.Rel.{Rel}
use Rattle.elf_model.specs.declared.object.Segment.{Segment}
use Rattle.elf_model.specs.declared.relocatable.RelObject.{RelObject}
use Rattle.elf_model.specs.Places.{file_byte, file_word, filled_ranges, slot_of, spans}
use Rattle.elf_model.specs.Sound.{IsSound, RangesApart}
use Rattle.plt_code.specs.Standing.{is_code_in, is_near, stand_at}
use Rattle.plt_code.specs.Words.{call_words, entry_words, lazy_words}
use Rattle.plt_code.specs.parts.Laws.{IsWholeEntry}
use Rattle.plt_code.proofs.Within.{any_of, code_of}
use Rattle.load_image.specs.parts.Laws.{HasWord}
use Rattle.load_model.specs.Definition.{Linkage}
use Rattle.load_model.specs.Image.{Placing}
use Rattle.link_model.specs.declared.input.Mode.{Mode}
use Rattle.link_model.specs.declared.limits.TheConstants.{PLT_ENTRY_SIZE}
use Rattle.link_model.specs.declared.need.Need.{Need}
use Rattle.link_model.specs.declared.need.Need.TheVariants.{Slot}
use Rattle.link_model.specs.declared.target.Key.{Key}
use Rattle.link_model.specs.declared.target.Reach.TheVariants.{Dynamic}
use Rattle.link_model.specs.DynamicSymbols.{symbol_index}
use Rattle.link_model.specs.Inputs.{InputRel, InputSection, all_rels, numbered}
use Rattle.link_model.specs.Joined.{greatest}
use Rattle.link_model.specs.Needs.{all_needs, is_branch, is_idle, needs_for, offset_of, slot_key, slot_keys, target_at}
use Rattle.link_model.specs.Places.{need_place, plt_entry, plt_entry_of, plt_place, text_end}
use Rattle.link_model.specs.Sections.{is_nobits, text_place, text_sections, text_sections_end}
use Rattle.link_model.specs.Segments.{data_segment, got_words, linked_byte, linked_bytes, plt_entry_words, plt_words, segments_of, site_words, text_filled_end, text_segment, word_at, words_of}
use Rattle.link_model.specs.Sites.{branch_distance, branch_goal, input_word, site_address, sum_of}
use Rattle.link_model.specs.SiteTests.{is_cross}
use Rattle.link_model.specs.Targets.{is_dynamic, is_nothing, is_same_key, name_of_key}
use Rattle.link_model.specs.parts.Laws.{AreClear, IsWellTyped}
use Rattle.link_model.proofs.Needed.{same_key, stands}
use Rattle.link_model.proofs.Numbering.{in_numbered}
use Rattle.link_model.proofs.Passed.{passing_is_fitting}
use Rattle.link_model.proofs.Positions.{at_position}
use Rattle.link_model.proofs.Written.{words_are_linked}
use Rattle.link_sites.specs.Loaded.{HoldsWord, IsModule}
use Rattle.link_sites.proofs.Calls.{plt}
use Rattle.link_means.specs.Means.{CallsBySlot}
use Rattle.link_means.specs.parts.Laws.{IsOutput}
use Rattle.link_means.proofs.Branches.{can_branch_at, field, field_reads_back, its_word, reached}
use Rattle.link_means.proofs.Got.{got_word_stands, is_needed, need_below, usable}
use Rattle.link_means.proofs.Held.{data_begins, held_stays, word_of_bytes}
use Rattle.link_means.proofs.Named.{rel_named}
use Rattle.link_means.proofs.Sharing.{data_held, data_small}
use Rattle.link_means.proofs.Staying.{written_not_idle}
use Rattle.link_means.proofs.Texts.{in_text, text_first, text_holds, text_shares, text_small, text_word_is_plain, unwritten_range}

-- ---- words in a row

stand_all : (ss : List Segment) (v : ℕ) (ws : List ℕ) → ((k w : ℕ) → slice_get ws k ≡ Some w → file_word ss (v + 4 * k) ≡ w) → stand_at ss v ws ≡ true
stand_all ss v [] each = refl
stand_all ss v (w ∷ ws) each =
    let begin : v ≡ v + 4 * 0 = omega arith in
    let first : file_word ss v ≡ w = ap (file_word ss) begin ∙ each 0 w refl in
    let next : (k u : ℕ) → slice_get ws k ≡ Some u → file_word ss (v + 4 + 4 * k) ≡ u = λ k u is.
    let place : v + 4 + 4 * k ≡ v + 4 * suc k = omega arith in
    ap (file_word ss) place ∙ each (suc k) u is in
    and_from (file_word ss v == w) (stand_at ss (v + 4) ws) (eq-eqb (file_word ss v) w first) (stand_all ss (v + 4) ws next)

abbrev IsSmall : ℕ → Type 0
IsSmall w = w < 2 ^ 32

-- the words of an entry, given its two offsets
entry_small : (a b : ℕ) → a < 2 ^ 32 → b < 2 ^ 32 → All IsSmall (entry_words a b)
entry_small a b one two =
    let calls = four 0xe59f_c008 0xe08c_c009 0xe59c_9004 0xe59c_f000 (omega arith) (omega arith) (omega arith) (omega arith) in
    let lazy = four 0xe51f_c00c 0xe92d_1000 0xe599_c004 0xe599_f000 (omega arith) (omega arith) (omega arith) (omega arith) in
    All-append IsSmall call_words (a ∷ b ∷ lazy_words) calls (All-cons IsSmall a (b ∷ lazy_words) one (All-cons IsSmall b lazy_words two lazy))
  where
    four : (c d e f : ℕ) → c < 2 ^ 32 → d < 2 ^ 32 → e < 2 ^ 32 → f < 2 ^ 32 → All IsSmall (c ∷ d ∷ e ∷ f ∷ [])
    four c d e f p q r s =
        All-cons IsSmall c (d ∷ e ∷ f ∷ []) p (All-cons IsSmall d (e ∷ f ∷ []) q (All-cons IsSmall e (f ∷ []) r (All-cons IsSmall f [] s (All-nil IsSmall))))

-- ---- the slot of a symbol, and its entry

abbrev slot_number : Mode → List RelObject → Key → ℕ
slot_number mode inputs key = unwrap_or (position (is_same_key key) (slot_keys mode inputs)) 0

abbrev slot_rel : Mode → List RelObject → Key → Rel
slot_rel mode inputs key = record { site = need_place mode inputs (Slot key); kind = R_ARM_FUNCDESC_VALUE; symbol = symbol_index mode inputs key }

module _ (mode : Mode) (inputs : List RelObject) (key : Key) (needed : Contains (all_needs mode inputs) (Slot key)) where
  abbrev number : ℕ
  number = slot_number mode inputs key

  abbrev entry : ℕ
  entry = plt_entry_of mode inputs key

  abbrev site : ℕ
  site = need_place mode inputs (Slot key)

  abbrev offset : ℕ
  offset = offset_of (all_needs mode inputs) (Slot key)

  -- the ten words of the entry
  abbrev words : List ℕ
  words = entry_words offset (8 * number)

  key_at : slice_get (slot_keys mode inputs) number ≡ Some key
  key_at = at_position is_same_key same_key (slot_keys mode inputs) key (filter_map_in slot_key (all_needs mode inputs) (Slot key) key needed refl)

  -- the entry lies in the file's bytes of the text
  record EntryLies : Type 0 where
    pub aligned : entry % 4 ≡ 0
    pub to : entry + 40 ≤ text_end mode inputs
    pub filled : text_filled_end mode inputs ≡ text_end mode inputs

  entry_lies : EntryLies
  unfolding text_end
  entry_lies =
      let keys = slot_keys mode inputs in
      let below = slice_get_within keys number key key_at in
      let some : (length keys == 0) ≡ false = grind (arith, nat_tests) in
      let behind = plt_place inputs + PLT_ENTRY_SIZE * length keys in
      let end : text_end mode inputs ≡ behind = ap (λ b. cond b (text_sections_end inputs) behind) some in
      let ends : InputSection → ℕ = λ y. text_place inputs y.index + (y.section).size in
      record {
        aligned = omega arith;
        to = omega (arith, end, below);
        filled = ap (λ b. cond b (greatest 0 ends (filter (λ y. not (is_nobits y)) (text_sections inputs))) (text_end mode inputs)) some;
      }

  module _ (clear : AreClear inputs) (o : Object) (out : IsOutput mode inputs o) where
    slot_is : slot_of o number ≡ Some (slot_rel mode inputs key)
    slot_is =
        ap (λ (rs : List Rel). slice_get rs number) out.jmprels'
        ∙ slice_get-map (slot_rel mode inputs) (slot_keys mode inputs) number ∙ ap (option_map (slot_rel mode inputs)) key_at

    -- word j of the entry
    entry_word_stands : (j w : ℕ) → slice_get words j ≡ Some w → HoldsWord (file_byte o.segments) (entry + 4 * j) w
    entry_word_stands j w is = λ i lt.
        let at = entry + 4 * j in
        let u = word_at at w in
        let within : j < 10 = slice_get_within words j w is in
        let own : Contains (plt_entry_words mode inputs (number, key)) u =
        map_in (λ e. word_at (plt_entry inputs number + 4 * e.0) e.1) (numbered words) (j, w) (in_numbered words j w is) in
        let keyed = in_numbered (slot_keys mode inputs) number key key_at in
        let word = flat_map_in (plt_entry_words mode inputs) (numbered (slot_keys mode inputs)) (number, key) u keyed own in
        let entries = Contains-append_left (plt_words mode inputs) (got_words mode inputs) u word in
        let member = Contains-append_right (site_words mode inputs) (plt_words mode inputs ++ got_words mode inputs) u entries in
        let all = All-contains (HasWord (file_byte (segments_of mode inputs))) (words_of mode inputs) u (words_are_linked.words mode inputs clear) member in
        ap (λ ss. file_byte ss (at + i)) out.segments'
        ∙ held_stays (segments_of mode inputs) out.others (at + i) (text_holds mode inputs (at + i) (omega (arith, lt, within, entry_lies.to)))
        ∙ all i lt

    text_is : slice_get o.segments 0 ≡ Some (text_segment mode inputs)
    text_is = text_first mode inputs o out (omega (arith, entry_lies.to))

    module _ (sound : IsSound o) where
      end_small : text_end mode inputs < 2 ^ 32
      end_small = text_small mode inputs o out sound (omega (arith, entry_lies.to))

      offset_small : offset < 2 ^ 32
      offset_small = omega (arith, need_below mode inputs (Slot key) needed, data_small mode inputs o out sound)

      words_stand : stand_at o.segments entry words ≡ true
      words_stand =
          let small = entry_small offset (8 * number) offset_small (omega (arith, entry_lies.to, end_small)) in
          stand_all o.segments entry words
          (λ j w is. word_of_bytes o.segments (entry + 4 * j) w (all_at IsSmall words j w small is) (entry_word_stands j w is))

      -- the entry is code
      entry_code : is_code_in o.segments entry 40 ≡ true
      entry_code =
          let end = text_filled_end mode inputs in
          let size : length (linked_bytes mode inputs 0 end) ≡ end - 0 = length-map-range_with_len (linked_byte mode inputs) 0 (end - 0) in
          code_of o.segments 0 entry 40 (text_segment mode inputs) text_is refl (omega arith) (omega (arith, size, entry_lies.filled, entry_lies.to))

      -- the slot and the header of the GOT lie in the data
      slot_near : is_near o.segments site o.got ≡ true
      slot_near =
          let s = data_segment mode inputs in
          let held = data_held mode inputs o out in
          let from = (stands mode inputs (Slot key) needed).from in
          let to = need_below mode inputs (Slot key) needed in
          let begins = data_begins mode inputs in
          let slot = is_spanned s.vaddr s.memsz site 8 (omega (arith, from)) (omega (arith, to, begins)) in
          let header = is_spanned s.vaddr s.memsz o.got 12 (omega (arith, out.got')) (omega (arith, out.got', from, to, begins)) in
          any_of (λ t. spans t site 8 && spans t o.got 12) o.segments held.0 s held.1 (and_from (spans s site 8) (spans s o.got 12) slot header)

      -- it leads to the entry's call of the resolver
      slot_leads : file_word o.segments site ≡ entry + 24
      slot_leads =
          let begin : site + 4 * 0 ≡ site = omega arith in
          let bytes = got_word_stands mode inputs (Slot key) needed clear o out 0 (entry + 24) (omega arith) refl in
          word_of_bytes o.segments site (entry + 24) (omega (arith, entry_lies.to, end_small))
          (subst (λ a. HoldsWord (file_byte o.segments) a (entry + 24)) begin bytes)

      slot_offset : minus site o.got ≡ offset
      slot_offset = omega (arith, out.got', offset_small, data_begins mode inputs, data_small mode inputs o out sound)

      whole_entry : IsWholeEntry o entry number
      whole_entry = record {
        rel = slot_rel mode inputs key;
        is_slot = slot_is;
        aligned = entry_lies.aligned;
        code = entry_code;
        words = ap (λ a. stand_at o.segments entry (entry_words a (8 * number))) slot_offset ∙ words_stand;
        near = slot_near;
        leads = slot_leads;
      }

      entry_apart : All (RangesApart (record { addr = entry; size = 40 })) (filled_ranges o)
      entry_apart = unwritten_range o 0 (text_segment mode inputs) entry 40 sound text_is refl (omega arith) (omega (arith, entry_lies.to))

-- ---- the branch

call_goal : (mode : Mode) (inputs : List RelObject) (x : InputRel) → (target_at mode inputs x).reach ≡ Dynamic
    → branch_goal mode inputs x ≡ pos (plt_entry_of mode inputs (target_at mode inputs x).key)
call_goal mode inputs x dynamic =
    ap (λ r. cond (is_dynamic r) (pos (plt_entry_of mode inputs (target_at mode inputs x).key)) (sum_of mode inputs x +ℤ pos 8)) dynamic

-- ---- the law

module _ (mode : Mode) (inputs : List RelObject) (o : Object) (l : Linkage) (p : Placing) (m : ℕ) (x : InputRel)
    (clear : AreClear inputs) (out : IsOutput mode inputs o) (is : IsModule l p m o) (there : Contains (all_rels inputs) x) (typed : IsWellTyped mode inputs x) where
  call_needed : is_idle (x.rel).kind ≡ false → is_branch (x.rel).kind ≡ true → (target_at mode inputs x).reach ≡ Dynamic
      → Contains (all_needs mode inputs) (Slot (target_at mode inputs x).key)
  call_needed busy kind dynamic =
      let n = Slot (target_at mode inputs x).key in
      let needs : needs_for inputs (x.rel).kind (target_at mode inputs x) ≡ n ∷ [] = rw (kind, dynamic) refl in
      is_needed mode inputs x n there (usable mode inputs x typed.usable busy)
      (subst (λ (ns : List Need). Contains ns n) (sym needs) (contains_first n n [] refl))

  pub slot_call : is_branch (x.rel).kind ≡ true → (target_at mode inputs x).reach ≡ Dynamic → is_cross mode inputs x ≡ false
      → CallsBySlot l p m o (site_address mode inputs x) (name_of_key inputs (target_at mode inputs x).key)
  slot_call kind dynamic near =
      let key = (target_at mode inputs x).key in
      let v = site_address mode inputs x in
      let w = field (input_word x) (branch_distance mode inputs x) in
      let entry = plt_entry_of mode inputs key in
      let some : is_nothing (target_at mode inputs x).reach ≡ false = ap is_nothing dynamic in
      let reach = reached mode inputs x (can_branch_at mode inputs x kind some (passing_is_fitting.reach mode inputs x near).branch) in
      let written = its_word mode inputs x kind some reach.near in
      let busy = written_not_idle mode inputs x w written in
      let needed = call_needed busy kind dynamic in
      let from = in_text mode inputs x clear there reach.unwritten in
      let to = (entry_lies mode inputs key needed).to in
      let plain = text_word_is_plain mode inputs o x w clear out is.sound there reach.unwritten written in
      let shares = text_shares mode inputs o v entry out (omega (arith, from)) (omega (arith, to)) in
      let distance : branch_addend w ≡ pos entry -ℤ pos (v + 8) =
      field_reads_back (input_word x) (branch_distance mode inputs x) reach.near ∙ ap (λ z. z -ℤ pos (v + 8)) (call_goal mode inputs x dynamic) in
      let whole = whole_entry mode inputs key needed clear o out is.sound in
      let apart = entry_apart mode inputs key needed clear o out is.sound in
      let means = plt l p m o v entry (slot_number mode inputs key) w is plain shares distance whole apart in
      record {
        entry = entry;
        slot = slot_number mode inputs key;
        rel = slot_rel mode inputs key;
        branches = means.0;
        entry' = means.1.0;
        clear = means.1.1;
        slot' = slot_is mode inputs key needed clear o out;
        name' = (rel_named mode inputs o out x typed busy dynamic).name;
      }
