-- What stands in the GOT for a need, and what loading makes of it.
use Rattle.std.proofs.Common.{◌≡◌, ℕ, ◌+◌, ◌*◌, ◌^◌, ◌<◌, ◌≤◌, false, cond, not, ◌&&◌, ◌||◌, List, [], ◌++◌, Some, None, refl, sym, ap, subst, ◌∙◌, arith}
use Rattle.std.specs.Prelude.{Contains, flat_map, slice_get}
use Rattle.std.proofs.lemmas.List.Elements.{All-contains, Contains-append_right}
use Rattle.fd_base.proofs.Members.{flat_map_in, map_in}
use Rattle.elf_model.specs.declared.object.Object.{Object}
use Rattle.elf_model.specs.declared.relocatable.RelObject.{RelObject}
use Rattle.elf_model.specs.Filled.{fixup_at}
use Rattle.elf_model.specs.Places.{file_byte}
use Rattle.load_image.specs.parts.Laws.{HasWord}
use Rattle.load_map.specs.Translation.{placed}
use Rattle.load_model.specs.Definition.{Linkage}
use Rattle.load_model.specs.Image.{Placing, got_of}
use Rattle.link_model.specs.declared.input.Mode.{Mode}
use Rattle.link_model.specs.declared.need.Need.{Need}
use Rattle.link_model.specs.DynamicRels.{need_rels}
use Rattle.link_model.specs.GotLayout.{use_size}
use Rattle.link_model.specs.Inputs.{InputRel, all_rels, numbered}
use Rattle.link_model.specs.Needs.{all_needs, is_idle, is_own_undefined, is_dropped, is_same_need, is_unusable, kind_of, needs_for, needs_of, offset_of, slot_key, symbol_at, target_at}
use Rattle.link_model.specs.Places.{data_end, data_place, need_place}
use Rattle.link_model.specs.Segments.{got_words, need_values, need_words, plt_words, segments_of, site_words, word_at, words_of}
use Rattle.link_model.specs.SiteTests.{has_unusable_symbol}
use Rattle.link_model.specs.Sites.{site_address, site_word}
use Rattle.link_model.specs.parts.Laws.{AreClear, StandsInGot}
use Rattle.link_model.proofs.Needed.{needs_lie_apart, same_need}
use Rattle.link_model.proofs.Numbering.{in_numbered}
use Rattle.link_model.proofs.Positions.{in_firsts}
use Rattle.link_model.proofs.Written.{words_are_linked}
use Rattle.link_sites.specs.Loaded.{HoldsWord, IsModule, LoadedWord}
use Rattle.link_sites.specs.parts.Linked.{IsRelative, ShareSegment}
use Rattle.link_sites.proofs.Sites as sites
use Rattle.link_means.specs.parts.Laws.{IsOutput, is_filled_kind}
use Rattle.link_means.proofs.Apart.{need_all_off}
use Rattle.link_means.proofs.Held.{data_holds, got_ends, held_stays, word_of_bytes}
use Rattle.link_means.proofs.Listed.{fixup_listed, need_in_dynamic}
use Rattle.link_means.proofs.Sharing.{shares_in_data}
use Rattle.link_means.proofs.Staying.{word_is_plain}

-- ---- what a relocation needs is there

module _ (mode : Mode) (inputs : List RelObject) where
  pub usable : (x : InputRel) → has_unusable_symbol inputs x ≡ false → is_idle (x.rel).kind ≡ false → is_unusable (symbol_at inputs x) ≡ false
  usable x passes busy = sym (ap (λ b. is_dropped (symbol_at inputs x).place || (not b && is_own_undefined (symbol_at inputs x))) busy) ∙ passes

  pub is_needed : (x : InputRel) (n : Need) → Contains (all_rels inputs) x → is_unusable (symbol_at inputs x) ≡ false → Contains (needs_for inputs (x.rel).kind (target_at mode inputs x)) n
      → Contains (all_needs mode inputs) n
  unfolding all_needs
  is_needed x n there usable' own =
      let needs : needs_of mode inputs x ≡ needs_for inputs (x.rel).kind (target_at mode inputs x) = ap (λ b. cond b [] (needs_for inputs (x.rel).kind (target_at mode inputs x))) usable' in
      in_firsts is_same_need same_need (flat_map (needs_of mode inputs) (all_rels inputs)) n
      (flat_map_in (needs_of mode inputs) (all_rels inputs) x n there (subst (λ (ns : List Need). Contains ns n) (sym needs) own))

-- ---- words of the GOT

module _ (mode : Mode) (inputs : List RelObject) (n : Need) (there : Contains (all_needs mode inputs) n) where
  stands : StandsInGot mode inputs n
  stands = All-contains (StandsInGot mode inputs) (all_needs mode inputs) n (needs_lie_apart.each mode inputs) there

  pub need_below : need_place mode inputs n + use_size (kind_of n) ≤ data_end mode inputs
  need_below = omega (arith, stands.to, got_ends mode inputs)

  module _ (clear : AreClear inputs) (o : Object) (out : IsOutput mode inputs o) (k v : ℕ) (inside : 4 * k + 4 ≤ use_size (kind_of n)) (is : slice_get (need_values mode inputs n) k ≡ Some v) where
    -- word k of a need
    pub got_word_stands : HoldsWord (file_byte o.segments) (need_place mode inputs n + 4 * k) v
    got_word_stands = λ i lt.
        let at = need_place mode inputs n + 4 * k in
        let w = word_at at v in
        let own : Contains (need_words mode inputs n) w =
        map_in (λ e. word_at (need_place mode inputs n + 4 * e.0) e.1) (numbered (need_values mode inputs n)) (k, v) (in_numbered (need_values mode inputs n) k v is) in
        let word = flat_map_in (need_words mode inputs) (all_needs mode inputs) n w there own in
        let member = Contains-append_right (site_words mode inputs) (plt_words mode inputs ++ got_words mode inputs) w (Contains-append_right (plt_words mode inputs) (got_words mode inputs) w word) in
        let all = All-contains (HasWord (file_byte (segments_of mode inputs))) (words_of mode inputs) w (words_are_linked.words mode inputs clear) member in
        ap (λ ss. file_byte ss (at + i)) out.segments'
        ∙ held_stays (segments_of mode inputs) out.others (at + i)
        (data_holds mode inputs (at + i) (omega (arith, stands.from)) (omega (arith, lt, inside, need_below)))
        ∙ all i lt

    -- one that isn't filled stays
    pub free_need_means : (l : Linkage) (p : Placing) (m : ℕ) → IsModule l p m o → need_rels mode inputs n ≡ [] → slot_key n ≡ None → LoadedWord l p m o (need_place mode inputs n + 4 * k) v
    free_need_means l p m module' free no_slot =
        sites.plain l p m o (need_place mode inputs n + 4 * k) v module' (record { word = got_word_stands; apart = need_all_off mode inputs clear n there k inside free no_slot o out })

    -- one that holds a link address is placed
    pub placed_need_means : (l : Linkage) (p : Placing) (m : ℕ) → IsModule l p m o → v < 2 ^ 32 → Contains (need_rels mode inputs n) (fixup_at (need_place mode inputs n + 4 * k))
        → LoadedWord l p m o (need_place mode inputs n + 4 * k) (placed (p.maps m) v)
    placed_need_means l p m module' small listed =
        let at = need_place mode inputs n + 4 * k in
        let fact : IsRelative o at v = record {
          rel = fixup_at at;
          listed = fixup_listed mode inputs o at out (need_in_dynamic mode inputs n (fixup_at at) there listed);
          kind' = refl;
          site' = refl;
          word = word_of_bytes o.segments at v small got_word_stands;
        } in
        sites.relative l p m o at v module' fact

-- ---- offsets from the GOT

module _ (mode : Mode) (inputs : List RelObject) (o : Object) (l : Linkage) (p : Placing) (m : ℕ) (x : InputRel)
    (clear : AreClear inputs) (out : IsOutput mode inputs o) (is : IsModule l p m o) (there : Contains (all_rels inputs) x) where
  -- the GOT and the offset in the word make the place of the need
  pub record LeadsTo (n : Need) : Type 0 where
    pub loaded : LoadedWord l p m o (site_address mode inputs x) (offset_of (all_needs mode inputs) n)
    pub leads : got_of p m + offset_of (all_needs mode inputs) n ≡ placed (p.maps m) (need_place mode inputs n)

  pub leads_to : (n : Need) → Contains (all_needs mode inputs) n → is_filled_kind (x.rel).kind ≡ false → site_word mode inputs x ≡ Some (offset_of (all_needs mode inputs) n) → LeadsTo n
  leads_to n needed other written =
      let v = site_address mode inputs x in
      let offset = offset_of (all_needs mode inputs) n in
      let base = data_place mode inputs in
      let from = stands mode inputs n needed in
      let to = got_ends mode inputs in
      let plain = word_is_plain mode inputs o x offset clear out is.sound there other written in
      let shares : ShareSegment o base (base + offset) =
      shares_in_data mode inputs o out base (base + offset) (omega arith) (omega (arith, from.from, from.to, to)) (omega (arith, from.from)) (omega (arith, from.to, to)) in
      let shares' : ShareSegment o o.got (o.got + offset) = subst (λ (g : ℕ). ShareSegment o g (g + offset)) (sym out.got') shares in
      let got = sites.in_got l p m o v offset is plain shares' in
      record { loaded = got.0; leads = got.1 ∙ ap (λ g. placed (p.maps m) (g + offset)) out.got' }
