-- The words of the text, which loading leaves as they are.
use Rattle.std.proofs.Common.{◌≡◌, ◌≢◌, ℕ, ◌+◌, ◌^◌, ◌<◌, ◌≤◌, inl, inr, true, false, cond, ◌&&◌, ◌||◌, List, [], ◌∷◌, ◌++◌, get_or, Some, refl, sym, ap, ◌∙◌, arith, All}
use Rattle.std.specs.Prelude.{◌==◌, slice_get, Contains}
use Rattle.std.specs.List.{list_any}
use Rattle.std.proofs.lemmas.Bool.{and_parts, false≢true}
use Rattle.std.proofs.lemmas.Bool.Decides.{nat_tests}
use Rattle.fd_base.proofs.Finding.{any_at}
use Rattle.fd_base.proofs.Lists.{all_at}
use Rattle.fd_base.proofs.Ranges.{is_inside, spanned}
use Rattle.elf_model.specs.declared.object.Object.{Object}
use Rattle.elf_model.specs.declared.object.Segment.{Segment}
use Rattle.elf_model.specs.declared.relocatable.RelObject.{RelObject}
use Rattle.elf_model.specs.declared.table.Site.{Site}
use Rattle.elf_model.specs.Places.{file_byte, filled_ranges, is_held_in, is_writable, spans}
use Rattle.elf_model.specs.Relocations.{word_site}
use Rattle.elf_model.specs.Sound.{IsSound, IsSized, RangesApart}
use Rattle.link_model.specs.declared.input.Mode.{Mode}
use Rattle.link_model.specs.Inputs.{InputRel, all_rels}
use Rattle.link_model.specs.Places.{text_end}
use Rattle.link_model.specs.Sections as section
use Rattle.link_model.specs.Segments.{text_segment, data_segment, segments_of}
use Rattle.link_model.specs.Sites.{site_address, site_word}
use Rattle.link_model.specs.parts.Laws.{AreClear}
use Rattle.link_model.proofs.Numbering.{section_of_rel, rel_inside}
use Rattle.link_model.proofs.Placed.{sections_lie_apart}
use Rattle.link_model.proofs.Sited.{address}
use Rattle.link_sites.specs.parts.Linked.{IsPlain, ShareSegment}
use Rattle.link_sites.proofs.Placing.{apart_at}
use Rattle.link_means.specs.parts.Laws.{IsOutput}
use Rattle.link_means.proofs.Addresses.{word_stands}
use Rattle.link_means.proofs.Held.{held_stays}

-- ---- segments that aren't written

-- what is filled meets no bytes of a segment that isn't writable
pub unwritten_range : (o : Object) (k : ℕ) (t : Segment) (v n : ℕ) → IsSound o → slice_get o.segments k ≡ Some t → is_writable t ≡ false
    → t.vaddr ≤ v → v + n ≤ t.vaddr + t.memsz → All (RangesApart (record { addr = v; size = n })) (filled_ranges o)
unwritten_range o k t v n sound at unwritten from to = λ i d lt. each (get_or (filled_ranges o) i d) ((sound.in_place i d lt).writable)
  where
    each : (r : Site) → list_any (λ s. is_writable s && spans s r.addr r.size) o.segments ≡ true → RangesApart (record { addr = v; size = n }) r
    each r writable =
        let found = any_at (λ (s : Segment). is_writable s && spans s r.addr r.size) o.segments writable in
        let j = found.0 in
        let s = found.1 in
        let parts = and_parts (is_writable s) (spans s r.addr r.size) found.2.1 in
        let inside = spanned s.vaddr s.memsz r.addr r.size parts.1 in
        let other : j ≢ k = λ same.
        let one : Some s ≡ Some t = sym found.2.0 ∙ ap (slice_get o.segments) same ∙ at in
        let equal : s ≡ t = cc in
        false≢true (sym unwritten ∙ ap is_writable (sym equal) ∙ parts.0) in
        elim (apart_at o.segments j k s t sound.apart other found.2.0 at) [
          | inl before ↦ inr (omega (arith, inside.1, before, from))
          | inr behind ↦ inl (omega (arith, inside.0, behind, to))
        ]

pub unwritten_apart : (o : Object) (k : ℕ) (t : Segment) (v : ℕ) → IsSound o → slice_get o.segments k ≡ Some t → is_writable t ≡ false → t.vaddr ≤ v → v + 4 ≤ t.vaddr + t.memsz
    → All (RangesApart (word_site v)) (filled_ranges o)
unwritten_apart o k t v = unwritten_range o k t v 4

-- ---- the text

module _ (mode : Mode) (inputs : List RelObject) where
  -- the word of a relocation lies in the text
  pub in_text : (x : InputRel) → AreClear inputs → Contains (all_rels inputs) x → section.is_writable x.at ≡ false → site_address mode inputs x + 4 ≤ text_end mode inputs
  in_text x clear there unwritten =
      let place = (sections_lie_apart.each mode inputs x.at (section_of_rel inputs x there).0).in_text unwritten in
      let inside = (rel_inside inputs clear.sound x there).within in
      let at = address mode inputs clear x in
      omega (arith, at, place.to, inside)

  both_segments : 0 < text_end mode inputs → segments_of mode inputs ≡ text_segment mode inputs ∷ data_segment mode inputs ∷ []
  both_segments some =
      let no' : (text_end mode inputs == 0) ≡ false = grind (arith, nat_tests) in
      ap (λ b. cond b (data_segment mode inputs ∷ []) (text_segment mode inputs ∷ data_segment mode inputs ∷ [])) no'

  -- the text is the first segment
  pub text_first : (o : Object) → IsOutput mode inputs o → 0 < text_end mode inputs → slice_get o.segments 0 ≡ Some (text_segment mode inputs)
  text_first o out some = ap (λ ss. slice_get ss 0) (out.segments' ∙ ap (λ ss. ss ++ out.others) (both_segments some))

  pub text_holds : (v : ℕ) → v < text_end mode inputs → list_any (λ s. is_held_in s v) (segments_of mode inputs) ≡ true
  text_holds v below =
      let held : is_held_in (text_segment mode inputs) v ≡ true = is_inside 0 (text_end mode inputs) v (omega arith) (omega (arith, below)) in
      ap (list_any (λ s. is_held_in s v)) (both_segments (omega (arith, below)))
      ∙ ap (λ b. b || (is_held_in (data_segment mode inputs) v || false)) held

  -- what the linker writes into the text stays
  pub text_word_is_plain : (o : Object) (x : InputRel) (w : ℕ) → AreClear inputs → IsOutput mode inputs o → IsSound o → Contains (all_rels inputs) x
      → section.is_writable x.at ≡ false → site_word mode inputs x ≡ Some w → IsPlain o (site_address mode inputs x) w
  text_word_is_plain o x w clear out sound there unwritten is =
      let v = site_address mode inputs x in
      let below = in_text x clear there unwritten in
      record {
        word = λ i lt.
            ap (λ ss. file_byte ss (v + i)) out.segments'
            ∙ held_stays (segments_of mode inputs) out.others (v + i) (text_holds (v + i) (omega (arith, below, lt)))
            ∙ word_stands mode inputs clear x there w is i lt;
        apart = unwritten_apart o 0 (text_segment mode inputs) v sound (text_first o out (omega (arith, below))) refl (omega arith) (omega (arith, below));
      }

  -- two addresses of the text
  pub text_shares : (o : Object) (v u : ℕ) → IsOutput mode inputs o → v < text_end mode inputs → u < text_end mode inputs → ShareSegment o v u
  text_shares o v u out lt lt' = record {
    segment = text_segment mode inputs;
    place = 0;
    held = text_first o out (omega (arith, lt));
    from = omega arith;
    below = omega (arith, lt);
    from' = omega arith;
    below' = omega (arith, lt');
    ends = λ end k s at. absurd (omega (arith, end, lt'));
  }

  -- link addresses in the text are words
  pub text_small : (o : Object) → IsOutput mode inputs o → IsSound o → 0 < text_end mode inputs → text_end mode inputs < 2 ^ 32
  text_small o out sound some = let end = (all_at IsSized o.segments 0 (text_segment mode inputs) sound.sized (text_first o out some)).end in omega (arith, end)
