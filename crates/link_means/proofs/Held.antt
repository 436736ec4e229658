-- The words of relocations in the data of an object.
use Rattle.std.proofs.Common.{◌≡◌, ℕ, ◌+◌, ◌-◌, ◌%◌, ◌^◌, ◌<◌, ◌≤◌, inl, inr, ℤ, Bool, true, false, cond, ◌||◌, List, [], ◌∷◌, ◌++◌, map, refl, sym, ap, ◌∙◌, arith}
use Rattle.std.specs.Prelude.{◌==◌, pos, negsuc, Contains}
use Rattle.std.specs.List.{list_any}
use Rattle.std.proofs.lemmas.Bool.{cases_Bool}
use Rattle.byteorder.specs.Numbers.{little_number-reads_back}
use Rattle.fd_base.specs.Words.{word_in}
use Rattle.fd_base.proofs.Ranges.{is_inside}
use Rattle.elf_model.specs.declared.object.Segment.{Segment}
use Rattle.elf_model.specs.declared.relocatable.RelObject.{RelObject}
use Rattle.elf_model.specs.Places.{file_byte, file_word, is_held_in}
use Rattle.link_layout.proofs.Lying.{end_from}
use Rattle.link_model.specs.declared.input.Mode.{Mode}
use Rattle.link_model.specs.Inputs.{InputRel, all_rels}
use Rattle.link_model.specs.Places.{got_end, text_end, data_place, data_end, zeros_end, blocks_of, block_piece}
use Rattle.link_model.specs.Sections.{data_sections, is_writable, piece_of}
use Rattle.link_model.specs.Segments.{text_segment, data_segment, segments_of}
use Rattle.link_model.specs.Sites.{site_address, word_of}
use Rattle.link_model.specs.parts.Laws.{AreClear}
use Rattle.link_model.proofs.Numbering.{section_of_rel, rel_inside}
use Rattle.link_model.proofs.Placed.{sections_lie_apart}
use Rattle.link_model.proofs.Sited.{address}
use Rattle.link_sites.specs.Loaded.{HoldsWord}

-- ---- bytes that a segment holds

-- segments behind one that holds an address don't change its byte
pub held_stays : (ss others : List Segment) (v : ℕ) → list_any (λ s. is_held_in s v) ss ≡ true → file_byte (ss ++ others) v ≡ file_byte ss v
held_stays [] others v held = absurd cc
held_stays (s ∷ ss) others v held =
    elim (cases_Bool (is_held_in s v)) [
      | inl here ↦ rw here refl
      | inr off ↦ rw off (held_stays ss others v (ap (λ b. b || list_any (λ t. is_held_in t v) ss) (sym off) ∙ held))
    ]

-- ---- words

pub word_small : (z : ℤ) → word_of z < 2 ^ 32
word_small (pos a) = omega arith
word_small (negsuc a) = omega arith

-- the bytes of a word make the word
pub word_of_bytes : (ss : List Segment) (v w : ℕ) → w < 2 ^ 32 → HoldsWord (file_byte ss) v w → file_word ss v ≡ w
unfolding word_in
word_of_bytes ss v w small bytes =
    let a : file_byte ss v ≡ w % 256 = ap (file_byte ss) (omega arith) ∙ bytes 0 (omega arith) in
    let b = bytes 1 (omega arith) in
    let c = bytes 2 (omega arith) in
    let d = bytes 3 (omega arith) in
    rw (a, b, c, d) (little_number-reads_back 4 w [] small)

-- ---- the data

module _ (mode : Mode) (inputs : List RelObject) where
  -- the word of a relocation lies in the data
  pub record IsInData (x : InputRel) : Type 0 where
    pub from : data_place mode inputs ≤ site_address mode inputs x
    pub to : site_address mode inputs x + 4 ≤ data_end mode inputs

  zeros_below : zeros_end mode inputs ≤ data_end mode inputs
  unfolding data_end
  zeros_below = end_from (zeros_end mode inputs) (map block_piece (blocks_of mode inputs))

  -- the header of the GOT is there
  pub got_ends : got_end mode inputs ≤ data_end mode inputs
  got_ends = let zeros = end_from (got_end mode inputs) (map piece_of (data_sections inputs)) in omega (arith, zeros, zeros_below)

  pub data_begins : data_place mode inputs ≤ data_end mode inputs
  data_begins = let zeros = end_from (got_end mode inputs) (map piece_of (data_sections inputs)) in omega (arith, zeros, zeros_below)

  pub in_data : (x : InputRel) → AreClear inputs → Contains (all_rels inputs) x → is_writable x.at ≡ true → IsInData x
  in_data x clear there writable =
      let place = (sections_lie_apart.each mode inputs x.at (section_of_rel inputs x there).0).in_data writable in
      let inside = (rel_inside inputs clear.sound x there).within in
      let at = address mode inputs clear x in
      record { from = omega (arith, at, place.from); to = omega (arith, at, place.to, inside, zeros_below) }

  -- the data segment holds it
  pub data_holds : (v : ℕ) → data_place mode inputs ≤ v → v < data_end mode inputs → list_any (λ s. is_held_in s v) (segments_of mode inputs) ≡ true
  data_holds v from to =
      let held : is_held_in (data_segment mode inputs) v ≡ true = is_inside (data_place mode inputs) (data_end mode inputs - data_place mode inputs) v from (omega (arith, from, to)) in
      by held (text_end mode inputs == 0)
    where
      last : (a : Bool) → (is_held_in (data_segment mode inputs) v || false) ≡ true → (a || (is_held_in (data_segment mode inputs) v || false)) ≡ true
      last true held = refl
      last false held = held

      by : is_held_in (data_segment mode inputs) v ≡ true → (b : Bool)
          → list_any (λ s. is_held_in s v) (cond b (data_segment mode inputs ∷ []) (text_segment mode inputs ∷ data_segment mode inputs ∷ [])) ≡ true
      by held true = ap (λ b. b || false) held
      by held false = last (is_held_in (text_segment mode inputs) v) (ap (λ b. b || false) held)
