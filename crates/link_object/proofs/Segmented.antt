-- The file's bytes of one segment.
use Rattle.std.proofs.Common.{◌≡◌, ℕ, zero, suc, ◌+◌, ◌-◌, ◌<◌, ◌≤◌, inl, inr, Bool, true, false, cond, not, ◌&&◌, List, [], ◌∷◌, length, map, filter, slice_index, refl, ap, sym, ◌∙◌, arith, All}
use Rattle.std.specs.Prelude.{Contains}
use Rattle.std.specs.List.{range_with_len}
use Rattle.std.proofs.lemmas.Bool.Decides.{nat_tests}
use Rattle.std.proofs.lemmas.Bool.{and_parts, cases_lt, not-true}
use Rattle.fd_base.proofs.Lists.{all_from, zip_at_right}
use Rattle.fd_base.proofs.Members.{all_contained, contains_at, contains_first, contains_later, in_filter}
use Rattle.fd_base.proofs.Ranges.{is_outside}
use Rattle.fd_base.specs.Ranges.{is_in}
use Rattle.elf_model.specs.declared.relocatable.RelObject.{RelObject}
use Rattle.elf_model.specs.RelSound.{IsRelSound}
use Rattle.load_model.specs.declared.words.LinkWord.{LinkWord}
use Rattle.load_model.specs.Image.{byte_over}
use Rattle.load_image.specs.parts.Bounds.{IsWordWhole}
use Rattle.load_image.proofs.ImageParts.{byte_over-same}
use Rattle.link_model.specs.declared.input.Mode.{Mode}
use Rattle.link_model.specs.Inputs.{InputSection, sections_of}
use Rattle.link_model.specs.Places.{section_place}
use Rattle.link_model.specs.Sections.{is_writable}
use Rattle.link_model.specs.Segments.{section_byte, words_of, linked_byte, linked_bytes}
use Rattle.link_model.proofs.Placed.{data_above, text_between, file_between}
use Rattle.link_model.proofs.Written.{InFile}
use Rattle.link_words.specs.declared.contents.Content.{Content}
use Rattle.link_words.specs.parts.Contents.{LiesIn, AreContentsOf, IsContentOf}
use Rattle.link_object.specs.parts.Filled.{has_bytes, is_copied, file_start, file_end}
use Rattle.link_object.proofs.Filed.{filled_of, word_in_file}
use Rattle.link_model.proofs.Written.{text_in_file, text_filled_below, got_in_file}

range_agree : {X : Type 0} (f g : ℕ → X) (a n : ℕ) → ((v : ℕ) → a ≤ v → v < a + n → f v ≡ g v) → map f (range_with_len a n) ≡ map g (range_with_len a n)
range_agree f g a zero same = refl
range_agree f g a (suc n) same =
    let first = same a (omega arith) (omega arith) in
    let rest = range_agree f g (a + 1) n (λ v ge lt. same v (omega (arith, ge)) (omega (arith, lt))) in
    λ i. first i ∷ rest i

-- bytes one behind the other
pub listed : (f : ℕ → ℕ) (a n : ℕ) (xs : List ℕ) → length xs ≡ n → ((i : ℕ) → i < n → slice_index xs i ≡ f (a + i)) → xs ≡ map f (range_with_len a n)
listed f a zero [] is same = refl
listed f a zero (x ∷ xs) is same = absurd (omega (arith, is))
listed f a (suc n) [] is same = absurd (omega (arith, is))
listed f a (suc n) (x ∷ xs) is same =
    let start : a + 0 ≡ a = omega arith in
    let first : x ≡ f a = same 0 (omega arith) ∙ ap f start in
    let size : length xs ≡ n = omega (arith, is) in
    let rest = listed f (a + 1) n xs size (λ i lt. same (suc i) (omega (arith, lt)) ∙ ap f (let next : a + suc i ≡ a + 1 + i = omega arith in next)) in
    λ j. first j ∷ rest j

module _ (mode : Mode) (inputs : List RelObject) (sound : All IsRelSound inputs) where
  -- ---- sections of the part lie in it, and those of the other part don't

  record LiesInFile (w : Bool) (x : InputSection) : Type 0 where
    from : file_start mode inputs w ≤ section_place mode inputs x.index
    to : section_place mode inputs x.index + length (x.section).filled ≤ file_end mode inputs w

  lies : (w : Bool) (x : InputSection) → Contains (sections_of inputs) x → is_copied w x ≡ true → LiesInFile w x
  lies true x there is =
      let parts = and_parts (is_writable x) (has_bytes x) is in
      let some : 0 < length (x.section).filled = grind (arith, nat_tests, parts.1) in
      let f = filled_of mode inputs sound x there in
      let l = file_between mode inputs x there parts.0 (f.bytes some) in
      record { from = omega (arith, l.from); to = omega (arith, l.to, f.fits) }
  lies false x there is =
      let parts = and_parts (not (is_writable x)) (has_bytes x) is in
      let some : 0 < length (x.section).filled = grind (arith, nat_tests, parts.1) in
      let f = filled_of mode inputs sound x there in
      let le = text_in_file mode inputs x there (not-true (is_writable x) parts.0) (f.bytes some) in
      record { from = omega arith; to = omega (arith, le, f.fits) }

  pub contents_inside : (w : Bool) (cs : List Content) → AreContentsOf mode inputs (filter (is_copied w) (sections_of inputs)) cs → All (LiesIn (file_start mode inputs w) (file_end mode inputs w - file_start mode inputs w)) cs
  contents_inside w cs are = all_from (LiesIn (file_start mode inputs w) (file_end mode inputs w - file_start mode inputs w)) cs (λ k c at.
      let p = zip_at_right (IsContentOf mode inputs) (filter (is_copied w) (sections_of inputs)) cs k c are at in
      let x = p.0 in
      let own = in_filter (is_copied w) (sections_of inputs) x (contains_at (filter (is_copied w) (sections_of inputs)) k x p.1) in
      let l = lies w x own.0 own.1 in
      let place : c.place ≡ section_place mode inputs x.index = p.2.place' in
      let size : length (c.bytes).now ≡ length (x.section).filled = ap length p.2.bytes' in
      record { from = omega (arith, place, l.from); to = omega (arith, place, size, l.from, l.to) })

  off : (w : Bool) (v : ℕ) → file_start mode inputs w ≤ v → v < file_end mode inputs w → (x : InputSection) → Contains (sections_of inputs) x → is_copied w x ≡ false
      → is_in (section_place mode inputs x.index) (length (x.section).filled) v ≡ false
  off w v ge lt x there is = by w (is_writable x) (has_bytes x) refl refl ge lt is
    where
      none : has_bytes x ≡ false → is_in (section_place mode inputs x.index) (length (x.section).filled) v ≡ false
      none e = let empty : length (x.section).filled ≡ 0 = grind (arith, nat_tests) in is_outside (section_place mode inputs x.index) (length (x.section).filled) v (elim (cases_lt v (section_place mode inputs x.index)) [ inl a ↦ inl a | inr b ↦ inr (omega (arith, b, empty)) ])

      by : (u a b : Bool) → is_writable x ≡ a → has_bytes x ≡ b → file_start mode inputs u ≤ v → v < file_end mode inputs u → is_copied u x ≡ false → is_in (section_place mode inputs x.index) (length (x.section).filled) v ≡ false
      by u a false p q from to e = none q
      by true true true p q from to e = let no' : true ≡ false = sym (λ i. p i && q i) ∙ e in absurd cc
      by false false true p q from to e = let no' : true ≡ false = sym (λ i. not (p i) && q i) ∙ e in absurd cc
      by true false true p q from to e =
          let l = text_between mode inputs x there p in
          let f = filled_of mode inputs sound x there in
          is_outside (section_place mode inputs x.index) (length (x.section).filled) v (inr (omega (arith, l.to, f.fits, data_above mode inputs, from)))
      by false true true p q from to e =
          let some : 0 < length (x.section).filled = grind (arith, nat_tests) in
          let l = file_between mode inputs x there p ((filled_of mode inputs sound x there).bytes some) in
          is_outside (section_place mode inputs x.index) (length (x.section).filled) v (inl (omega (arith, l.from, data_above mode inputs, text_filled_below mode inputs, to)))

  kept_byte : (p : InputSection → Bool) (v : ℕ) (xs : List InputSection) → ((x : InputSection) → Contains xs x → p x ≡ false → is_in (section_place mode inputs x.index) (length (x.section).filled) v ≡ false)
      → section_byte mode inputs (filter p xs) v ≡ section_byte mode inputs xs v
  kept_byte p v [] none = refl
  kept_byte p v (x ∷ xs) none = by (p x) refl (kept_byte p v xs (λ y there. none y (contains_later x y xs there)))
    where
      by : (b : Bool) → p x ≡ b → section_byte mode inputs (filter p xs) v ≡ section_byte mode inputs xs v
          → section_byte mode inputs (cond (p x) (x ∷ filter p xs) (filter p xs)) v ≡ section_byte mode inputs (x ∷ xs) v
      by true e rest =
          ap (λ b. section_byte mode inputs (cond b (x ∷ filter p xs) (filter p xs)) v) e
          ∙ ap (λ n. cond (is_in (section_place mode inputs x.index) (length (x.section).filled) v) (slice_index (x.section).filled (v - section_place mode inputs x.index)) n) rest
      by false e rest =
          ap (λ b. section_byte mode inputs (cond b (x ∷ filter p xs) (filter p xs)) v) e ∙ rest
          ∙ ap (λ b. cond b (slice_index (x.section).filled (v - section_place mode inputs x.index)) (section_byte mode inputs xs v)) (sym (none x (contains_first x x xs refl) e))

  pub bytes_are : (w : Bool) (from to : ℕ) → from ≡ file_start mode inputs w → to ≡ file_end mode inputs w
      → map (byte_over (words_of mode inputs) (section_byte mode inputs (filter (is_copied w) (sections_of inputs)))) (range_with_len from (to - from)) ≡ linked_bytes mode inputs from to
  bytes_are w from to start end =
      range_agree (byte_over (words_of mode inputs) (section_byte mode inputs (filter (is_copied w) (sections_of inputs)))) (linked_byte mode inputs) from (to - from)
      (λ v ge lt. byte_over-same (words_of mode inputs) (section_byte mode inputs (filter (is_copied w) (sections_of inputs))) (section_byte mode inputs (sections_of inputs)) v
      (kept_byte (is_copied w) v (sections_of inputs) (off w v (omega (arith, start, ge)) (omega (arith, end, lt)))))

  -- ---- words

  pub words_whole : (w : Bool) → All (IsWordWhole (file_start mode inputs w) (file_end mode inputs w - file_start mode inputs w)) (words_of mode inputs)
  words_whole w = all_contained (IsWordWhole (file_start mode inputs w) (file_end mode inputs w - file_start mode inputs w)) (words_of mode inputs) (λ u there. by w u (word_in_file mode inputs sound u there))
    where
      by : (b : Bool) (u : LinkWord) → InFile mode inputs u → IsWordWhole (file_start mode inputs b) (file_end mode inputs b - file_start mode inputs b) u
      by true u (inl text) = inr (inl (omega (arith, text.text_to, text_filled_below mode inputs, data_above mode inputs)))
      by true u (inr data') = inl (omega (arith, data'.data_from), omega (arith, data'.data_from, data'.data_to))
      by false u (inl text) = inl (omega arith, omega (arith, text.text_to))
      by false u (inr data') = inr (inr (omega (arith, data'.data_from, text_filled_below mode inputs, data_above mode inputs)))

  -- ---- by link addresses

  pub in_order : (w : Bool) → file_start mode inputs w ≤ file_end mode inputs w
  in_order true = omega (arith, got_in_file mode inputs)
  in_order false = omega arith

  pub inside_between : (w : Bool) (from to : ℕ) (cs : List Content) → from ≡ file_start mode inputs w → to ≡ file_end mode inputs w
      → AreContentsOf mode inputs (filter (is_copied w) (sections_of inputs)) cs → All (LiesIn from (to - from)) cs
  inside_between w from to cs start end are = rw (start, end) (contents_inside w cs are)

  pub whole_between : (w : Bool) (from to : ℕ) → from ≡ file_start mode inputs w → to ≡ file_end mode inputs w → All (IsWordWhole from (to - from)) (words_of mode inputs)
  whole_between w from to start end = rw (start, end) (words_whole w)
