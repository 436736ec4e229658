-- The sections of accepted files.
use Rattle.std.proofs.Common.{◌≡◌, ℕ, zero, suc, ◌+◌, ◌≤◌, List, [], ◌∷◌, map, length, Some, All, refl, ap, ◌∙◌, arith}
use Rattle.std.specs.Prelude.{slice_get}
use Rattle.std.specs.List.{enumerate_from}
use Rattle.fd_base.proofs.Members.{all_contained}
use Rattle.std.proofs.lemmas.List.Elements.{All-contains}
use Rattle.elf_model.specs.declared.object.Rel.{Rel}
use Rattle.elf_model.specs.declared.relocatable.RelObject.{RelObject}
use Rattle.elf_model.specs.RelSound.{IsRelSound, IsRelSoundIn, filled_size}
use Rattle.link_model.specs.Inputs.{InputSection, InputRel, sections_of, rels_in}
use Rattle.link_model.proofs.Numbering.{section_sound}
use Rattle.link_checks.specs.parts.Sited.{HasWordsInside}

module _ (inputs : List RelObject) where
  -- the words of its relocations are among its bytes
  pub words_inside : All IsRelSound inputs → All HasWordsInside (sections_of inputs)
  words_inside sound = all_contained HasWordsInside (sections_of inputs) (λ x there.
      let s = section_sound inputs sound x there in
      all_contained (λ r. r.site + 4 ≤ length (x.section).filled) (x.section).rels (λ r in'.
      let one = All-contains (IsRelSoundIn (filled_size x.section) s.0) (x.section).rels r (s.1).fills in' in
      omega (arith, one.inside, (s.1).filled')))

-- a relocation of a section stands at its place
module _ (x : InputSection) where
  abbrev placed : ℕ × Rel → InputRel
  placed e = record { at = x; place = e.0; rel = e.1 }

  placed_at : (n k : ℕ) (rs : List Rel) (r : Rel) → slice_get rs k ≡ Some r
      → slice_get (map placed (enumerate_from n rs)) k ≡ Some (placed (n + k, r))
  placed_at n k [] r is = absurd cc
  placed_at n zero (s ∷ rs) r is =
      let same : s ≡ r = cc in
      let place : n ≡ n + 0 = omega arith in
      λ i. Some (placed (place i, same i))
  placed_at n (suc k) (s ∷ rs) r is =
      let place : n + 1 + k ≡ n + suc k = omega arith in
      placed_at (n + 1) k rs r is ∙ ap (λ m. Some (placed (m, r))) place

  pub rel_at : (k : ℕ) (r : Rel) → slice_get (x.section).rels k ≡ Some r → slice_get (rels_in x) k ≡ Some (placed (k, r))
  rel_at k r there =
      let place : 0 + k ≡ k = omega arith in
      placed_at 0 k (x.section).rels r there ∙ ap (λ m. Some (placed (m, r))) place

  placed_size : (n : ℕ) (rs : List Rel) → length (map placed (enumerate_from n rs)) ≡ length rs
  placed_size n [] = refl
  placed_size n (r ∷ rs) = ap suc (placed_size (n + 1) rs)

  pub rel_count : length (rels_in x) ≡ length (x.section).rels
  rel_count = placed_size 0 (x.section).rels
