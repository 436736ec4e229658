-- What has been looked up, of one relocation more.
use Rattle.std.proofs.Common.{◌≡◌, ℕ, ◌+◌, ◌≤◌, List, [], ◌∷◌, ◌++◌, length, take, None, Some, refl, ap, sym, subst, ◌∙◌, arith}
use Rattle.std.specs.Prelude.{slice_get}
use Rattle.std.specs.List.{flat_map}
use Rattle.std.proofs.lemmas.List.{append-nil, append_assoc, take_all}
use Rattle.std.proofs.lemmas.List.Elements.{All-push}
use Rattle.fd_base.proofs.Lists.{zip_push}
use Rattle.elf_model.specs.declared.object.Rel.{Rel}
use Rattle.elf_model.specs.declared.relocatable.RelObject.{RelObject}
use Rattle.elf_model.specs.Test.{first_failing}
use Rattle.link_model.specs.declared.input.Mode.{Mode}
use Rattle.link_model.specs.Inputs.{InputSection, InputRel, rels_in}
use Rattle.link_model.specs.SiteTests.{site_tests}
use Rattle.link_words.specs.declared.facts.Facts.{Facts}
use Rattle.link_words.specs.parts.Facts.{AreFacts, AreNear}
use Rattle.link_checks.specs.parts.Found.{AreFound}
use Rattle.link_checks.proofs.Passing.{taken}
use Rattle.link_checks.proofs.Sections.{rel_at, rel_count}

module _ (mode : Mode) (inputs : List RelObject) where
  one_found : (xs : List InputRel) (fs : List Facts) (x : InputRel) (f : Facts) → AreFound mode inputs xs fs → AreFacts mode inputs x f
      → AreNear f → AreFound mode inputs (xs ++ x ∷ []) (fs ++ f ∷ [])
  one_found xs fs x f are is near = record { each = zip_push (AreFacts mode inputs) xs fs x f are.each is; near = All-push AreNear fs f are.near near }

  -- the next of a section, behind others
  pub next_found : (x : InputSection) (k : ℕ) (r : Rel) (others : List InputRel) (old new : List Facts) (f : Facts)
      → slice_get (x.section).rels k ≡ Some r → AreFound mode inputs (others ++ take k (rels_in x)) old
      → AreFacts mode inputs (record { at = x; place = k; rel = r }) f → AreNear f → new ≡ old ++ f ∷ [] → AreFound mode inputs (others ++ take (k + 1) (rels_in x)) new
  next_found x k r others old new f there are is near put =
      let y : InputRel = record { at = x; place = k; rel = r } in
      let zs = rels_in x in
      let more : (others ++ take k zs) ++ y ∷ [] ≡ others ++ take (k + 1) zs = append_assoc others (take k zs) (y ∷ []) ∙ ap (λ ys. others ++ ys) (sym (taken zs k y (rel_at x k r there))) in
      subst (λ ys. AreFound mode inputs ys new) more (subst (AreFound mode inputs ((others ++ take k zs) ++ y ∷ [])) (sym put) (one_found (others ++ take k zs) old y f are is near))

  -- all of a section without any
  pub none_found : (x : InputSection) (others : List InputRel) (fs : List Facts) → length (x.section).rels ≡ 0 → AreFound mode inputs others fs
      → (first_failing (flat_map (site_tests mode inputs) (rels_in x)) ≡ None) × AreFound mode inputs (others ++ rels_in x) fs
  none_found x others fs none are = by (rels_in x) (rel_count x ∙ none)
    where
      by : (xs : List InputRel) → length xs ≡ 0
          → (first_failing (flat_map (site_tests mode inputs) xs) ≡ None) × AreFound mode inputs (others ++ xs) fs
      by [] is = (refl, subst (λ ys. AreFound mode inputs ys fs) (sym (append-nil others)) are)
      by (y ∷ ys) is = absurd (omega (arith, is))

  -- all of a section
  pub all_found : (x : InputSection) (k : ℕ) (others : List InputRel) (fs : List Facts) → length (x.section).rels ≤ k
      → first_failing (flat_map (site_tests mode inputs) (take k (rels_in x))) ≡ None
      → AreFound mode inputs (others ++ take k (rels_in x)) fs → (first_failing (flat_map (site_tests mode inputs) (rels_in x)) ≡ None) × AreFound mode inputs (others ++ rels_in x) fs
  all_found x k others fs past passed are =
      let all : take k (rels_in x) ≡ rels_in x = take_all k (rels_in x) (omega (arith, past, rel_count x)) in
      (ap (λ ys. first_failing (flat_map (site_tests mode inputs) ys)) (sym all) ∙ passed, subst (λ ys. AreFound mode inputs (others ++ ys) fs) all are)
