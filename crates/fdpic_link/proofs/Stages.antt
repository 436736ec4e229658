-- What a link answers from what its stages answer.
use Rattle.std.proofs.Common.{◌≡◌, sym, ap, ◌∙◌, ℕ, List, ◌++◌, Some, None, Result, Ok, Err, append_assoc}
use Rattle.std.specs.Prelude.{flat_map}
use Rattle.elf_model.specs.declared.object.Object.{Object}
use Rattle.elf_model.specs.declared.relocatable.RelObject.{RelObject}
use Rattle.elf_model.specs.Test.{first_failing}
use Rattle.elf_model.proofs.Tests.{passed_over, fails_first}
use Rattle.elf_write.specs.ObjectFile.{object_file}
use Rattle.link_model.specs.declared.error.LinkErr.{LinkErr}
use Rattle.link_model.specs.declared.error.LinkErr.TheVariants.{Refused, Memory}
use Rattle.link_model.specs.declared.error.LinkRefusal.{LinkRefusal}
use Rattle.link_model.specs.declared.input.Lib.{Lib}
use Rattle.link_model.specs.declared.input.Mode.{Mode}
use Rattle.link_model.specs.Inputs.{all_rels}
use Rattle.link_model.specs.Needs.{need_tests}
use Rattle.link_model.specs.Object.{object_of}
use Rattle.link_model.specs.Refusals.{WrittenSizes, entry_tests, size_tests, refusal_of, tests}
use Rattle.link_model.specs.SiteTests.{site_tests}
use Rattle.link_model.specs.Targets.{all_name_tests, LinkTest}
use Rattle.link_model.specs.parts.Passes.{Gives, IsRefusal}
use Rattle.link_writes.specs.Linked.{written_sizes}
use Rattle.fdpic_link.specs.parts.Links.{Links, IsAnswer}
use Rattle.fdpic_link.specs.parts.Large.{needed_tests, table_tests, file_tests}
use Rattle.fdpic_link.specs.parts.Stages.{early_tests}

-- ---- lists of tests

-- tests behind others that hold
behind : (e : LinkErr) (xs ys : List LinkTest) → first_failing xs ≡ None → IsRefusal e ys → IsRefusal e (xs ++ ys)
behind (Refused r) xs ys holds h = passed_over xs ys holds ∙ h
behind Memory xs ys holds h = tt

-- tests before others
before : (e : LinkErr) (xs ys : List LinkTest) → IsRefusal e xs → IsRefusal e (xs ++ ys)
before (Refused r) xs ys h = fails_first xs ys r h
before Memory xs ys h = tt

regroup : (a b c d s : List LinkTest) → ((a ++ b) ++ (c ++ d)) ++ s ≡ a ++ (b ++ (c ++ (d ++ s)))
regroup a b c d s =
    append_assoc (a ++ b) (c ++ d) s
    ∙ append_assoc a b ((c ++ d) ++ s)
    ∙ ap (λ x. a ++ (b ++ x)) (append_assoc c d s)

-- ---- those of a link

module _ (mode : Mode) (soname : List ℕ) (inputs : List RelObject) (libs : List Lib) where
  abbrev o : Object
  o = object_of mode soname inputs libs

  pub early_first : (w : WrittenSizes) → early_tests mode inputs ++ size_tests w mode o libs ≡ tests w mode soname inputs libs
  unfolding tests
  early_first w =
      regroup (all_name_tests mode inputs) (need_tests mode inputs) (flat_map (site_tests mode inputs) (all_rels inputs)) (entry_tests mode inputs)
      (size_tests w mode o libs)

  refused : (e : LinkErr) → IsRefusal e (early_tests mode inputs ++ size_tests written_sizes mode o libs) → Links mode soname inputs libs (Err e)
  refused (Refused r) h = ap first_failing (sym (early_first written_sizes)) ∙ h
  refused Memory h = tt

  -- by a test before those of sizes
  pub early_refused : (e : LinkErr) → IsRefusal e (early_tests mode inputs) → Links mode soname inputs libs (Err e)
  early_refused e h = refused e (before e (early_tests mode inputs) (size_tests written_sizes mode o libs) h)

  module _ (early : first_failing (early_tests mode inputs) ≡ None) where
    -- by a test of sizes
    pub size_refused : (e : LinkErr) → IsRefusal e (size_tests written_sizes mode o libs) → Links mode soname inputs libs (Err e)
    size_refused e h = refused e (behind e (early_tests mode inputs) (size_tests written_sizes mode o libs) early h)

    -- by that of libraries
    pub needed_refused : (e : LinkErr) → IsRefusal e (needed_tests mode libs) → Links mode soname inputs libs (Err e)
    needed_refused e h = size_refused e (before e (needed_tests mode libs) (table_tests o ++ file_tests o) h)

    -- by those of tables and of the file, or by none
    pub written : first_failing (needed_tests mode libs) ≡ None → (a : Result (List ℕ) LinkErr) → Gives a (table_tests o ++ file_tests o) (λ bytes. bytes ≡ object_file o)
        → Links mode soname inputs libs a
    written needed (Ok bytes) h = (
      ap first_failing (sym (early_first written_sizes)) ∙ passed_over (early_tests mode inputs) (size_tests written_sizes mode o libs) early
          ∙ passed_over (needed_tests mode libs) (table_tests o ++ file_tests o) needed ∙ h.0,
      h.1,
    )
    written needed (Err e) h = size_refused e (behind e (needed_tests mode libs) (table_tests o ++ file_tests o) needed h)

  -- ---- one answer for each link

  pub only : (a : Result (List ℕ) LinkErr) → Links mode soname inputs libs a → refusal_of written_sizes mode soname inputs libs ≡ None → IsAnswer a (Ok (object_file o))
  only (Ok bytes) h none = ap Ok h.1
  only (Err (Refused r)) h none = let never : Some r ≡ None = sym h ∙ none in absurd cc
  only (Err Memory) h none = tt

  pub first : (a : Result (List ℕ) LinkErr) → Links mode soname inputs libs a → (r : LinkRefusal) → refusal_of written_sizes mode soname inputs libs ≡ Some r → IsAnswer a (Err (Refused r))
  first (Ok bytes) h r some = let never : Some r ≡ None = sym some ∙ h.0 in absurd cc
  first (Err (Refused s)) h r some =
      let both : Some s ≡ Some r = sym h ∙ some in
      let same : s ≡ r = cc in
      ap (λ x. Err (Refused x)) same
  first (Err Memory) h r some = tt
