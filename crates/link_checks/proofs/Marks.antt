-- The marks of the bytes that relocations change.
use Rattle.std.proofs.Common.{◌≡◌, ℕ, ◌+◌, ◌≤◌, Bool, true, false, not, ◌&&◌, ◌||◌, List, [], ◌∷◌, length, get_or, refl, ap, sym, ◌∙◌, arith}
use Rattle.std.specs.Prelude.{nat_lt}
use Rattle.std.specs.List.{list_any}
use Rattle.std.proofs.lemmas.Bool.Decides.{nat_tests}
use Rattle.elf_model.specs.declared.object.Rel.{Rel}
use Rattle.fd_base.specs.Ranges.{is_in}
use Rattle.link_model.specs.Needs.{is_idle}
use Rattle.link_checks.specs.parts.Covered.{changes, meets, meets_any, AreMarked}

-- ---- two words share a byte where the first or the last byte of one is in the other

shared : (a b : ℕ) → (nat_lt a (b + 4) && nat_lt b (a + 4)) ≡ (is_in a 4 b || is_in a 4 (b + 3))
shared a b = grind (arith, nat_tests)

either : (idle a b c : Bool) → c ≡ (a || b) → (idle && c) ≡ ((idle && a) || (idle && b))
either true a b c is = is
either false a b c is = refl

met : (r e : Rel) → meets r e ≡ (changes r.site e || changes (r.site + 3) e)
met r e = either (not (is_idle e.kind)) (is_in e.site 4 r.site) (is_in e.site 4 (r.site + 3)) (nat_lt e.site (r.site + 4) && nat_lt r.site (e.site + 4)) (shared e.site r.site)

regrouped : (a b c d : Bool) → ((a || b) || (c || d)) ≡ ((a || c) || (b || d))
regrouped true b c d = refl
regrouped false true true d = refl
regrouped false true false d = refl
regrouped false false true d = refl
regrouped false false false d = refl

met_where_marked : (r : Rel) (es : List Rel) → list_any (meets r) es ≡ (list_any (changes r.site) es || list_any (changes (r.site + 3)) es)
met_where_marked r [] = refl
met_where_marked r (e ∷ es) =
    (λ i. met r e i || met_where_marked r es i)
    ∙ regrouped (changes r.site e) (changes (r.site + 3) e) (list_any (changes r.site) es) (list_any (changes (r.site + 3)) es)

-- what the marks tell
module _ (r : Rel) (es : List Rel) (marks read : List Bool) (are : AreMarked es marks) (same : read ≡ marks) (inside : r.site + 4 ≤ length marks) (idle : is_idle r.kind ≡ false) where
  told : meets_any r es ≡ (get_or read r.site false || get_or read (r.site + 3) false)
  told =
      ap (λ b. not b && list_any (meets r) es) idle ∙ met_where_marked r es
      ∙ (λ i. sym (are.each r.site (omega arith)) i || sym (are.each (r.site + 3) (omega arith)) i)
      ∙ (λ i. get_or (sym same i) r.site false || get_or (sym same i) (r.site + 3) false)

  pub told_first : get_or read r.site false ≡ true → get_or read r.site false ≡ meets_any r es
  told_first marked = marked ∙ sym (told ∙ ap (λ b. b || get_or read (r.site + 3) false) marked)

  pub told_last : get_or read r.site false ≡ false → get_or read (r.site + 3) false ≡ meets_any r es
  told_last free = sym (told ∙ ap (λ b. b || get_or read (r.site + 3) false) free)
