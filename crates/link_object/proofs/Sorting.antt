-- A stable sort by site gives what putting each before the first that isn't smaller gives.
use Rattle.std.proofs.Common.{◌≡◌, ℕ, zero, suc, ◌<◌, ◌≤◌, Bool, true, false, cond, List, [], ◌∷◌, length, get_or, filter, nat_cmp, is_lt, refl, sym, ap, ◌∙◌, arith, inl, inr, suc-le-suc, zero-le}
use Rattle.std.specs.Prelude.{nat_le}
use Rattle.std.proofs.lemmas.Bool.{cond-true, cond-false, cases_Bool}
use Rattle.std.proofs.lemmas.Bool.Decides.{nat_tests}
use Rattle.std.specs.List.Sorted.{ties, IsNonDecreasingBy, IsStableByKey}
use Rattle.elf_model.specs.declared.object.Rel.{Rel}
use Rattle.link_model.specs.DynamicRels.{put_by_site, by_site}

abbrev pub site : Rel → ℕ
site r = r.site

-- ---- relocations of one site

abbrev same_site : Rel → Rel → Bool
same_site = ties (λ x y. is_lt (nat_cmp (site x) (site y)))

ties_at : (m n : ℕ) → (ties (λ x y. is_lt (nat_cmp x y)) m n ≡ true → m ≡ n) × (m ≡ n → ties (λ x y. is_lt (nat_cmp x y)) m n ≡ true)
ties_at m n = (λ h. grind (arith, nat_tests), λ h. grind (arith, nat_tests))

one_site : (x y : Rel) → same_site x y ≡ true → site x ≡ site y
one_site x y = (ties_at (site x) (site y)).0

of_one_site : (x y : Rel) → site x ≡ site y → same_site x y ≡ true
of_one_site x y = (ties_at (site x) (site y)).1

kept : (p : Rel → Bool) (y : Rel) (ys : List Rel) → p y ≡ true → filter p (y ∷ ys) ≡ y ∷ filter p ys
kept p y ys h = cond-true _ _ _ h

dropped : (p : Rel → Bool) (y : Rel) (ys : List Rel) → p y ≡ false → filter p (y ∷ ys) ≡ filter p ys
dropped p y ys h = cond-false _ _ _ h

-- ---- those of a site keep their order

put_keeps : (q r : Rel) (xs : List Rel) → filter (same_site q) (put_by_site r xs) ≡ filter (same_site q) (r ∷ xs)
put_keeps q r [] = refl
put_keeps q r (x ∷ xs) = by (nat_le (site r) (site x)) refl (put_keeps q r xs)
  where
    by : (b : Bool) → nat_le (site r) (site x) ≡ b → filter (same_site q) (put_by_site r xs) ≡ filter (same_site q) (r ∷ xs) → filter (same_site q) (put_by_site r (x ∷ xs)) ≡ filter (same_site q) (r ∷ x ∷ xs)
    by true e more = ap (λ b. filter (same_site q) (cond b (r ∷ x ∷ xs) (x ∷ put_by_site r xs))) e
    by false e more =
        ap (λ b. filter (same_site q) (cond b (r ∷ x ∷ xs) (x ∷ put_by_site r xs))) e
        ∙ elim (cases_Bool (same_site q x)) [
          | inr without ↦
              dropped (same_site q) x (put_by_site r xs) without ∙ more
              ∙ ap (λ l. cond (same_site q r) (r ∷ l) l) (sym (dropped (same_site q) x xs without))
          | inl with ↦
              elim (cases_Bool (same_site q r)) [
                | inl both ↦
                    let above : site x < site r = grind (arith, nat_tests) in
                    absurd (omega (arith, above, one_site q r both, one_site q x with))
                | inr only ↦
                    kept (same_site q) x (put_by_site r xs) with ∙ ap (λ l. x ∷ l) (more ∙ dropped (same_site q) r xs only)
                    ∙ sym (dropped (same_site q) r (x ∷ xs) only ∙ kept (same_site q) x xs with)
              ]
        ]

by_site_keeps : (q : Rel) (rs : List Rel) → filter (same_site q) (by_site rs) ≡ filter (same_site q) rs
by_site_keeps q [] = refl
by_site_keeps q (r ∷ rs) = put_keeps q r (by_site rs) ∙ ap (λ l. cond (same_site q r) (r ∷ l) l) (by_site_keeps q rs)

-- ---- by rising site

abbrev AreFrom : ℕ → List Rel → Type 0
AreFrom n [] = Unit {0}
AreFrom n (y ∷ ys) = (n ≤ site y) × AreFrom n ys

abbrev Rise : List Rel → Type 0
Rise [] = Unit {0}
Rise (y ∷ ys) = AreFrom (site y) ys × Rise ys

from_less : (n m : ℕ) (ys : List Rel) → n ≤ m → AreFrom m ys → AreFrom n ys
from_less n m [] le h = tt
from_less n m (y ∷ ys) le h = let first = h.0 in (omega arith, from_less n m ys le h.1)

from_each : (n : ℕ) (ys : List Rel) → ((j : ℕ) (d : Rel) → j < length ys → n ≤ site (get_or ys j d)) → AreFrom n ys
from_each n [] h = tt
from_each n (y ∷ ys) h = (h zero y (suc-le-suc zero-le), from_each n ys (λ j d lt. h (suc j) d (suc-le-suc lt)))

rise_sorted : (ys : List Rel) → IsNonDecreasingBy site ys → Rise ys
rise_sorted [] h = tt
rise_sorted (y ∷ ys) h = (
  from_each (site y) ys (λ j d lt. h zero (suc j) d zero-le (suc-le-suc lt)),
  rise_sorted ys (λ i j d le lt. h (suc i) (suc j) d (suc-le-suc le) (suc-le-suc lt)),
)

from_put : (n : ℕ) (r : Rel) (xs : List Rel) → n ≤ site r → AreFrom n xs → AreFrom n (put_by_site r xs)
from_put n r [] le h = (le, tt)
from_put n r (x ∷ xs) le h = by (nat_le (site r) (site x)) (from_put n r xs le h.1)
  where
    by : (b : Bool) → AreFrom n (put_by_site r xs) → AreFrom n (cond b (r ∷ x ∷ xs) (x ∷ put_by_site r xs))
    by true more = (le, h)
    by false more = (h.0, more)

rise_put : (r : Rel) (xs : List Rel) → Rise xs → Rise (put_by_site r xs)
rise_put r [] h = (tt, tt)
rise_put r (x ∷ xs) h = by (nat_le (site r) (site x)) refl (rise_put r xs h.1)
  where
    by : (b : Bool) → nat_le (site r) (site x) ≡ b → Rise (put_by_site r xs) → Rise (cond b (r ∷ x ∷ xs) (x ∷ put_by_site r xs))
    by true e more =
        let le : site r ≤ site x = grind (arith, nat_tests) in
        ((le, from_less (site r) (site x) xs le h.0), h)
    by false e more =
        let lt : site x < site r = grind (arith, nat_tests) in
        (from_put (site x) r xs (omega (arith, lt)) h.0, more)

rise_by_site : (rs : List Rel) → Rise (by_site rs)
rise_by_site [] = tt
rise_by_site (r ∷ rs) = rise_put r (by_site rs) (rise_by_site rs)

-- ---- two lists that rise and have the same of each site are one

from_found : (n : ℕ) (x : Rel) (ys : List Rel) (w : Rel) (ws : List Rel) → AreFrom n ys → filter (same_site x) ys ≡ w ∷ ws → n ≤ site x
from_found n x [] w ws h e = cc
from_found n x (y ∷ ys) w ws h e =
    elim (cases_Bool (same_site x y)) [
      | inl with ↦ omega (arith, h.0, one_site x y with)
      | inr without ↦ from_found n x ys w ws h.1 (sym (dropped (same_site x) y ys without) ∙ e)
    ]

one_list : (ys zs : List Rel) → Rise ys → Rise zs → ((x : Rel) → filter (same_site x) ys ≡ filter (same_site x) zs) → ys ≡ zs
one_list [] [] left right same = refl
one_list [] (z ∷ zs) left right same = let clash = same z ∙ kept (same_site z) z zs (of_one_site z z refl) in cc
one_list (y ∷ ys) [] left right same = let clash = sym (same y) ∙ kept (same_site y) y ys (of_one_site y y refl) in cc
one_list (y ∷ ys) (z ∷ zs) left right same =
    let at_y = kept (same_site y) y ys (of_one_site y y refl) in
    let at_z = kept (same_site z) z zs (of_one_site z z refl) in
    let up = from_found (site z) y (z ∷ zs) y _ (omega arith, right.0) (sym (same y) ∙ at_y) in
    let down = from_found (site y) z (y ∷ ys) z _ (omega arith, left.0) (same z ∙ at_z) in
    let heads = sym at_y ∙ same y ∙ kept (same_site y) z zs (of_one_site y z (omega arith)) in
    let head : y ≡ z = cc in
    let tails : (x : Rel) → filter (same_site x) ys ≡ filter (same_site x) zs =
    λ x. elim (cases_Bool (same_site x y)) [
      | inl with ↦ let both = sym (kept (same_site x) y ys with) ∙ same x ∙ kept (same_site x) z zs (ap (same_site x) (sym head) ∙ with) in cc
      | inr without ↦ sym (dropped (same_site x) y ys without) ∙ same x ∙ dropped (same_site x) z zs (ap (same_site x) (sym head) ∙ without)
    ] in
    ap (λ w. w ∷ ys) head ∙ ap (λ l. z ∷ l) (one_list ys zs left.1 right.1 tails)

pub sorted_is : (xs ys : List Rel) → IsNonDecreasingBy site ys → IsStableByKey site nat_cmp xs ys → ys ≡ by_site xs
sorted_is xs ys sorted stable = one_list ys (by_site xs) (rise_sorted ys sorted) (rise_by_site xs) (λ q. stable q ∙ sym (by_site_keeps q xs))
