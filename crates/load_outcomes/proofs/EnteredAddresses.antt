-- The addresses of descriptors, with those that a load adds.
use Rattle.std.proofs.Common.{◌≡◌, ℕ, ◌⊎◌, inl, inr, true, false, cond, List, [], ◌∷◌, ◌++◌, Some, refl, sym, ap, ◌∙◌}
use Rattle.std.specs.Prelude.{option_map}
use Rattle.std.specs.FinMap.{entries, find as first_value, from_entries, get, get-entries, get-from_entries}
use Rattle.std.specs.List.{find}
use Rattle.std.specs.Option.{option_or}
use Rattle.std.specs.Ordering.{eq_by_cmp}
use Rattle.std.proofs.lemmas.Bool.{cases_Bool, false≢true}
use Rattle.elf_model.specs.declared.func.Func.{Func}
use Rattle.func_desc.specs.Functions.{AddrMap, func_cmp}
use Rattle.func_desc.proofs.Values.{find-append, func_total, tied_func, tied_self}
use Rattle.load_laws.proofs.ListedDescriptors.{same_decides}
use Rattle.load_model.specs.Descriptors.{descriptors_after, is_same_func, listed_addr}

-- functions are the same exactly where they tie in their order
same_tied : (f g : Func) → eq_by_cmp func_cmp f g ≡ is_same_func f g
same_tied f g = by (cases_Bool (is_same_func f g)) (cases_Bool (eq_by_cmp func_cmp f g))
  where
    by : (is_same_func f g ≡ true) ⊎ (is_same_func f g ≡ false) → (eq_by_cmp func_cmp f g ≡ true) ⊎ (eq_by_cmp func_cmp f g ≡ false) → eq_by_cmp func_cmp f g ≡ is_same_func f g
    by (inl same) (inl tied) = tied ∙ sym same
    by (inl same) (inr apart) = absurd (false≢true (sym apart ∙ ap (λ h. eq_by_cmp func_cmp h g) ((same_decides f g).0 same) ∙ tied_self g))
    by (inr other) (inl tied) = absurd (false≢true (sym other ∙ (same_decides f g).1 (tied_func f g tied)))
    by (inr other) (inr apart) = apart ∙ sym other

first_listed : (f : Func) (es : List (Func × ℕ)) → first_value func_cmp f es ≡ listed_addr es f
first_listed f [] = refl
first_listed f (e ∷ es) =
    ap (λ b. cond b (Some e.1) (first_value func_cmp f es)) (same_tied f e.0)
    ∙ (elim (is_same_func f e.0) as (λ b.
    cond b (Some e.1) (first_value func_cmp f es) ≡ option_map (λ (y : Func × ℕ). y.1) (cond b (Some e) (find (λ y. is_same_func f y.0) es))) [
      | true ↦ refl
      | false ↦ first_listed f es
    ])

pub entered : AddrMap → List (Func × ℕ) → List (Func × ℕ) → AddrMap
entered had adopted given = from_entries (entries had ++ (adopted ++ given))

pub entered_addr : (had : AddrMap) (adopted given : List (Func × ℕ)) (f : Func) → get (entered had adopted given) f ≡ descriptors_after (get had) adopted given f
unfolding entered
entered_addr had adopted given f =
    get-from_entries func_total (entries had ++ (adopted ++ given)) f
    ∙ find-append f (entries had) (adopted ++ given)
    ∙ ap (λ o. option_or o (first_value func_cmp f (adopted ++ given))) (sym (get-entries had f))
    ∙ ap (option_or (get had f)) (find-append f adopted given)
    ∙ ap (λ o. option_or (get had f) (option_or o (first_value func_cmp f given))) (first_listed f adopted)
    ∙ ap (λ o. option_or (get had f) (option_or (listed_addr adopted f) o)) (first_listed f given)
