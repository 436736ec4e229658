-- Functions, each once.
use Rattle.std.proofs.Common.{◌≡◌, ℕ, ◌+◌, ◌<◌, Bool, true, false, cond, ◌==◌, ◌||◌, List, [], ◌∷◌, ◌++◌, map, take, length, get_or, refl, sym, ap, ◌∙◌}
use Rattle.std.specs.List.{list_any, find}
use Rattle.std.proofs.lemmas.Bool.{and_parts, eqb-true}
use Rattle.std.proofs.lemmas.List.{take_more, map-append}
use Rattle.std.proofs.lemmas.List.Folds.{list_any-append}
use Rattle.fd_base.proofs.Options.{is_some-cond}
use Rattle.elf_model.specs.declared.func.Func.{Func}
use Rattle.symbol_scope.specs.Closure.{has, with_one}
use Rattle.load_model.specs.Descriptors.{is_same_func, is_listed}
use Rattle.load_sites.specs.parts.Funcs.{func_of}

pub same_func : (f g : Func) → is_same_func f g ≡ true → f ≡ g
same_func f g is =
    let parts = and_parts (f.module == g.module) (f.value == g.value) is in
    let modules = eqb-true f.module g.module parts.0 in
    let values = eqb-true f.value g.value parts.1 in
    λ i. record { «module» = modules i; value = values i }

-- ---- keys

pub has_key : (test : Func → Bool) (keys : List (ℕ × ℕ)) → list_any (λ y. test (func_of y)) keys ≡ list_any test (map func_of keys)
has_key test [] = refl
has_key test (k ∷ ks) = ap (λ b. test (func_of k) || b) (has_key test ks)

one_more : (keys : List (ℕ × ℕ)) (f : Func) (b : Bool) → map func_of (cond b keys (keys ++ (f.module, f.value) ∷ [])) ≡ cond b (map func_of keys) (map func_of keys ++ f ∷ [])
one_more keys f true = refl
one_more keys f false = map-append func_of keys ((f.module, f.value) ∷ [])

pub entered : (keys : List (ℕ × ℕ)) (f : Func)
    → map func_of (cond (list_any (λ y. is_same_func f (func_of y)) keys) keys (keys ++ (f.module, f.value) ∷ [])) ≡ with_one is_same_func (map func_of keys) f
entered keys f =
    one_more keys f (list_any (λ y. is_same_func f (func_of y)) keys)
    ∙ ap (λ b. cond b (map func_of keys) (map func_of keys ++ f ∷ [])) (has_key (is_same_func f) keys)

-- ---- entries

or_true : (b : Bool) → (b || true) ≡ true
or_true true = refl
or_true false = refl

or_false : (b : Bool) → (b || false) ≡ b
or_false true = refl
or_false false = refl

or_taken : (a b : Bool) → (b ≡ true → a ≡ true) → a ≡ (a || b)
or_taken a true h = h refl ∙ sym (or_true a)
or_taken a false h = sym (or_false a)

has_one : (xs : List Func) (x f : Func) (b : Bool) → has is_same_func xs x ≡ b → has is_same_func (cond b xs (xs ++ x ∷ [])) f ≡ (has is_same_func xs f || is_same_func f x)
has_one xs x f true there = or_taken (has is_same_func xs f) (is_same_func f x) (λ same. ap (has is_same_func xs) (same_func f x same) ∙ there)
has_one xs x f false there = list_any-append (is_same_func f) xs (x ∷ []) ∙ ap (λ b. has is_same_func xs f || b) (or_false (is_same_func f x))

listed_by_any : {X : Type 0} (entries : List (Func × X)) (f : Func) → is_listed entries f ≡ list_any (λ e. is_same_func f e.0) entries
listed_by_any [] f = refl
listed_by_any (e ∷ es) f = is_some-cond (is_same_func f e.0) e (find (λ x. is_same_func f x.0) es) ∙ ap (λ b. is_same_func f e.0 || b) (listed_by_any es f)

-- an entry more
pub listed_more : {X : Type 0} (funcs : List Func) (entries : List (Func × X)) (i : ℕ) (d : Func × X) → i < length entries
    → ((f : Func) → has is_same_func funcs f ≡ is_listed (take i entries) f)
    → (f : Func) → has is_same_func (with_one is_same_func funcs (get_or entries i d).0) f ≡ is_listed (take (i + 1) entries) f
listed_more funcs entries i d lt before f =
    let e = get_or entries i d in
    has_one funcs e.0 f (has is_same_func funcs e.0) refl
    ∙ ap (λ b. b || is_same_func f e.0) (before f ∙ listed_by_any (take i entries) f)
    ∙ ap (λ b. list_any (λ x. is_same_func f x.0) (take i entries) || b) (sym (or_false (is_same_func f e.0)))
    ∙ sym (list_any-append (λ x. is_same_func f x.0) (take i entries) (e ∷ []))
    ∙ ap (list_any (λ x. is_same_func f x.0)) (sym (take_more entries i d lt))
    ∙ sym (listed_by_any (take (i + 1) entries) f)
