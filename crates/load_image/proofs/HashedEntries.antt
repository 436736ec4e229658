-- One more function in a hashed table.
use Rattle.std.proofs.Common.{◌≡◌, ℕ, ◌+◌, ◌<◌, Bool, true, false, cond, eqb, List, [], ◌∷◌, ◌++◌, length, get_or, take, Option, Some, None, refl, sym, ap, subst, ◌∙◌, inl, inr}
use Rattle.std.specs.Prelude.{find, is_some, option_map}
use Rattle.std.specs.HashMap.{get}
use Rattle.std.specs.Option.{option_or}
use Rattle.std.proofs.lemmas.Bool.{cases_Bool, and_parts, eqb-true, eq-eqb, and_from}
use Rattle.std.proofs.lemmas.List.{take_more}
use Rattle.fd_base.proofs.Options.{none_of, or_assoc}
use Rattle.elf_model.specs.declared.func.Func.{Func}
use Rattle.load_model.specs.Descriptors.{is_same_func, listed_addr}
use Rattle.load_image.specs.parts.Table.{Hashed, is_same_key, hashed_addr}

same_of_key : (f q : Func) → is_same_key (f.module, f.value) (q.module, q.value) ≡ true → is_same_func q f ≡ true
same_of_key f q h =
    let parts = and_parts (eqb f.module q.module) (eqb f.value q.value) h in
    and_from (eqb q.module f.module) (eqb q.value f.value) (eq-eqb q.module f.module (sym (eqb-true f.module q.module parts.0))) (eq-eqb q.value f.value (sym (eqb-true f.value q.value parts.1)))

key_of_same : (f q : Func) → is_same_func q f ≡ true → is_same_key (f.module, f.value) (q.module, q.value) ≡ true
key_of_same f q h =
    let parts = and_parts (eqb q.module f.module) (eqb q.value f.value) h in
    and_from (eqb f.module q.module) (eqb f.value q.value) (eq-eqb f.module q.module (sym (eqb-true q.module f.module parts.0))) (eq-eqb f.value q.value (sym (eqb-true q.value f.value parts.1)))

key_is_same : (f q : Func) → is_same_key (f.module, f.value) (q.module, q.value) ≡ is_same_func q f
key_is_same f q =
    elim (cases_Bool (is_same_func q f)) [
      | inl h ↦ key_of_same f q h ∙ sym h
      | inr h ↦ elim (cases_Bool (is_same_key (f.module, f.value) (q.module, q.value))) [
        | inl k ↦ let yes = same_of_key f q k in absurd cc
        | inr k ↦ k ∙ sym h
      ]
    ]

-- one function has one address
same_addr : (table : Hashed) (f q : Func) → is_same_func q f ≡ true → hashed_addr table q ≡ hashed_addr table f
same_addr table f q h =
    let parts = and_parts (eqb q.module f.module) (eqb q.value f.value) h in
    let first = eqb-true q.module f.module parts.0 in
    let second = eqb-true q.value f.value parts.1 in
    ap (λ n. hashed_addr table (record { «module» = n; value = q.value })) first ∙ ap (λ n. hashed_addr table (record { «module» = f.module; value = n })) second

or_none : (o : Option ℕ) → o ≡ option_or o None
or_none None = refl
or_none (Some x) = refl

-- a function that had no address is entered
pub entered : (old new : Hashed) (f : Func) (addr : ℕ) (had : Option ℕ) → had ≡ hashed_addr old f → is_some had ≡ false
    → ((k : ℕ × ℕ) → get is_same_key new k ≡ cond (is_same_key (f.module, f.value) k) (Some addr) (get is_same_key old k))
    → (q : Func) → hashed_addr new q ≡ option_or (hashed_addr old q) (cond (is_same_func q f) (Some addr) None)
entered old new f addr had is none updates q =
    let now : hashed_addr new q ≡ cond (is_same_func q f) (Some addr) (hashed_addr old q) =
    updates (q.module, q.value) ∙ ap (λ b. cond b (Some addr) (hashed_addr old q)) (key_is_same f q) in
    elim (cases_Bool (is_same_func q f)) [
      | inl h ↦
          let empty : hashed_addr old q ≡ None = same_addr old f q h ∙ sym is ∙ none_of had none in
          now ∙ ap (λ b. cond b (Some addr) (hashed_addr old q)) h
          ∙ sym (ap (λ o. option_or o (cond (is_same_func q f) (Some addr) None)) empty ∙ ap (λ b. cond b (Some addr) None) h)
      | inr h ↦
          now ∙ ap (λ b. cond b (Some addr) (hashed_addr old q)) h
          ∙ or_none (hashed_addr old q)
          ∙ sym (ap (λ b. option_or (hashed_addr old q) (cond b (Some addr) None)) h)
    ]

-- a function that had an address keeps it
pub kept : (old : Hashed) (f : Func) (addr : ℕ) (had : Option ℕ) → had ≡ hashed_addr old f → is_some had ≡ true
    → (q : Func) → hashed_addr old q ≡ option_or (hashed_addr old q) (cond (is_same_func q f) (Some addr) None)
kept old f addr had is some q =
    elim (cases_Bool (is_same_func q f)) [
      | inl h ↦ stays (hashed_addr old q) (cond (is_same_func q f) (Some addr) None) (ap is_some (same_addr old f q h ∙ sym is) ∙ some)
      | inr h ↦ or_none (hashed_addr old q) ∙ sym (ap (λ b. option_or (hashed_addr old q) (cond b (Some addr) None)) h)
    ]
  where
    stays : (o p : Option ℕ) → is_some o ≡ true → o ≡ option_or o p
    stays None p h = absurd cc
    stays (Some x) p h = refl

-- ---- one more entry of a list

last_addr : (es : List (Func × ℕ)) (e : Func × ℕ) (q : Func) → listed_addr (es ++ e ∷ []) q ≡ option_or (listed_addr es q) (cond (is_same_func q e.0) (Some e.1) None)
last_addr [] e q = elim (cases_Bool (is_same_func q e.0)) [
  | inl h ↦ ap (λ b. option_map (λ p. p.1) (cond b (Some e) None)) h ∙ sym (ap (λ b. cond b (Some e.1) None) h)
  | inr h ↦ ap (λ b. option_map (λ p. p.1) (cond b (Some e) None)) h ∙ sym (ap (λ b. cond b (Some e.1) None) h)
]
last_addr (x ∷ es) e q = elim (cases_Bool (is_same_func q x.0)) [
  | inl h ↦
      let P : Bool → Type 0 = λ b. option_map (λ (p : Func × ℕ). p.1) (cond b (Some x) (find (λ p. is_same_func q p.0) (es ++ e ∷ [])))
      ≡ option_or (option_map (λ p. p.1) (cond b (Some x) (find (λ p. is_same_func q p.0) es))) (cond (is_same_func q e.0) (Some e.1) None) in
      subst P (sym h) refl
  | inr h ↦
      let P : Bool → Type 0 = λ b. option_map (λ (p : Func × ℕ). p.1) (cond b (Some x) (find (λ p. is_same_func q p.0) (es ++ e ∷ [])))
      ≡ option_or (option_map (λ p. p.1) (cond b (Some x) (find (λ p. is_same_func q p.0) es))) (cond (is_same_func q e.0) (Some e.1) None) in
      subst P (sym h) (last_addr es e q)
]

pub entered_more : (es : List (Func × ℕ)) (i : ℕ) (d : Func × ℕ) (q : Func) (new old start : Option ℕ) → i < length es
    → new ≡ option_or old (cond (is_same_func q (get_or es i d).0) (Some (get_or es i d).1) None) → old ≡ option_or start (listed_addr (take i es) q)
    → new ≡ option_or start (listed_addr (take (i + 1) es) q)
entered_more es i d q new old start lt is before =
    let e = get_or es i d in
    is ∙ ap (λ o. option_or o (cond (is_same_func q e.0) (Some e.1) None)) before
    ∙ or_assoc start (listed_addr (take i es) q) (cond (is_same_func q e.0) (Some e.1) None)
    ∙ ap (λ o. option_or start o) (sym (last_addr (take i es) e q) ∙ ap (λ xs. listed_addr xs q) (sym (take_more es i d lt)))
