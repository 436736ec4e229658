-- The symbols of the first inputs, and of one more.
use Rattle.std.proofs.Common.{◌≡◌, ℕ, suc, ◌+◌, ◌<◌, ◌≤◌, List, [], ◌∷◌, ◌++◌, map, take, drop, length, get_or, ap, sym, ◌∙◌, arith}
use Rattle.std.specs.List.{enumerate_from, flat_map}
use Rattle.std.proofs.lemmas.List.{append-nil, append_assoc, map-append, take_all, length-take-le, take-append-drop}
use Rattle.std.proofs.lemmas.List.Elements.{filter-append}
use Rattle.std.proofs.lemmas.Grind.{flat_map-append}
use Rattle.std.proofs.Math.Seq.{take-suc}
use Rattle.elf_model.specs.declared.object.Symbol.{Symbol}
use Rattle.elf_model.specs.declared.relocatable.RelObject.{RelObject}
use Rattle.link_model.specs.Inputs.{InputSymbol, numbered, symbols_in, symbols_of}
use Rattle.link_model.specs.Joined.{is_joined, joined_of}
use Rattle.link_names.specs.parts.Grouped.{joined_among, joined_in}

-- ---- one more of a list

pub next_taken : {X : Type 0} (xs : List X) (n : ℕ) (x : X) → n < length xs → x ≡ get_or xs n x → take (n + 1) xs ≡ take n xs ++ x ∷ []
next_taken xs n x within is =
    let next : n + 1 ≡ suc n = omega arith in
    ap (λ k. take k xs) next ∙ take-suc xs n x within ∙ ap (λ y. take n xs ++ y ∷ []) (sym is)

pub next_numbered : {X : Type 0} (k : ℕ) (xs : List X) (x : X) → enumerate_from k (xs ++ x ∷ []) ≡ enumerate_from k xs ++ (k + length xs, x) ∷ []
next_numbered k [] x = let none : k ≡ k + 0 = omega arith in (λ i. (none i, x) ∷ [])
next_numbered k (y ∷ xs) x =
    let more : k + 1 + length xs ≡ k + suc (length xs) = omega arith in
    ap (λ es. (k, y) ∷ es) (next_numbered (k + 1) xs x ∙ (λ i. enumerate_from (k + 1) xs ++ (more i, x) ∷ []))

-- the numbered elements of a prefix
pub numbered_next : {X : Type 0} (xs : List X) (n : ℕ) (x : X) → n < length xs → x ≡ get_or xs n x → numbered (take (n + 1) xs) ≡ numbered (take n xs) ++ (n, x) ∷ []
numbered_next xs n x within is =
    let size : 0 + length (take n xs) ≡ n = omega (arith, length-take-le n xs (omega (arith, within))) in
    ap numbered (next_taken xs n x within is) ∙ next_numbered 0 (take n xs) x ∙ (λ i. numbered (take n xs) ++ (size i, x) ∷ [])

-- ---- symbols of one input

-- those of the first symbols of an input
abbrev pub symbols_until : ℕ → List Symbol → ℕ → List InputSymbol
symbols_until i symbols n = map (λ e. record { input = i; number = e.0; symbol = e.1 }) (numbered (take n symbols))

pub next_symbol : (xs : List InputSymbol) (i : ℕ) (symbols : List Symbol) (n : ℕ) (s : Symbol) → n < length symbols → s ≡ get_or symbols n s
    → (xs ++ joined_among (symbols_until i symbols n)) ++ joined_among (record { input = i; number = n; symbol = s } ∷ []) ≡ xs ++ joined_among (symbols_until i symbols (n + 1))
next_symbol xs i symbols n s within is =
    append_assoc xs (joined_among (symbols_until i symbols n)) (joined_among (record { input = i; number = n; symbol = s } ∷ []))
    ∙ ap (λ ys. xs ++ ys)
    (sym (filter-append (λ x. is_joined x.symbol) (symbols_until i symbols n) (record { input = i; number = n; symbol = s } ∷ []))
    ∙ ap joined_among (sym (ap (map (λ e. record { input = i; number = e.0; symbol = e.1 })) (numbered_next symbols n s within is)
    ∙ map-append (λ e. record { input = i; number = e.0; symbol = e.1 }) (numbered (take n symbols)) ((n, s) ∷ []))))

pub all_symbols : (i : ℕ) (symbols : List Symbol) (n : ℕ) → length symbols ≤ n → symbols_until i symbols n ≡ map (λ e. record { input = i; number = e.0; symbol = e.1 }) (numbered symbols)
all_symbols i symbols n past = ap (λ ss. map (λ e. record { input = i; number = e.0; symbol = e.1 }) (numbered ss)) (take_all n symbols past)

-- ---- symbols of the first inputs

pub next_input : (inputs : List RelObject) (n : ℕ) (o : RelObject) → n < length inputs → o ≡ get_or inputs n o
    → joined_of (take n inputs) ++ joined_in (n, o) ≡ joined_of (take (n + 1) inputs)
next_input inputs n o within is =
    sym (ap (λ es. joined_among (flat_map symbols_in es)) (numbered_next inputs n o within is)
    ∙ ap joined_among (flat_map-append symbols_in (numbered (take n inputs)) ((n, o) ∷ []) ∙ ap (λ ys. symbols_of (take n inputs) ++ ys) (append-nil (symbols_in (n, o))))
    ∙ filter-append (λ x. is_joined x.symbol) (symbols_of (take n inputs)) (symbols_in (n, o)))

-- ---- the rest

numbered-append : {X : Type 0} (k : ℕ) (xs ys : List X) → enumerate_from k (xs ++ ys) ≡ enumerate_from k xs ++ enumerate_from (k + length xs) ys
numbered-append k [] ys = let none : k ≡ k + 0 = omega arith in (λ i. enumerate_from (none i) ys)
numbered-append k (x ∷ xs) ys =
    let more : k + 1 + length xs ≡ k + suc (length xs) = omega arith in
    ap (λ es. (k, x) ∷ es) (numbered-append (k + 1) xs ys ∙ (λ i. enumerate_from (k + 1) xs ++ enumerate_from (more i) ys))

pub numbered_split : {X : Type 0} (xs : List X) (n : ℕ) → (rest : List (ℕ × X)) × (numbered xs ≡ numbered (take n xs) ++ rest)
numbered_split xs n = (enumerate_from (0 + length (take n xs)) (drop n xs), ap numbered (sym (take-append-drop n xs)) ∙ numbered-append 0 (take n xs) (drop n xs))
