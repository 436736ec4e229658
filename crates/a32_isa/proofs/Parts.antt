-- One more text behind others that are parted by commas.
use Rattle.std.proofs.Common.{◌≡◌, ℕ, zero, suc, ◌+◌, ◌<◌, Bool, true, false, not, cond, List, [], ◌∷◌, ◌++◌, map, refl, ap, sym, ◌∙◌, append_assoc, append-nil, length, take, get_or, arith, tests}
use Rattle.std.specs.Prelude.{codes, filter, ◌==◌}
use Rattle.std.specs.List.{range_with_len}
use Rattle.std.proofs.lemmas.List.{map-id, map-append, take_more}
use Rattle.std.proofs.lemmas.List.Elements.{filter-append}
use Rattle.std.proofs.lemmas.List.FromFn.{map-range_with_len_more}
use Rattle.a32_isa.specs.Registers.{is_listed}
use Rattle.a32_isa.specs.Names.{register_name}
use Rattle.a32_isa.specs.Text.{after, parted, where_set, listed_below}

abbrev pub is_empty : List (List ℕ) → Bool
is_empty [] = true
is_empty (text ∷ texts) = false

after-append : (texts others : List (List ℕ)) → after (texts ++ others) ≡ after texts ++ after others
after-append [] others = refl
after-append (text ∷ texts) others =
    ap (λ rest. codes ", " ++ (text ++ rest)) (after-append texts others)
    ∙ ap (λ rest. codes ", " ++ rest) (sym (append_assoc text (after texts) (after others)))

pub parted-more : (texts : List (List ℕ)) (text : List ℕ)
    → parted (texts ++ text ∷ []) ≡ parted texts ++ (where_set (not (is_empty texts)) (codes ", ") ++ text)
parted-more [] text = simp append-nil
parted-more (first ∷ texts) text =
    ap (λ rest. first ++ rest) (after-append texts (text ∷ []) ∙ ap (λ last. after texts ++ (codes ", " ++ last)) (append-nil text))
    ∙ sym (append_assoc first (after texts) (codes ", " ++ text))

-- the names of the registers of a list that are below a number
abbrev pub names_below : ℕ → ℕ → List (List ℕ)
names_below list n = map register_name (listed_below list n)

pub names_below-more : (list n : ℕ) → names_below list (n + 1) ≡ names_below list n ++ cond (is_listed list n) (register_name n ∷ []) []
unfolding listed_below
names_below-more list n =
    let more = simp map-id at (map-range_with_len_more (λ (k : ℕ). k) 0 n n (omega arith)) in
    ap (λ numbers. map register_name (filter (is_listed list) numbers)) more
    ∙ ap (map register_name) (filter-append (is_listed list) (range_with_len 0 n) (n ∷ []))
    ∙ map-append register_name (filter (is_listed list) (range_with_len 0 n)) (filter (is_listed list) (n ∷ []))
    ∙ ap (λ names. names_below list n ++ names) (map-cond (is_listed list n))
  where
    map-cond : (b : Bool) → map register_name (cond b (n ∷ []) []) ≡ cond b (register_name n ∷ []) []
    map-cond true = refl
    map-cond false = refl

pub names_listed : (list n : ℕ) → is_listed list n ≡ true → names_below list (n + 1) ≡ names_below list n ++ register_name n ∷ []
names_listed list n h = names_below-more list n ∙ ap (λ b. names_below list n ++ cond b (register_name n ∷ []) []) h

pub names_unlisted : (list n : ℕ) → is_listed list n ≡ false → names_below list (n + 1) ≡ names_below list n
names_unlisted list n h = names_below-more list n ∙ ap (λ b. names_below list n ++ cond b (register_name n ∷ []) []) h ∙ append-nil (names_below list n)

pub is_empty-more : (texts : List (List ℕ)) (text : List ℕ) → is_empty (texts ++ text ∷ []) ≡ false
is_empty-more [] text = refl
is_empty-more (first ∷ texts) text = refl

-- one more text put behind those that stand there
pub more_put : (start opening : List ℕ) (texts : List (List ℕ)) (text old new : List ℕ) (first : Bool)
    → old ≡ start ++ (opening ++ parted texts) → first ≡ is_empty texts → new ≡ old ++ (where_set (not first) (codes ", ") ++ text)
    → new ≡ start ++ (opening ++ parted (texts ++ text ∷ []))
more_put start opening texts text old new first stood none_yet put =
    let last : List ℕ = where_set (not (is_empty texts)) (codes ", ") ++ text in
    put ∙ ap (λ b. old ++ (where_set (not b) (codes ", ") ++ text)) none_yet ∙ ap (λ stands. stands ++ last) stood
    ∙ append_assoc start (opening ++ parted texts) last ∙ ap (λ rest. start ++ rest) (append_assoc opening (parted texts) last)
    ∙ ap (λ rest. start ++ (opening ++ rest)) (sym (parted-more texts text))

-- before the first register none is named
pub is_empty-taken : (registers : List ℕ) (k : ℕ) → k < length registers → (k == 0) ≡ is_empty (map register_name (take k registers))
is_empty-taken [] k h = absurd (omega arith)
is_empty-taken (r ∷ registers) zero h = refl
is_empty-taken (r ∷ registers) (suc k) h = grind (arith, tests)

pub names-more : (registers : List ℕ) (k : ℕ) → k < length registers
    → map register_name (take (k + 1) registers) ≡ map register_name (take k registers) ++ register_name (get_or registers k 0) ∷ []
names-more registers k h =
    ap (map register_name) (take_more registers k 0 h) ∙ map-append register_name (take k registers) (get_or registers k 0 ∷ [])
