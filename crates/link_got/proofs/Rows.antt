-- Words one behind the other.
use Rattle.std.proofs.Common.{◌≡◌, ℕ, ◌+◌, ◌*◌, ◌<◌, ◌≤◌, List, [], ◌∷◌, ◌++◌, map, take, length, get_or, Some, ap, sym, subst, ◌∙◌}
use Rattle.std.specs.Prelude.{slice_get}
use Rattle.std.specs.List.{flat_map}
use Rattle.std.proofs.lemmas.List.{append-nil, append_assoc, map-append, take_all}
use Rattle.std.proofs.lemmas.Option.{slice_get-get_or}
use Rattle.std.proofs.lemmas.Grind.{flat_map-append}
use Rattle.load_model.specs.declared.words.LinkWord.{LinkWord}
use Rattle.link_model.specs.Inputs.{numbered}
use Rattle.link_model.specs.Segments.{word_at, words_from}
use Rattle.link_names.proofs.Prefixes.{next_taken, numbered_next}

-- ---- a word more of a row

pub word-more : (place : ℕ) (values : List ℕ) (n v : ℕ) (first before after : List LinkWord) → n < length values → v ≡ get_or values n v
    → before ≡ first ++ words_from place (take n values) → after ≡ before ++ word_at (place + 4 * n) v ∷ []
    → after ≡ first ++ words_from place (take (n + 1) values)
word-more place values n v first before after within is old put =
    put ∙ ap (λ ws. ws ++ word_at (place + 4 * n) v ∷ []) old ∙ append_assoc first (words_from place (take n values)) (word_at (place + 4 * n) v ∷ [])
    ∙ ap (λ ws. first ++ ws) (sym (ap (map (λ e. word_at (place + 4 * e.0) e.1)) (numbered_next values n v within is)
    ∙ map-append (λ e. word_at (place + 4 * e.0) e.1) (numbered (take n values)) ((n, v) ∷ [])))

pub all-words : (place : ℕ) (values : List ℕ) (n : ℕ) (first after : List LinkWord) → length values ≤ n
    → after ≡ first ++ words_from place (take n values) → after ≡ first ++ words_from place values
all-words place values n first after past is = is ∙ ap (λ vs. first ++ words_from place vs) (take_all n values past)

-- ---- what is made of one thing more

taken : {X : Type 0} (xs items : List X) (n : ℕ) (x : X) → items ≡ xs → n < length items → x ≡ get_or items n x → (n < length xs) × (x ≡ get_or xs n x)
taken {X = X} xs items n x same lt is = (subst (λ (l : List X). n < length l) same lt, is ∙ ap (λ l. get_or l n x) same)

pub taken-at : {X : Type 0} (xs items : List X) (n : ℕ) (x : X) → items ≡ xs → n < length items → x ≡ get_or items n x → slice_get xs n ≡ Some x
taken-at xs items n x same lt is = let at = taken xs items n x same lt is in slice_get-get_or xs n x at.0 ∙ ap Some (sym at.1)

module _ {X Y : Type 0} where
  pub made-more : (f : X → List Y) (xs items : List X) (n : ℕ) (x : X) (before after : List Y) → items ≡ xs → n < length items → x ≡ get_or items n x
      → before ≡ flat_map f (take n xs) → after ≡ before ++ f x → after ≡ flat_map f (take (n + 1) xs)
  made-more f xs items n x before after same lt item old put =
      let at = taken xs items n x same lt item in
      put ∙ ap (λ ys. ys ++ f x) old
      ∙ sym (ap (flat_map f) (next_taken xs n x at.0 at.1) ∙ flat_map-append f (take n xs) (x ∷ []) ∙ ap (λ ys. flat_map f (take n xs) ++ ys) (append-nil (f x)))

  pub made-numbered : (f : ℕ × X → List Y) (xs items : List X) (n : ℕ) (x : X) (before after : List Y) → items ≡ xs → n < length items → x ≡ get_or items n x
      → before ≡ flat_map f (numbered (take n xs)) → after ≡ before ++ f (n, x) → after ≡ flat_map f (numbered (take (n + 1) xs))
  made-numbered f xs items n x before after same lt item old put =
      let at = taken xs items n x same lt item in
      put ∙ ap (λ ys. ys ++ f (n, x)) old
      ∙ sym (ap (flat_map f) (numbered_next xs n x at.0 at.1) ∙ flat_map-append f (numbered (take n xs)) ((n, x) ∷ [])
      ∙ ap (λ ys. flat_map f (numbered (take n xs)) ++ ys) (append-nil (f (n, x))))

  pub mapped-more : (f : X → Y) (xs items : List X) (n : ℕ) (x : X) (before after : List Y) → items ≡ xs → n < length items → x ≡ get_or items n x
      → before ≡ map f (take n xs) → after ≡ before ++ f x ∷ [] → after ≡ map f (take (n + 1) xs)
  mapped-more f xs items n x before after same lt item old put =
      let at = taken xs items n x same lt item in
      put ∙ ap (λ ys. ys ++ f x ∷ []) old ∙ sym (ap (map f) (next_taken xs n x at.0 at.1) ∙ map-append f (take n xs) (x ∷ []))
