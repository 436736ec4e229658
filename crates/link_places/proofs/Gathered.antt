-- The needs of all relocations, gathered input by input.
use Rattle.std.proofs.Common.{◌≡◌, ℕ, ◌+◌, ◌<◌, ◌≤◌, Bool, true, false, cond, not, List, [], ◌∷◌, ◌++◌, map, take, length, get_or, Some, refl, ap, sym, subst, ◌∙◌}
use Rattle.std.specs.Prelude.{slice_get, unwrap_or}
use Rattle.std.specs.Option.{option_and_then}
use Rattle.std.specs.List.{enumerate_from, flat_map}
use Rattle.std.proofs.lemmas.List.{append-nil, take_all}
use Rattle.std.proofs.lemmas.Grind.{flat_map-append}
use Rattle.elf_model.specs.declared.object.Rel.{Rel}
use Rattle.elf_model.specs.declared.relocatable.RelObject.{RelObject}
use Rattle.elf_model.specs.Symbols.{null_symbol}
use Rattle.symbol_scope.specs.Closure.{with_new}
use Rattle.symbol_scope.proofs.Growing.{with_new-append}
use Rattle.link_model.specs.declared.input.Mode.{Mode}
use Rattle.link_model.specs.declared.need.Need.{Need}
use Rattle.link_model.specs.declared.target.Target.{Target}
use Rattle.link_model.specs.Inputs.{InputSection, numbered, sections_in, rels_in, symbol_of, all_rels}
use Rattle.link_model.specs.Needs.{is_unusable, needs_for, needs_of, all_needs, is_same_need, target_at}
use Rattle.link_model.specs.Targets.{target_of}
use Rattle.link_names.proofs.Prefixes.{next_taken, numbered_next}
use Rattle.link_places.specs.parts.Gathering.{rel_needs, section_needs, input_needs}
use Rattle.link_places.specs.parts.Heads.{made}

-- ---- one thing more of a list

module _ {X : Type 0} (f : X → List Need) where
  grown : (xs : List X) (x : X) (seen before after : List Need) → before ≡ with_new is_same_need seen (flat_map f xs)
      → after ≡ with_new is_same_need before (f x) → after ≡ with_new is_same_need seen (flat_map f (xs ++ x ∷ []))
  grown xs x seen before after is then =
      then ∙ ap (λ s. with_new is_same_need s (f x)) is ∙ sym (with_new-append is_same_need seen (flat_map f xs) (f x))
      ∙ ap (with_new is_same_need seen) (ap (λ ys. flat_map f xs ++ ys) (sym (append-nil (f x))) ∙ sym (flat_map-append f xs (x ∷ [])))

  pub grown-next : (xs items : List X) (n : ℕ) (x : X) (seen before after : List Need) → items ≡ xs → n < length items → x ≡ get_or items n x
      → before ≡ with_new is_same_need seen (flat_map f (take n xs)) → after ≡ with_new is_same_need before (f x)
      → after ≡ with_new is_same_need seen (flat_map f (take (n + 1) xs))
  grown-next xs items n x seen before after same lt item is then =
      let within : n < length xs = subst (λ (l : List X). n < length l) same lt in
      let at : x ≡ get_or xs n x = item ∙ ap (λ l. get_or l n x) same in
      grown (take n xs) x seen before after is then ∙ ap (λ ys. with_new is_same_need seen (flat_map f ys)) (sym (next_taken xs n x within at))

  pub grown-all : (xs items : List X) (n : ℕ) (seen after : List Need) → items ≡ xs → length items ≤ n → after ≡ with_new is_same_need seen (flat_map f (take n xs))
      → after ≡ with_new is_same_need seen (flat_map f xs)
  grown-all xs items n seen after same past is =
      is ∙ ap (λ ys. with_new is_same_need seen (flat_map f ys)) (take_all n xs (subst (λ (l : List X). length l ≤ n) same past))

pub grown-numbered : {X : Type 0} (f : ℕ × X → List Need) (xs : List X) (n : ℕ) (x : X) (seen before after : List Need) → n < length xs → x ≡ get_or xs n x
    → before ≡ with_new is_same_need seen (flat_map f (numbered (take n xs))) → after ≡ with_new is_same_need before (f (n, x))
    → after ≡ with_new is_same_need seen (flat_map f (numbered (take (n + 1) xs)))
grown-numbered f xs n x seen before after within at is then =
    grown f (numbered (take n xs)) (n, x) seen before after is then ∙ ap (λ ys. with_new is_same_need seen (flat_map f ys)) (sym (numbered_next xs n x within at))

-- ---- all of them

flat_map_twice : {X Y Z : Type 0} (f : X → List Y) (g : Y → List Z) (xs : List X) → flat_map g (flat_map f xs) ≡ flat_map (λ x. flat_map g (f x)) xs
flat_map_twice f g [] = refl
flat_map_twice f g (x ∷ xs) = flat_map-append g (f x) (flat_map f xs) ∙ ap (λ ys. flat_map g (f x) ++ ys) (flat_map_twice f g xs)

-- what is made of things with numbers, where the numbers don't count
unnumbered : {X Y Z : Type 0} (f : Y → List Z) (g : ℕ × X → Y) (h : X → List Z) (k : ℕ) (xs : List X) → ((n : ℕ) (x : X) → f (g (n, x)) ≡ h x)
    → flat_map f (map g (enumerate_from k xs)) ≡ flat_map h xs
unnumbered f g h k [] same = refl
unnumbered f g h k (x ∷ xs) same = λ i. same k x i ++ unnumbered f g h (k + 1) xs same i

module _ (mode : Mode) (inputs : List RelObject) where
  of-section : (x : InputSection) → flat_map (needs_of mode inputs) (rels_in x) ≡ section_needs mode inputs x.input x.section
  unfolding target_at
  of-section x =
      unnumbered (needs_of mode inputs) (λ e. record { at = x; place = e.0; rel = e.1 }) (rel_needs mode inputs x.input) 0 (x.section).rels (λ n r. refl)

  of-input : (o : ℕ × RelObject) → flat_map (λ s. section_needs mode inputs s.0 s.2) (sections_in o) ≡ input_needs mode inputs o
  of-input o = unnumbered (λ s. section_needs mode inputs s.0 s.2) (λ s. (o.0, s.0, s.1)) (section_needs mode inputs o.0) 0 (o.1).sections (λ n s. refl)

  gathered : flat_map (needs_of mode inputs) (all_rels inputs) ≡ flat_map (input_needs mode inputs) (numbered inputs)
  gathered =
      let parts = flat_map sections_in (numbered inputs) in
      flat_map_twice rels_in (needs_of mode inputs) (map made (numbered parts))
      ∙ unnumbered (λ x. flat_map (needs_of mode inputs) (rels_in x)) made (λ s. section_needs mode inputs s.0 s.2) 0 parts
      (λ n s. of-section (made (n, s)))
      ∙ flat_map_twice sections_in (λ s. section_needs mode inputs s.0 s.2) (numbered inputs) ∙ (λ i. flat_map (λ o. of-input o i) (numbered inputs))

  pub all-gathered : (n : ℕ) (after : List Need) → length inputs ≤ n → after ≡ with_new is_same_need [] (flat_map (input_needs mode inputs) (numbered (take n inputs)))
      → after ≡ all_needs mode inputs
  unfolding all_needs
  all-gathered n after past is =
      is ∙ ap (λ os. with_new is_same_need [] (flat_map (input_needs mode inputs) (numbered os))) (take_all n inputs past) ∙ ap (with_new is_same_need []) (sym gathered)

pub symbol-in : (inputs : List RelObject) (i n : ℕ) (o : RelObject) → slice_get inputs i ≡ Some o → unwrap_or (slice_get o.symbols n) null_symbol ≡ symbol_of inputs i n
symbol-in inputs i n o there = sym (ap (λ file. unwrap_or (option_and_then (λ (p : RelObject). slice_get p.symbols n) file) null_symbol) there)

-- what a relocation wants that names a symbol of which something can be made
pub rel-wants : (mode : Mode) (inputs others : List RelObject) (i : ℕ) (r : Rel) (t : Target) → inputs ≡ others → t ≡ target_of mode inputs i r.symbol
    → is_unusable (symbol_of inputs i r.symbol) ≡ false → needs_for others r.kind t ≡ rel_needs mode inputs i r
rel-wants mode inputs others i r t same is usable =
    (λ j. needs_for (sym same j) r.kind (is j)) ∙ sym (ap (λ b. cond b [] (needs_for inputs r.kind (target_of mode inputs i r.symbol))) usable)

pub is-negated : (a b : Bool) → not a ≡ not b → a ≡ b
is-negated true true is = refl
is-negated false false is = refl
is-negated true false is = sym is
is-negated false true is = sym is
