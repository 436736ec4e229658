-- Entries that rise have one list.
use Rattle.std.proofs.Common.{◌≡◌, zero, suc, ◌<◌, ◌⊎◌, inl, inr, List, [], ◌∷◌, get_or, AllPairs, refl, sym, ap, ◌∙◌, subst, arith}
use Rattle.std.specs.Prelude.{Contains}
use Rattle.fd_base.proofs.Lists.{pairs_tail}
use Rattle.fd_base.proofs.Members.{contains_first, contains_later, first_or_later}
use Rattle.elf_model.specs.declared.object.Object.{Object}
use Rattle.plt_code.specs.declared.listing.Entry.{Entry}
use Rattle.plt_code.specs.Entries.{IsPltEntry, IsListing}
use Rattle.plt_code.specs.parts.Laws.{OneListing}

abbrev Rises : List Entry → Type 0
Rises es = AllPairs (λ d e. d.at < e.at) es

-- each later entry is above the first
first_below : (x e : Entry) (xs : List Entry) → Rises (x ∷ xs) → Contains xs e → x.at < e.at
first_below x e xs rises (k, lt, is) =
    let above : x.at < (get_or xs k e).at = rises zero (suc k) e (omega arith) (omega arith) in
    subst (λ (d : Entry). x.at < d.at) is above

same_lists : (xs ys : List Entry) → Rises xs → Rises ys → ((e : Entry) → Contains xs e → Contains ys e) → ((e : Entry) → Contains ys e → Contains xs e) → xs ≡ ys
same_lists [] [] p q f g = refl
same_lists [] (y ∷ ys) p q f g = let none = g y (contains_first y y ys refl) in absurd (omega (arith, none.1))
same_lists (x ∷ xs) [] p q f g = let none = f x (contains_first x x xs refl) in absurd (omega (arith, none.1))
same_lists (x ∷ xs) (y ∷ ys) p q f g =
    let first : x ≡ y = heads (first_or_later y x ys (f x (contains_first x x xs refl))) (first_or_later x y xs (g y (contains_first y y ys refl))) in
    let rest : xs ≡ ys = same_lists xs ys (pairs_tail (λ d e. d.at < e.at) x xs p) (pairs_tail (λ d e. d.at < e.at) y ys q)
    (λ e c. later y e x ys (sym first) (first_below x e xs p c) (first_or_later y e ys (f e (contains_later x e xs c))))
    (λ e c. later x e y xs first (first_below y e ys q c) (first_or_later x e xs (g e (contains_later y e ys c)))) in
    ap (λ (e : Entry). e ∷ xs) first ∙ ap (λ es. y ∷ es) rest
  where
    heads : (y ≡ x) ⊎ Contains ys x → (x ≡ y) ⊎ Contains xs y → x ≡ y
    heads (inl h) r = sym h
    heads (inr h) (inl r) = r
    heads (inr h) (inr r) = absurd (omega (arith, first_below y x ys q h, first_below x y xs p r))

    later : (a e b : Entry) (es : List Entry) → a ≡ b → b.at < e.at → (a ≡ e) ⊎ Contains es e → Contains es e
    later a e b es same above (inl h) = absurd (omega (arith, above, ap (λ (d : Entry). d.at) same, ap (λ (d : Entry). d.at) h))
    later a e b es same above (inr h) = h

members : (o : Object) (xs ys : List Entry) → IsListing o xs → IsListing o ys → (e : Entry) → Contains xs e → Contains ys e
members o xs ys p q e c =
    let entry : IsPltEntry o e.at e.slot = subst (λ (d : Entry). IsPltEntry o d.at d.slot) c.2 (p.sound c.0 e c.1) in
    q.complete e.at e.slot entry

pub one_listing : OneListing
one_listing o xs ys p q = same_lists xs ys p.rising q.rising (members o xs ys p q) (members o ys xs q p)
