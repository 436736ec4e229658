-- Whether there is a way from one group to another: over the groups of a list, one after the other, each of which may be
-- passed or not.
use Rattle.std.proofs.Common.{◌≡◌, ℕ, ◌⊎◌, inl, inr, Bool, true, ◌&&◌, ◌||◌, List, [], ◌∷◌, ◌++◌, refl, sym, ap, ◌∙◌}
use Rattle.std.specs.Prelude.{◌==◌, Contains}
use Rattle.std.proofs.lemmas.Bool.{or_cases, or_left, or_right, and_parts, and_from}
use Rattle.std.proofs.lemmas.Bool.Decides.{Decides-eqb}
use Rattle.fd_base.proofs.Members.{first_or_later, nothing_in}
use Rattle.load_model.specs.declared.module.SymbolicProcess.{SymbolicProcess}
use Rattle.library_model.specs.Holding.{holds, IsWay}
use Rattle.library_model.proofs.Ways.{joined_way}

-- whether there is a way from g to h, on which only groups of the list are passed
pub reaches : SymbolicProcess → List ℕ → ℕ → ℕ → Bool
reaches p [] g h = (g == h) || holds p g h
reaches p (x ∷ over) g h = reaches p over g h || (reaches p over g x && reaches p over x h)

module _ (p : SymbolicProcess) where
  directly : (g h : ℕ) → reaches p [] g h ≡ ((g == h) || holds p g h)
  unfolding reaches
  directly g h = refl

  by_one : (x : ℕ) (over : List ℕ) (g h : ℕ) → reaches p (x ∷ over) g h ≡ (reaches p over g h || (reaches p over g x && reaches p over x h))
  unfolding reaches
  by_one x over g h = refl

  -- ---- what is reached has a way

  pub way_of : (over : List ℕ) (g h : ℕ) → reaches p over g h ≡ true → (way : List ℕ) × IsWay p g way h
  way_of [] g h e = elim (or_cases (g == h) (holds p g h) (sym (directly g h) ∙ e)) [
    | inl same ↦ ([], (Decides-eqb g h).0 same)
    | inr held ↦ (h ∷ [], (held, refl))
  ]
  way_of (x ∷ over) g h e = elim (or_cases (reaches p over g h) (reaches p over g x && reaches p over x h) (sym (by_one x over g h) ∙ e)) [
    | inl past ↦ way_of over g h past
    | inr through ↦
        let both = and_parts (reaches p over g x) (reaches p over x h) through in
        let to = way_of over g x both.0 in
        let from = way_of over x h both.1 in
        (to.0 ++ from.0, joined_way p g to.0 from.0 x h to.1 from.1)
  ]

  -- ---- what has a way is reached

  past : (x : ℕ) (over : List ℕ) (g h : ℕ) → reaches p over g h ≡ true → reaches p (x ∷ over) g h ≡ true
  past x over g h e = by_one x over g h ∙ or_left (reaches p over g h) (reaches p over g x && reaches p over x h) e

  through : (x : ℕ) (over : List ℕ) (g h : ℕ) → reaches p over g x ≡ true → reaches p over x h ≡ true → reaches p (x ∷ over) g h ≡ true
  through x over g h to from =
      by_one x over g h ∙ or_right (reaches p over g h) (reaches p over g x && reaches p over x h) (and_from (reaches p over g x) (reaches p over x h) to from)

  -- a way past x, or one over it
  abbrev IsEither : ℕ → List ℕ → ℕ → ℕ → Type 0
  IsEither x over g h = (reaches p over g h ≡ true) ⊎ ((reaches p over g x ≡ true) × (reaches p over x h ≡ true))

  either : (x : ℕ) (over : List ℕ) (g h : ℕ) → reaches p (x ∷ over) g h ≡ true → IsEither x over g h
  either x over g h e = elim (or_cases (reaches p over g h) (reaches p over g x && reaches p over x h) (sym (by_one x over g h) ∙ e)) [
    | inl past ↦ inl past
    | inr through ↦ inr (and_parts (reaches p over g x) (reaches p over x h) through)
  ]

  to_it : (x : ℕ) (over : List ℕ) (g : ℕ) → reaches p (x ∷ over) g x ≡ true → reaches p over g x ≡ true
  to_it x over g e = elim (either x over g x e) [ inl past ↦ past | inr both ↦ both.0 ]

  from_it : (x : ℕ) (over : List ℕ) (h : ℕ) → reaches p (x ∷ over) x h ≡ true → reaches p over x h ≡ true
  from_it x over h e = elim (either x over x h e) [ inl past ↦ past | inr both ↦ both.1 ]

  -- two ways that meet at a group of the list are one
  pub meet : (over : List ℕ) (g k h : ℕ) → Contains over k → reaches p over g k ≡ true → reaches p over k h ≡ true → reaches p over g h ≡ true
  meet [] g k h there e f = absurd (nothing_in k there)
  meet (x ∷ over) g k h there e f = elim (first_or_later x k over there) [
    | inl same ↦
        let to : reaches p over g x ≡ true = to_it x over g (ap (reaches p (x ∷ over) g) same ∙ e) in
        let from : reaches p over x h ≡ true = from_it x over h (ap (λ y. reaches p (x ∷ over) y h) same ∙ f) in
        through x over g h to from
    | inr later ↦ elim (either x over g k e) [
      | inl a ↦ elim (either x over k h f) [
        | inl b ↦ past x over g h (meet over g k h later a b)
        | inr b ↦ through x over g h (meet over g k x later a b.0) b.1
      ]
      | inr a ↦ elim (either x over k h f) [
        | inl b ↦ through x over g h a.0 (meet over x k h later a.1 b)
        | inr b ↦ through x over g h a.0 b.1
      ]
    ]
  ]

  directly_too : (over : List ℕ) (g h : ℕ) → reaches p [] g h ≡ true → reaches p over g h ≡ true
  directly_too [] g h e = e
  directly_too (x ∷ over) g h e = past x over g h (directly_too over g h e)

  -- where each group that is held is of the list
  pub reached : (over : List ℕ) → ((g h : ℕ) → holds p g h ≡ true → Contains over h)
      → (g : ℕ) (way : List ℕ) (h : ℕ) → IsWay p g way h → reaches p over g h ≡ true
  reached over all g [] h leads = directly_too over g h (directly g h ∙ or_left (g == h) (holds p g h) ((Decides-eqb g h).1 leads))
  reached over all g (next ∷ way) h leads =
      let step : reaches p over g next ≡ true = directly_too over g next (directly g next ∙ or_right (g == next) (holds p g next) leads.0) in
      meet over g next h (all g next leads.0) step (reached over all next way h leads.1)
