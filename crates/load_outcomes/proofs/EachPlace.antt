-- Items have their addresses, or a first of them has none.
use Rattle.std.proofs.Common.{◌≡◌, ℕ, zero, suc, ◌+◌, ◌%◌, ◌<◌, ◌≤◌, ◌⊎◌, inl, inr, List, [], ◌∷◌, ◌++◌, Option, Some, None, MatchOption, All, refl, subst, arith}
use Rattle.std.proofs.lemmas.Bool.{cases_lt}
use Rattle.std.proofs.lemmas.List.Elements.{All-cons, All-head, All-nil, All-tail}
use Rattle.placement.specs.declared.item.Held.{Held}
use Rattle.placement.specs.declared.item.Item.{Item}
use Rattle.placement.specs.Legal.{Apart, Chosen, HasNoRoom, IsLegal, unit_of}
use Rattle.placement.specs.Placed.{FailsAt, Placed, range_at}

-- it holds, or not
abbrev Or_not : Type 0 → Type 0
Or_not P = P ⊎ ¬ P

same_or_not : (m n : ℕ) → Or_not (m ≡ n)
same_or_not m n =
    elim (cases_lt m n) [
      | inl less ↦ inr (λ same. absurd (omega (arith, same)))
      | inr at_least ↦ elim (cases_lt n m) [
        | inl less ↦ inr (λ same. absurd (omega (arith, same)))
        | inr at_most ↦ inl (omega arith)
      ]
    ]

-- ---- legal addresses

apart_or_not : (at len : ℕ) (r : Held) → Or_not (Apart at len r)
apart_or_not at len r =
    elim (cases_lt at (r.start + r.len)) [
      | inr behind ↦ inl (inl behind)
      | inl early ↦ elim (cases_lt r.start (at + len)) [
        | inr before ↦ inl (inr before)
        | inl meets ↦ inr (λ apart. elim apart [ inl behind ↦ absurd (omega arith) | inr before ↦ absurd (omega arith) ])
      ]
    ]

all_apart_or_not : (at len : ℕ) (held : List Held) → Or_not (All (Apart at len) held)
all_apart_or_not at len [] = inl (All-nil (Apart at len))
all_apart_or_not at len (r ∷ held) =
    elim (apart_or_not at len r) [
      | inr meets ↦ inr (λ all. meets (All-head (Apart at len) r held all))
      | inl apart ↦ elim (all_apart_or_not at len held) [
        | inl rest ↦ inl (All-cons (Apart at len) r held apart rest)
        | inr meets ↦ inr (λ all. meets (All-tail (Apart at len) r held all))
      ]
    ]

module _ (low high : ℕ) (held : List Held) (item : Item) where
  within_or_not : (at : ℕ) → low ≤ at → at + item.memsz ≤ high → Or_not (IsLegal low high held item at)
  within_or_not at above below =
      elim (same_or_not (at % unit_of item.align) (item.vaddr % unit_of item.align)) [
        | inr differ ↦ inr (λ legal. differ legal.congruent)
        | inl same ↦ elim (all_apart_or_not at item.memsz held) [
          | inl apart ↦ inl (record { above = above; below = below; congruent = same; apart = apart })
          | inr meets ↦ inr (λ legal. meets legal.apart)
        ]
      ]

  legal_or_not : (at : ℕ) → Or_not (IsLegal low high held item at)
  legal_or_not at =
      elim (cases_lt at low) [
        | inl under ↦ inr (λ legal. let above : low ≤ at = legal.above in absurd (omega arith))
        | inr above ↦ elim (cases_lt high (at + item.memsz)) [
          | inl over ↦ inr (λ legal. let below : at + item.memsz ≤ high = legal.below in absurd (omega arith))
          | inr below ↦ within_or_not at above below
        ]
      ]

  legal_below : (at : ℕ) → IsLegal low high held item at → at ≤ high
  legal_below at legal = let below : at + item.memsz ≤ high = legal.below in omega arith

-- ---- the least of them

-- a number below the limit of which it holds, and of none before, or none below the limit
least_or_none : (P : ℕ → Type 0) → ((n : ℕ) → Or_not (P n)) → (limit : ℕ) → ((n : ℕ) × P n × ((b : ℕ) → P b → n ≤ b)) ⊎ ((b : ℕ) → b < limit → ¬ P b)
least_or_none P test zero = inr (λ b lt p. absurd (omega arith))
least_or_none P test (suc limit) =
    elim (least_or_none P test limit) [
      | inl found ↦ inl found
      | inr none ↦ elim (test limit) [
        | inl here ↦ inl (limit, here, λ b p. elim (cases_lt b limit) [ inl less ↦ absurd (none b less p) | inr behind ↦ behind ])
        | inr not ↦ inr (λ b lt. elim (cases_lt b limit) [ inl less ↦ none b less | inr behind ↦ let last : limit ≡ b = omega arith in subst (λ k. ¬ P k) last not ])
      ]
    ]

-- ---- the item's address

chosen_or_none : (choice : Option ℕ) (L : ℕ → Type 0) (high : ℕ) → ((n : ℕ) → Or_not (L n)) → ((n : ℕ) → L n → n ≤ high)
    → ((at : ℕ) × L at × MatchOption choice ((b : ℕ) → L b → at ≤ b) (λ listed. at ≡ listed)) ⊎ MatchOption choice ((b : ℕ) → ¬ L b) (λ listed. ¬ L listed)
chosen_or_none None L high test below =
    elim (least_or_none L test (suc high)) [
      | inl least ↦ inl (least.0, least.1, least.2)
      | inr none ↦ inr (λ b legal. let at_most : b ≤ high = below b legal in none b (omega arith) legal)
    ]
chosen_or_none (Some listed) L high test below = elim (test listed) [ inl legal ↦ inl (listed, legal, refl) | inr not ↦ inr not ]

pub address_or_none : (low high : ℕ) (held : List Held) (item : Item) → ((at : ℕ) × Chosen low high held item at) ⊎ HasNoRoom low high held item
address_or_none low high held item =
    elim (chosen_or_none item.at (IsLegal low high held item) high (legal_or_not low high held item) (legal_below low high held item)) [
      | inl chosen ↦ inl (chosen.0, record { legal = chosen.1; choice = chosen.2 })
      | inr none ↦ inr none
    ]

pub placed_or_fails : (low high : ℕ) (held : List Held) (items : List Item) → ((addrs : List ℕ) × Placed low high held items addrs) ⊎ ((n : ℕ) × FailsAt low high held items n)
placed_or_fails low high held [] = inl ([], tt)
placed_or_fails low high held (item ∷ items) =
    elim (address_or_none low high held item) [
      | inr none ↦ inr (zero, none)
      | inl here ↦ elim (placed_or_fails low high (held ++ range_at item here.0 ∷ []) items) [
        | inl rest ↦ inl (here.0 ∷ rest.0, (here.1, rest.1))
        | inr fails ↦ inr (suc fails.0, (here.0, here.1, fails.1))
      ]
    ]
