-- Aligned sites meet where they share a word.
use Rattle.std.proofs.Common.{◌≡◌, ℕ, ◌+◌, ◌-◌, ◌*◌, ◌/◌, ◌%◌, ◌<◌, ◌≤◌, Bool, true, false, cond, ◌||◌, List, [], ◌∷◌, refl, inl, inr, arith}
use Rattle.std.specs.List.{list_any}
use Rattle.std.specs.Ordering.{nat_cmp, is_eq}
use Rattle.std.proofs.lemmas.Bool.{cases_lt, false_from_ne_true, or_parts}
use Rattle.std.proofs.lemmas.Bool.Decides.{nat_tests}
use Rattle.elf_model.specs.declared.table.Site.{Site}
use Rattle.elf_model.specs.Relocations.{meets}
use Rattle.elf_read.specs.parts.Taken.{covers, IsAligned, AreAligned}

covers_tells : (s : Site) (w : ℕ) → covers s w ≡ true → (w % 4 ≡ 0) × (s.addr ≤ w) × (w < s.addr + s.size)
unfolding covers
covers_tells s w e = grind (arith, nat_tests)

covers_is : (s : Site) (w : ℕ) → w % 4 ≡ 0 → s.addr ≤ w → w < s.addr + s.size → covers s w ≡ true
unfolding covers
covers_is s w a b d = grind (arith, nat_tests)

meets_is : (a s : Site) (w : ℕ) → a.addr ≤ w → w < a.addr + a.size → s.addr ≤ w → w < s.addr + s.size → meets a s ≡ true
unfolding meets
meets_is a s w p q x y = grind (arith, nat_tests)

meets_tells : (a s : Site) → meets a s ≡ true → (a.addr < s.addr + s.size) × (s.addr < a.addr + a.size)
unfolding meets
meets_tells a s e = grind (arith, nat_tests)

or_step : (b c d e : Bool) → (b ≡ true → c ≡ true) → (d ≡ true → e ≡ true) → b || d ≡ true → c || e ≡ true
or_step true c d e f g h = let one : c ≡ true = f refl in rw one refl
or_step false true d e f g h = refl
or_step false false d e f g h = g h

any_more : {X : Type 0} (p q : X → Bool) (xs : List X) → ((x : X) → p x ≡ true → q x ≡ true) → list_any p xs ≡ true → list_any q xs ≡ true
any_more p q [] f h = h
any_more p q (x ∷ xs) f h = or_step (p x) (q x) (list_any p xs) (list_any q xs) (f x) (any_more p q xs f) h

-- a word that is taken is that of a site that meets
pub hit : (sites : List Site) (a : Site) (w : ℕ) → a.addr ≤ w → w < a.addr + a.size → list_any (λ s. covers s w) sites ≡ true → list_any (λ s. meets a s) sites ≡ true
hit sites a w p q h = any_more (λ s. covers s w) (λ s. meets a s) sites (λ s e. let t = covers_tells s w e in meets_is a s w p q t.1 t.2) h

apart : (a s : Site) → IsAligned a → IsAligned s → ((j : ℕ) → j < a.size / 4 → covers s (a.addr + 4 * j) ≡ false) → meets a s ≡ true → ⊥
apart a s ia is none e =
    let t = meets_tells a s e in
    elim (cases_lt a.addr s.addr) [
      | inl lt ↦
          let j : ℕ = s.addr / 4 - a.addr / 4 in
          let at : a.addr + 4 * j ≡ s.addr = omega (arith, ia.addr, is.addr) in
          let covered : covers s (a.addr + 4 * j) ≡ true = covers_is s (a.addr + 4 * j) (omega (arith, at, is.addr)) (omega (arith, at)) (omega (arith, at, is.some)) in
          let not_covered = none j (omega (arith, at, ia.addr, is.addr, ia.size, t.1)) in
          cc (covered, not_covered)
      | inr le ↦
          let covered : covers s (a.addr + 4 * 0) ≡ true = covers_is s (a.addr + 4 * 0) (omega (arith, ia.addr)) (omega arith) (omega (arith, t.0)) in
          let not_covered = none 0 (omega (arith, ia.size, ia.some)) in
          cc (covered, not_covered)
    ]

-- where none of its words is taken, it meets no site
pub miss : (sites : List Site) (a : Site) → IsAligned a → AreAligned sites → ((j : ℕ) → j < a.size / 4 → list_any (λ s. covers s (a.addr + 4 * j)) sites ≡ false) → list_any (λ s. meets a s) sites ≡ false
miss [] a ia is none = refl
miss (s ∷ sites) a ia is none =
    let here : meets a s ≡ false = false_from_ne_true (meets a s) (apart a s ia is.0 (λ j lt. (or_parts _ _ (none j lt)).0)) in
    let rest : list_any (λ s. meets a s) sites ≡ false = miss sites a ia is.1 (λ j lt. (or_parts _ _ (none j lt)).1) in
    rw (here, rest) refl

-- one more word is taken
pub takes_more : (addr k w : ℕ) (old now : Bool) → addr % 4 ≡ 0 → now ≡ covers (record { addr = addr; size = 4 * k }) w || old
    → cond (is_eq (nat_cmp (addr + 4 * k) w)) true now ≡ covers (record { addr = addr; size = 4 * (k + 1) }) w || old
unfolding covers
takes_more addr k w old now al e = grind (arith, nat_tests)
