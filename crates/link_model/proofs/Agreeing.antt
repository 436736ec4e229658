-- Words each two of which are one, or share no byte: each of them stands.
use Rattle.std.proofs.Common.{◌≡◌, ℕ, ◌+◌, ◌-◌, ◌*◌, ◌<◌, ◌≤◌, ◌⊎◌, inl, inr, List, [], ◌∷◌, length, Some, refl, ap, sym, subst, ◌∙◌, arith, slice_index}
use Rattle.std.specs.Prelude.{slice_get, Contains}
use Rattle.std.specs.List.{flat_map}
use Rattle.std.specs.Int.{w32, to_le_bytes}
use Rattle.std.proofs.lemmas.Bool.{cases_lt, cond-true, cond-false}
use Rattle.std.proofs.lemmas.Option.{slice_get_within}
use Rattle.fd_base.proofs.Members.{nothing_in, first_or_later, contains_first, contains_later, in_map, in_flat_map}
use Rattle.fd_base.proofs.Options.{one_value}
use Rattle.elf_model.specs.declared.table.Site.{Site}
use Rattle.elf_model.specs.Sound.{RangesApart}
use Rattle.load_model.specs.declared.words.LinkWord.{LinkWord}
use Rattle.load_model.specs.Image.{byte_over, is_in_word}
use Rattle.load_image.specs.parts.Laws.{HasWord}
use Rattle.load_image.proofs.FilledRanges.{InSite}
use Rattle.load_image.proofs.WrittenWords.{is_in, is_off}
use Rattle.link_model.specs.Inputs.{numbered}
use Rattle.link_model.specs.Segments.{word_at, words_from}
use Rattle.link_model.proofs.Numbering.{numbered_at}

abbrev pub Agree : LinkWord → LinkWord → Type 0
Agree u w = (u ≡ w) ⊎ ((u.addr + 4 ≤ w.addr) ⊎ (w.addr + 4 ≤ u.addr))

-- ---- words that agree stand

first_byte : (x w : LinkWord) (words : List LinkWord) (f : ℕ → ℕ) → x ≡ w → HasWord (byte_over (x ∷ words) f) w
first_byte x w words f same = subst (λ z. HasWord (byte_over (x ∷ words) f) z) same (λ i lt.
    let place : x.addr + i - x.addr ≡ i = omega arith in
    cond-true (is_in_word x (x.addr + i)) (slice_index (to_le_bytes w32 x.value) (x.addr + i - x.addr)) (byte_over words f (x.addr + i)) (is_in x (x.addr + i) (omega arith) (omega arith))
    ∙ ap (slice_index (to_le_bytes w32 x.value)) place)

later_byte : (x w : LinkWord) (words : List LinkWord) (f : ℕ → ℕ) → (x.addr + 4 ≤ w.addr) ⊎ (w.addr + 4 ≤ x.addr) → HasWord (byte_over words f) w → HasWord (byte_over (x ∷ words) f) w
later_byte x w words f apart stands = λ i lt.
    let away : (w.addr + i < x.addr) ⊎ (x.addr + 4 ≤ w.addr + i) = elim apart [ inl h ↦ inr (omega arith) | inr h ↦ inl (omega arith) ] in
    cond-false (is_in_word x (w.addr + i)) (slice_index (to_le_bytes w32 x.value) (w.addr + i - x.addr)) (byte_over words f (w.addr + i)) (is_off x (w.addr + i) away) ∙ stands i lt

pub word_stands : (words : List LinkWord) (f : ℕ → ℕ) (w : LinkWord) → Contains words w → ((u : LinkWord) → Contains words u → Agree u w) → HasWord (byte_over words f) w
word_stands [] f w there agree = absurd (nothing_in w there)
word_stands (x ∷ words) f w there agree =
    by (λ later. word_stands words f w later (λ u in'. agree u (contains_later x u words in'))) (agree x (contains_first x x words refl)) (first_or_later x w words there)
  where
    by : (Contains words w → HasWord (byte_over words f) w) → Agree x w → (x ≡ w) ⊎ Contains words w → HasWord (byte_over (x ∷ words) f) w
    by rest here (inl same) = first_byte x w words f same
    by rest (inl same) (inr later) = first_byte x w words f same
    by rest (inr apart) (inr later) = later_byte x w words f apart (rest later)

-- ---- words in ranges that are apart

pub apart_in : (r s : Site) (u w : LinkWord) → RangesApart r s → InSite r u → InSite s w → Agree u w
apart_in r s u w apart here there = elim apart [ inl h ↦ inr (inl (omega (arith, here.below, there.above))) | inr h ↦ inr (inr (omega (arith, here.above, there.below))) ]

-- words that are made of things, each in the thing's range
pub of_ranges : {X : Type 0} (g : X → List LinkWord) (range : X → Site) (xs : List X)
    → ((x : X) → Contains xs x → (w : LinkWord) → Contains (g x) w → InSite (range x) w)
    → ((x : X) → (u w : LinkWord) → Contains (g x) u → Contains (g x) w → Agree u w)
    → ((x y : X) → Contains xs x → Contains xs y → (x ≡ y) ⊎ RangesApart (range x) (range y))
    → (u w : LinkWord) → Contains (flat_map g xs) u → Contains (flat_map g xs) w → Agree u w
of_ranges g range xs inside own two u w one other =
    let a = in_flat_map g xs u one in
    let b = in_flat_map g xs w other in
    elim (two a.0 b.0 a.1 b.1) [
      | inl same ↦ own b.0 u w (subst (λ x. Contains (g x) u) same a.2) b.2
      | inr apart ↦ apart_in (range a.0) (range b.0) u w apart (inside a.0 a.1 u a.2) (inside b.0 b.1 w b.2)
    ]

-- ---- words one behind the other

pub record IsWordOf (address : ℕ) (words : List ℕ) (w : LinkWord) : Type 0 where
  pub number : ℕ
  pub value : ℕ
  pub there : slice_get words number ≡ Some value
  pub same : word_at (address + 4 * number) value ≡ w

pub word_of : (address : ℕ) (words : List ℕ) (w : LinkWord) → Contains (words_from address words) w → IsWordOf address words w
word_of address words w there =
    let from = in_map (λ e. word_at (address + 4 * e.0) e.1) (numbered words) w there in
    let e = from.0 in
    record { number = e.0; value = e.1; there = numbered_at words e from.1; same = from.2 }

pub row_inside : (address size : ℕ) (words : List ℕ) → 4 * length words ≤ size → (w : LinkWord) → Contains (words_from address words) w → InSite (record { addr = address; size = size }) w
row_inside address size words room w there =
    let is = word_of address words w there in
    let within = slice_get_within words is.number is.value is.there in
    let at : address + 4 * is.number ≡ w.addr = ap (λ (x : LinkWord). x.addr) is.same in
    record { above = omega (arith, at); below = omega (arith, at, within, room) }

pub row_agrees : (address : ℕ) (words : List ℕ) (u w : LinkWord) → Contains (words_from address words) u → Contains (words_from address words) w → Agree u w
row_agrees address words u w one two =
    let a = word_of address words u one in
    let b = word_of address words w two in
    let at : address + 4 * a.number ≡ u.addr = ap (λ (x : LinkWord). x.addr) a.same in
    let at' : address + 4 * b.number ≡ w.addr = ap (λ (x : LinkWord). x.addr) b.same in
    elim (cases_lt a.number b.number) [
      | inl lt ↦ inr (inl (omega (arith, at, at')))
      | inr le ↦ elim (cases_lt b.number a.number) [
        | inl lt ↦ inr (inr (omega (arith, at, at')))
        | inr ge ↦
            let number : a.number ≡ b.number = omega arith in
            let value : a.value ≡ b.value = one_value (slice_get words a.number) a.value b.value a.there (ap (slice_get words) number ∙ b.there) in
            inl (sym a.same ∙ (λ i. word_at (address + 4 * number i) (value i)) ∙ b.same)
      ]
    ]
