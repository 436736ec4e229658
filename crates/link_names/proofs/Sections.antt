-- How many sections come before those of an input.
use Rattle.std.proofs.Common.{◌≡◌, ℕ, zero, suc, ◌+◌, ◌<◌, ◌≤◌, ◌^◌, List, [], ◌∷◌, length, take, get_or, true, Some, All, ap, sym, ◌∙◌, arith}
use Rattle.std.specs.Prelude.{slice_get, nat_lt, Contains}
use Rattle.std.specs.List.{sum_by}
use Rattle.std.proofs.lemmas.List.FromFn.{get_or-map-range_with_len, length-map-range_with_len}
use Rattle.std.proofs.lemmas.Bool.Decides.{nat_tests}
use Rattle.std.proofs.lemmas.List.Elements.{All-contains}
use Rattle.std.proofs.lemmas.Option.{slice_get_within}
use Rattle.fd_base.proofs.Members.{contains_at, in_flat_map, in_map}
use Rattle.elf_model.specs.declared.object.Place.TheVariants.{Section}
use Rattle.elf_model.specs.declared.object.Symbol.{Symbol}
use Rattle.elf_model.specs.RelSound.{IsRelSound, IsSymbolSound, is_place_among}
use Rattle.link_model.specs.Inputs.{InputSymbol, numbered, symbols_in, symbols_of, section_number}
use Rattle.link_model.proofs.Numbering.{numbered_at}
use Rattle.std.proofs.lemmas.List.Sums.{sum_by-append, sum_by-cons}
use Rattle.std.proofs.lemmas.List.{take_all}
use Rattle.elf_model.specs.declared.relocatable.RelObject.{RelObject}
use Rattle.link_names.specs.parts.Joining.{sections_before, section_starts, HasInput}
use Rattle.link_names.proofs.Prefixes.{next_taken}

pub next_sections : (inputs : List RelObject) (i : ℕ) (o : RelObject) → i < length inputs → o ≡ get_or inputs i o → sections_before inputs (i + 1) ≡ sections_before inputs i + length o.sections
next_sections inputs i o within is =
    let one : sum_by (λ (p : RelObject). length p.sections) (o ∷ []) ≡ length o.sections + 0 = sum_by-cons (λ (p : RelObject). length p.sections) o [] in
    let sum = sum_by-append (λ (p : RelObject). length p.sections) (take i inputs) (o ∷ []) in
    ap (sum_by (λ (p : RelObject). length p.sections)) (next_taken inputs i o within is) ∙ omega (arith, one, sum)

pub all_sections : (inputs : List RelObject) (i : ℕ) → length inputs ≤ i → sections_before inputs i ≡ sum_by (λ o. length o.sections) inputs
all_sections inputs i past = ap (sum_by (λ (o : RelObject). length o.sections)) (take_all i inputs past)

pub start_at : (inputs : List RelObject) (starts : List ℕ) (i d : ℕ) → starts ≡ section_starts inputs → i < length inputs → get_or starts i d ≡ sections_before inputs i
start_at inputs starts i d is within =
    let place : 0 + i ≡ i = omega arith in
    ap (λ ss. get_or ss i d) is ∙ get_or-map-range_with_len (sections_before inputs) 0 (length inputs) i i d within place

pub within_all : (inputs : List RelObject) (i : ℕ) (o : RelObject) → slice_get inputs i ≡ Some o → sections_before inputs i + length o.sections ≤ sum_by (λ o. length o.sections) inputs
within_all [] i o is = absurd cc
within_all (p ∷ ps) zero o is =
    let same : p ≡ o = cc in
    let count = ap (λ (q : RelObject). length q.sections) same in
    let all = sum_by-cons (λ (q : RelObject). length q.sections) p ps in
    omega (arith, count, all)
within_all (p ∷ ps) (suc i) o is =
    let some = sum_by-cons (λ (q : RelObject). length q.sections) p (take i ps) in
    let all = sum_by-cons (λ (q : RelObject). length q.sections) p ps in
    omega (arith, some, all, within_all ps i o is)

-- ---- numbers of sections

pub known_start : (inputs : List RelObject) (starts : List ℕ) (i : ℕ) (o : RelObject) → starts ≡ section_starts inputs → slice_get inputs i ≡ Some o → i < length starts
known_start inputs starts i o is there =
    let size = ap length is ∙ length-map-range_with_len (sections_before inputs) 0 (length inputs) in
    omega (arith, size, slice_get_within inputs i o there)

pub small_number : (inputs : List RelObject) (starts : List ℕ) (i n : ℕ) (o : RelObject) → starts ≡ section_starts inputs → slice_get inputs i ≡ Some o → n ≤ length o.sections
    → sum_by (λ o. length o.sections) inputs < 2 ^ 32 → get_or starts i 0 + n < 2 ^ 32
small_number inputs starts i n o is there within few =
    omega (arith, start_at inputs starts i 0 is (slice_get_within inputs i o there), within_all inputs i o there, within, few)

pub number_is : (inputs : List RelObject) (starts : List ℕ) (i n : ℕ) (o : RelObject) → starts ≡ section_starts inputs → slice_get inputs i ≡ Some o → get_or starts i 0 + n ≡ section_number inputs i n
number_is inputs starts i n o is there = ap (λ k. k + n) (start_at inputs starts i 0 is (slice_get_within inputs i o there))

-- the section that an input's symbol names is there
pub section_there : (inputs : List RelObject) → All IsRelSound inputs → (x : InputSymbol) (n : ℕ) → Contains (symbols_of inputs) x → (x.symbol).place ≡ Section n
    → HasInput inputs x.input (λ o. n ≤ length o.sections)
section_there inputs sound x n there place =
    let from = in_flat_map symbols_in (numbered inputs) x there in
    let o = (from.0).1 in
    let own = in_map (λ e. record { input = (from.0).0; number = e.0; symbol = e.1 }) (numbered o.symbols) x from.2 in
    let file : slice_get inputs (from.0).0 ≡ Some o = numbered_at inputs from.0 from.1 in
    let input : (from.0).0 ≡ x.input = ap (λ (y : InputSymbol). y.input) own.2 in
    let symbol : (own.0).1 ≡ x.symbol = ap (λ (y : InputSymbol). y.symbol) own.2 in
    let known = All-contains IsRelSound inputs o sound (contains_at inputs (from.0).0 o file) in
    let known_symbol = All-contains (IsSymbolSound (length o.sections)) o.symbols (own.0).1 known.sound_symbols (contains_at o.symbols (own.0).0 (own.0).1 (numbered_at o.symbols own.0 own.1)) in
    let test : nat_lt n (length o.sections) ≡ true = sym (ap (is_place_among (length o.sections)) (ap (λ (s : Symbol). s.place) symbol ∙ place)) ∙ known_symbol.placed in
    (o, (λ i. slice_get inputs (sym input i)) ∙ file, grind (arith, nat_tests))
