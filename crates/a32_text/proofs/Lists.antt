-- The list of a multiple load or store that is printed is read again.
use Rattle.std.proofs.Common.{◌≡◌, ℕ, ◌+◌, ◌*◌, ◌/◌, ◌%◌, ◌^◌, ◌<◌, ◌≤◌, zero, suc, Bool, true, false, List, [], ◌∷◌, ◌++◌, map, refl, ap, ◌∙◌, arith, Some, None, eqb-true}
use Rattle.std.specs.Prelude.{filter, ◌==◌, if◌then◌else◌}
use Rattle.std.specs.List.{range_with_len}
use Rattle.std.proofs.lemmas.Bool.{le-ltb}
use Rattle.std.proofs.lemmas.Nat.{mod-pow-add}
use Rattle.std.proofs.Math.Nat.{pow-suc}
use Rattle.a32_isa.specs.Registers.{is_listed}
use Rattle.a32_isa.specs.Names.{register_name}
use Rattle.a32_text.specs.Token.{Token, Word, Mark, COMMA}
use Rattle.a32_text.specs.List.{bits_from, listing, opened, take_list}
use Rattle.a32_text.specs.declared.list.OpenList.{OpenList}
use Rattle.a32_text.proofs.Names.{register_read}
use Rattle.a32_text.proofs.Pieces.{together}
use Rattle.a32_text.proofs.Printed.{register_piece}

abbrev state : ℕ → ℕ → OpenList
state list low = record { list = list; low = low; first = None; last = None }

one_bit : (r : ℕ) → bits_from r r ≡ 2 ^ r
unfolding bits_from
one_bit r = let e : 2 ^ (r + 1) ≡ 2 ^ r * 2 = ap (λ k. 2 ^ k) add-one-is ∙ pow-suc 2 r in omega (arith, e)
  where
    add-one-is : r + 1 ≡ suc r
    add-one-is = omega arith

more : (list low r : ℕ) (rest : List Token) → low ≤ r → r < 16 → listing (state list low) (Word (register_name r) ∷ Mark COMMA ∷ rest) ≡ listing (state (list + 2 ^ r) (r + 1)) rest
more list low r rest h l = rw (register_read r l, le-ltb r low h, le-ltb r r (omega arith), one_bit r) refl

last : (list low r : ℕ) → low ≤ r → r < 16 → listing (state list low) (Word (register_name r) ∷ Mark 0x7d ∷ []) ≡ Some (list + 2 ^ r, [])
last list low r h l = rw (register_read r l, le-ltb r low h, le-ltb r r (omega arith), one_bit r) refl

-- the registers of a list from a place on
abbrev pub from : ℕ → ℕ → ℕ → List ℕ
from list k n = filter (is_listed list) (range_with_len k n)

abbrev pub closed : List ℕ → List Token
closed rs = together (map register_piece rs) ++ Mark 0x7d ∷ []

not_one : (m : ℕ) → m < 2 → (m == 1) ≡ false → m ≡ 0
not_one zero h e = refl
not_one (suc zero) h e = absurd cc
not_one (suc (suc m)) h e = absurd (omega arith)

-- The numbers of the registers from k on, where those below k make `acc`: with a register in front of them.
walk : (list n k r acc : ℕ) → k + n ≡ 16 → r < k → r < 16 → acc + 2 ^ r ≡ list % 2 ^ k
    → (low : ℕ) → low ≤ r → listing (state acc low) (closed (r ∷ from list k n)) ≡ Some (list % 2 ^ 16, [])
walk list zero k r acc e b l sum low h =
    let at : k ≡ 16 = omega arith in
    last acc low r h l ∙ ap (λ s. Some (s, [])) (sum ∙ ap (λ j. list % 2 ^ j) at)
walk list (suc n) k r acc e b l sum low h = by_bit (is_listed list k) refl (walk list n (k + 1))
  where
    next : k + 1 ≡ 1 + k
    next = omega arith

    split : list % 2 ^ (k + 1) ≡ (list / 2 ^ k % 2 ^ 1) * 2 ^ k + list % 2 ^ k
    split = ap (λ j. list % 2 ^ j) next ∙ mod-pow-add list 1 k

    by_bit : (b : Bool) → is_listed list k ≡ b
        → ((r acc : ℕ) → (k + 1) + n ≡ 16 → r < k + 1 → r < 16 → acc + 2 ^ r ≡ list % 2 ^ (k + 1) → (low : ℕ) → low ≤ r → listing (state acc low) (closed (r ∷ from list (k + 1) n)) ≡ Some (list % 2 ^ 16, []))
        → listing (state acc low) (closed (r ∷ (if is_listed list k then k ∷ from list (k + 1) n else from list (k + 1) n))) ≡ Some (list % 2 ^ 16, [])
    by_bit true is rest =
        let bit : list / 2 ^ k % 2 ≡ 1 = eqb-true (list / 2 ^ k % 2) 1 is in
        let sums : (acc + 2 ^ r) + 2 ^ k ≡ list % 2 ^ (k + 1) = (let s = split in grind (arith, s, bit, sum)) in
        rw is (more acc low r (closed (k ∷ from list (k + 1) n)) h l ∙ rest k (acc + 2 ^ r) (omega arith) (omega arith) (omega arith) sums (r + 1) (omega arith))
    by_bit false is rest =
        let bit : list / 2 ^ k % 2 ≡ 0 = not_one (list / 2 ^ k % 2) (omega arith) is in
        let sums : acc + 2 ^ r ≡ list % 2 ^ (k + 1) = (let s = split in grind (arith, s, bit, sum)) in
        rw is (rest r acc (omega arith) (omega arith) l sums low h)

-- no register so far
begin : (list n k : ℕ) → k + n ≡ 16 → list % 2 ^ k ≡ 0 → 0 < list % 2 ^ 16 → listing opened (closed (from list k n)) ≡ Some (list % 2 ^ 16, [])
begin list zero k e none some = absurd (let at : k ≡ 16 = omega arith in let same : list % 2 ^ k ≡ list % 2 ^ 16 = ap (λ j. list % 2 ^ j) at in omega arith)
begin list (suc n) k e none some = by_bit (is_listed list k) refl (begin list n (k + 1))
  where
    next : k + 1 ≡ 1 + k
    next = omega arith

    split : list % 2 ^ (k + 1) ≡ (list / 2 ^ k % 2 ^ 1) * 2 ^ k + list % 2 ^ k
    split = ap (λ j. list % 2 ^ j) next ∙ mod-pow-add list 1 k

    by_bit : (b : Bool) → is_listed list k ≡ b
        → ((k + 1) + n ≡ 16 → list % 2 ^ (k + 1) ≡ 0 → 0 < list % 2 ^ 16 → listing opened (closed (from list (k + 1) n)) ≡ Some (list % 2 ^ 16, []))
        → listing opened (closed (if is_listed list k then k ∷ from list (k + 1) n else from list (k + 1) n)) ≡ Some (list % 2 ^ 16, [])
    by_bit true is rest =
        let bit : list / 2 ^ k % 2 ≡ 1 = eqb-true (list / 2 ^ k % 2) 1 is in
        let sums : 0 + 2 ^ k ≡ list % 2 ^ (k + 1) = (let s = split in grind (arith, s, bit, none)) in
        rw is (walk list n (k + 1) k 0 (omega arith) (omega arith) (omega arith) sums 0 (omega arith))
    by_bit false is rest =
        let bit : list / 2 ^ k % 2 ≡ 0 = not_one (list / 2 ^ k % 2) (omega arith) is in
        let sums : list % 2 ^ (k + 1) ≡ 0 = (let s = split in grind (arith, s, bit, none)) in
        rw is (rest (omega arith) sums some)

pub list_read : (list : ℕ) → list < 2 ^ 16 → 0 < list → take_list (Mark 0x7b ∷ closed (from list 0 16)) ≡ Some (list, [])
unfolding take_list
list_read list h some =
    let same : list % 2 ^ 16 ≡ list = omega arith in
    begin list 16 0 (omega arith) (omega arith) (omega arith) ∙ ap (λ n. Some (n, [])) same
