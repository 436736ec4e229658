-- Entries with all their words.
use Rattle.std.proofs.Common.{◌≡◌, ℕ, ◌+◌, ◌-◌, ◌*◌, ◌%◌, ◌≤◌, true, cond, ◌&&◌, ◌==◌, List, [], ◌∷◌, ◌++◌, length, Some, None, refl, ap, ◌∙◌, arith}
use Rattle.std.specs.Prelude.{nat_le, option_and_then}
use Rattle.std.proofs.lemmas.Bool.{and_from, and_parts, eqb-true}
use Rattle.std.proofs.lemmas.Bool.Decides.{nat_tests}
use Rattle.elf_model.specs.declared.object.Object.{Object}
use Rattle.elf_model.specs.declared.object.Rel.{Rel}
use Rattle.elf_model.specs.declared.object.Segment.{Segment}
use Rattle.elf_model.specs.Places.{file_word}
use Rattle.plt_code.specs.Words.{call_words, lazy_words}
use Rattle.plt_code.specs.Standing.{is_code_in, stand_at}
use Rattle.fd_base.specs.Sums.{minus}
use Rattle.plt_code.specs.Entries.{IsPltEntry, is_lazy, is_lazy_from, lazy_at, lazy_place}
use Rattle.plt_code.specs.parts.Laws.{IsWholeEntry, WholeEntriesAreFound}
use Rattle.plt_code.proofs.Within.{in_code, code_of}

-- what stands is code in each part
code_part : (ss : List Segment) (v n a m : ℕ) → is_code_in ss v n ≡ true → a + m ≤ n → is_code_in ss (v + a) m ≡ true
code_part ss v n a m h le =
    let c = in_code ss v n h in
    code_of ss c.place (v + a) m c.segment c.held c.executable (omega (arith, c.begin)) (omega (arith, c.end))

-- the words of an entry, part by part
pub record Parts (ss : List Segment) (v l1 l2 : ℕ) : Type 0 where
  pub call : stand_at ss v call_words ≡ true
  pub offset : file_word ss (v + 16) ≡ l1
  pub lazy : stand_at ss (v + 20) (l2 ∷ lazy_words) ≡ true

front : (ss : List Segment) (v : ℕ) (xs ys : List ℕ) → stand_at ss v (xs ++ ys) ≡ true → (stand_at ss v xs ≡ true) × (stand_at ss (v + 4 * length xs) ys ≡ true)
front ss v [] ys h = (refl, ap (λ a. stand_at ss a ys) (omega arith) ∙ h)
front ss v (x ∷ xs) ys h =
    let one = and_parts (file_word ss v == x) (stand_at ss (v + 4) (xs ++ ys)) h in
    let rest = front ss (v + 4) xs ys one.1 in
    (and_from (file_word ss v == x) (stand_at ss (v + 4) xs) one.0 rest.0, ap (λ a. stand_at ss a ys) (omega arith) ∙ rest.1)

word_parts : (ss : List Segment) (v l1 l2 : ℕ) → stand_at ss v (call_words ++ l1 ∷ l2 ∷ lazy_words) ≡ true → Parts ss v l1 l2
word_parts ss v l1 l2 h =
    let two = front ss v call_words (l1 ∷ l2 ∷ lazy_words) h in
    let behind : stand_at ss (v + 16) (l1 ∷ l2 ∷ lazy_words) ≡ true = two.1 in
    let one = and_parts (file_word ss (v + 16) == l1) (stand_at ss (v + 16 + 4) (l2 ∷ lazy_words)) behind in
    record {
      call = two.0;
      offset = eqb-true (file_word ss (v + 16)) l1 one.0;
      lazy = ap (λ a. stand_at ss a (l2 ∷ lazy_words)) (omega arith) ∙ one.1;
    }

found : (o : Object) (at slot : ℕ) → IsWholeEntry o at slot → IsPltEntry o at slot
found o at slot w =
    let parts = word_parts o.segments at (minus (w.rel).site o.got) (8 * slot) w.words in
    record {
      rel = w.rel;
      is_slot = w.is_slot;
      aligned = w.aligned;
      code = ap (λ v. is_code_in o.segments v 20) (omega arith) ∙ code_part o.segments at 40 0 20 w.code (omega arith);
      words = parts.call;
      offset = parts.offset;
      near = w.near;
    }

found_lazy : (o : Object) (at slot : ℕ) → IsWholeEntry o at slot → lazy_place o slot ≡ Some (at + 24)
found_lazy o at slot w =
    let parts = word_parts o.segments at (minus (w.rel).site o.got) (8 * slot) w.words in
    let code : is_code_in o.segments (at + 20) 20 ≡ true = code_part o.segments at 40 20 20 w.code (omega arith) in
    let from : is_lazy_from o.segments slot (at + 20) ≡ true = and_from (is_code_in o.segments (at + 20) 20) (stand_at o.segments (at + 20) (8 * slot ∷ lazy_words)) code parts.lazy in
    let before : is_lazy_from o.segments slot (at + 24 - 4) ≡ true = ap (is_lazy_from o.segments slot) (omega arith) ∙ from in
    let al : ((at + 24) % 4 == 0) ≡ true = let aligned = w.aligned in grind (arith, nat_tests) in
    let low : nat_le 4 (at + 24) ≡ true = grind (arith, nat_tests) in
    let there : is_lazy o.segments slot (at + 24) ≡ true
    = and_from ((at + 24) % 4 == 0) (nat_le 4 (at + 24) && is_lazy_from o.segments slot (at + 24 - 4)) al (and_from (nat_le 4 (at + 24)) (is_lazy_from o.segments slot (at + 24 - 4)) low before) in
    ap (option_and_then (λ (r : Rel). lazy_at o.segments slot r.site)) w.is_slot
    ∙ ap (λ z. cond (is_lazy o.segments slot z) (Some z) None) w.leads
    ∙ ap (λ b. cond b (Some (at + 24)) None) there

pub whole_entries_are_found : WholeEntriesAreFound
whole_entries_are_found = record { entry = found; lazy = found_lazy }
