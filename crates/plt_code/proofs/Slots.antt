-- A table of slots by their offsets grows.
use Rattle.std.proofs.Common.{◌≡◌, ◌≢◌, ℕ, ◌+◌, ◌<◌, Bool, true, false, cond, List, length, get_or, Option, Some, None, refl, sym, ap, ◌∙◌, inl, inr, arith}
use Rattle.std.specs.Prelude.{slice_get}
use Rattle.std.specs.BTreeMap as tree
use Rattle.std.specs.BTreeMap.{BTreeMap}
use Rattle.std.specs.Ordering.{nat_cmp, is_eq}
use Rattle.std.proofs.lemmas.Bool.{cases_lt}
use Rattle.std.proofs.lemmas.Bool.Decides.{nat_tests}
use Rattle.std.proofs.lemmas.Option.{slice_get-get_or, get_or_from_slice_get}
use Rattle.elf_model.specs.declared.object.Rel.{Rel}
use Rattle.fd_base.specs.Sums.{minus}
use Rattle.plt_code.specs.Table.{HasOffsets}

same_key : (a b : ℕ) → is_eq (nat_cmp a b) ≡ true → a ≡ b
same_key a b h = grind (arith, nat_tests)

own_key : (a : ℕ) → is_eq (nat_cmp a a) ≡ true
own_key a = grind (arith, nat_tests)

pub slots_more : (got : ℕ) (slots : List Rel) (k : ℕ) (d : Rel) (table new : BTreeMap ℕ ℕ) → k < length slots
    → ((q : ℕ) → tree.get nat_cmp new q ≡ cond (is_eq (nat_cmp (minus (get_or slots k d).site got) q)) (Some k) (tree.get nat_cmp table q))
    → HasOffsets got slots k table → HasOffsets got slots (k + 1) new
slots_more got slots k d table new within updates has = record {
  found = λ l j e. found l j (is_eq (nat_cmp (minus (get_or slots k d).site got) l)) refl (sym (updates l) ∙ e);
  all = λ j r lt is e. elim (cases_lt j k) [
    | inl below ↦ there (is_eq (nat_cmp (minus (get_or slots k d).site got) (minus (r).site got))) _ (has.all j r below is) (sym (updates (minus (r).site got)) ∙ e)
    | inr at ↦
        let same : j ≡ k = omega arith in
        let rel : r ≡ get_or slots k d = sym (get_or_from_slice_get slots j r d is) ∙ ap (λ n. get_or slots n d) same in
        let key : is_eq (nat_cmp (minus (get_or slots k d).site got) (minus (r).site got)) ≡ true
        = ap (λ (x : Rel). is_eq (nat_cmp (minus (get_or slots k d).site got) (minus x.site got))) rel ∙ own_key (minus (get_or slots k d).site got) in
        let some : Some k ≡ None
        = sym (ap (λ b. cond b (Some k) (tree.get nat_cmp table (minus (r).site got))) key) ∙ (sym (updates (minus (r).site got)) ∙ e) in
        cc
  ];
}
  where
    found : (l j : ℕ) (b : Bool) → is_eq (nat_cmp (minus (get_or slots k d).site got) l) ≡ b → cond b (Some k) (tree.get nat_cmp table l) ≡ Some j
        → (r : Rel) × ((slice_get slots j ≡ Some r) × (minus r.site got ≡ l))
    found l j true same e =
        let is : k ≡ j = cc in
        (get_or slots k d, (ap (slice_get slots) (sym is) ∙ slice_get-get_or slots k d within, same_key (minus (get_or slots k d).site got) l same))
    found l j false other e = has.found l j e

    there : (b : Bool) (old : Option ℕ) → old ≢ None → cond b (Some k) old ≡ None → ⊥
    there true old some e = cc
    there false old some e = some e
