-- What is decoded is a row's instruction.
use Rattle.std.proofs.Common.{◌≡◌, ◌≢◌, ℕ, zero, suc, ◌+◌, ◌/◌, ◌%◌, ◌^◌, ◌<◌, Bool, true, false, cond, ◌∷◌, Option, Some, None, IfSome, refl, ap, ◌∙◌, sym, arith, tests}
use Rattle.std.specs.Prelude.{◌==◌}
use Rattle.std.proofs.lemmas.Bool.{eqb-true, eqb-false}
use Rattle.std.proofs.lemmas.Nat.{mod_below}
use Rattle.std.proofs.Math.Nat.{mod-eq_of_lt}
use Rattle.a32_isa.specs.Fields.{◌of◌, bit, field, flag}
use Rattle.a32_isa.specs.Allowed.{is_allowed}
use Rattle.a32_isa.specs.Table.{IsInstruction, op_fields, half_load, half_code}
use Rattle.a32_isa.specs.Decoding.{data_of, multiply_of, half_with_kind, half_class_of, misc_of, register_class_of, wide_of, of_class, candidate_of, with_condition, decode_of}
use Rattle.a32_isa.proofs.Fields.{Has, Has-number, Has-fit, flag-bit}
use Rattle.a32_isa.proofs.Widths.{twenty_eight}
use Rattle.a32_isa.specs.declared.instr.Op.{Op}
use Rattle.a32_isa.specs.declared.instr.Arg.TheVariants.{Imm, ByReg}

-- an operation has the word's fields, where there is one
abbrev Reads : ℕ → Option Op → Type 0
Reads w None = Unit {0}
Reads w (Some op) = Has w (op_fields op)

-- a test that is made on the way to an operation
on_test : (w : ℕ) (b : Bool) (x y : Option Op) → (b ≡ true → Reads w x) → (b ≡ false → Reads w y) → Reads w (cond b x y)
on_test w true x y f g = f refl
on_test w false x y f g = g refl

on_eq : (w a k : ℕ) (x y : Option Op) → (a ≡ k → Reads w x) → (a ≢ k → Reads w y) → Reads w (cond (a == k) x y)
on_eq w a k x y f g = on_test w (a == k) x y (λ e. f (eqb-true a k e)) (λ e. g (eqb-false a k e))

-- a bit that a test has told
set_bit : (w low : ℕ) → flag w low ≡ true → field w low 1 ≡ 1
set_bit w low h = flag-bit w low ∙ ap bit h

clear_bit : (w low : ℕ) → flag w low ≡ false → field w low 1 ≡ 0
clear_bit w low h = flag-bit w low ∙ ap bit h

multiply_reads : (w : ℕ) → field w 25 3 ≡ 0 → field w 4 1 ≡ 1 → field w 7 1 ≡ 1 → field w 5 2 ≡ 0 → Reads w (multiply_of w)
unfolding multiply_of
multiply_reads w c f4 f7 k =
    on_eq w (field w 23 2) 1 _ _ (λ e. (c, (e, (refl, (flag-bit w 20, (refl, (refl, (refl, (f7, (k, (f4, (refl, tt))))))))))))
    (λ _. on_eq w (field w 23 2) 0 _ _ (λ e.
    on_eq w (field w 21 2) 0 _ _ (λ e'. on_eq w (field w 12 4) 0 _ _ (λ z. (c, (e, (e', (flag-bit w 20, (refl, (z, (refl, (f7, (k, (f4, (refl, tt)))))))))))) (λ _. tt))
    (λ _. on_eq w (field w 21 2) 1 _ _ (λ e'. (c, (e, (e', (flag-bit w 20, (refl, (refl, (refl, (f7, (k, (f4, (refl, tt)))))))))))) (λ _. tt)))
    (λ _. tt))

half_reads : (w kind : ℕ) → field w 25 3 ≡ 0 → field w 4 1 ≡ 1 → field w 7 1 ≡ 1 → field w 20 1 ≡ half_load kind → field w 5 2 ≡ half_code kind → Reads w (half_with_kind w kind)
unfolding half_with_kind
half_reads w kind c f4 f7 l k =
    let low : field w 0 4 < 16 = mod_below (w / 2 ^ 0) 16 (omega arith) in
    on_test w (flag w 22) _ _
    (λ i. (c, (flag-bit w 24, (flag-bit w 23, (set_bit w 22 i, (flag-bit w 21, (l, (refl, (refl, (omega arith, (f7, (k, (f4, (omega arith, tt))))))))))))))
    (λ i. on_eq w (field w 8 4) 0 _ _ (λ z. (c, (flag-bit w 24, (flag-bit w 23, (clear_bit w 22 i, (flag-bit w 21, (l, (refl, (refl, (z, (f7, (k, (f4, (refl, tt)))))))))))))) (λ _. tt))

half_class_reads : (w : ℕ) → field w 25 3 ≡ 0 → field w 4 1 ≡ 1 → field w 7 1 ≡ 1 → field w 5 2 ≢ 0 → Reads w (half_class_of w)
unfolding half_class_of
half_class_reads w c f4 f7 k =
    on_test w (flag w 20) _ _ (λ l. half_reads w (field w 5 2) c f4 f7 (set_bit w 20 l ∙ sym (loads (field w 5 2) k)) (sym (codes (field w 5 2) k)))
    (λ l. on_eq w (field w 5 2) 1 _ _ (λ e. half_reads w 0 c f4 f7 (clear_bit w 20 l) e) (λ _. tt))
  where
    loads : (n : ℕ) → n ≢ 0 → half_load n ≡ 1
    loads zero h = absurd (h refl)
    loads (suc n) h = grind (arith, tests)

    codes : (n : ℕ) → n ≢ 0 → half_code n ≡ n
    codes zero h = absurd (h refl)
    codes (suc n) h = grind (arith, tests)

misc_reads : (w : ℕ) → field w 25 3 ≡ 0 → field w 4 1 ≡ 1 → field w 7 1 ≡ 0 → Reads w (misc_of w)
unfolding misc_of
misc_reads w c f4 f7 =
    on_test w (flag w 20) _ _ (λ _. tt) (λ s. on_eq w (field w 21 4) 11 _ _
    (λ o. on_eq w (field w 16 4) 15 _ _ (λ a. on_eq w (field w 8 4) 15 _ _ (λ b. on_eq w (field w 5 2) 0 _ _
    (λ k. (c, (o, (clear_bit w 20 s, (a, (refl, (b, (f7, (k, (f4, (refl, tt))))))))))) (λ _. tt)) (λ _. tt)) (λ _. tt))
    (λ _. on_eq w (field w 21 4) 9 _ _ (λ o. on_eq w (field w 8 12) 0xfff _ _
    (λ a. on_eq w (field w 5 2) 0 _ _ (λ k. (c, (o, (clear_bit w 20 s, (a, (f7, (k, (f4, (refl, tt)))))))))
    (λ _. on_eq w (field w 5 2) 1 _ _ (λ k. (c, (o, (clear_bit w 20 s, (a, (f7, (k, (f4, (refl, tt))))))))) (λ _. tt)))
    (λ _. tt)) (λ _. tt)))

registers_reads : (w : ℕ) → field w 25 3 ≡ 0 → Reads w (register_class_of w)
unfolding register_class_of
registers_reads w c =
    on_test w (flag w 4) _ _
    (λ f4. on_test w (flag w 7) _ _
    (λ f7. on_eq w (field w 5 2) 0 _ _ (multiply_reads w c (set_bit w 4 f4) (set_bit w 7 f7)) (half_class_reads w c (set_bit w 4 f4) (set_bit w 7 f7)))
    (λ f7. on_test w (is_allowed (data_of w (ByReg (field w 8 4) (field w 5 2) (field w 0 4)))) _ _
    (λ _. (c, (refl, (flag-bit w 20, (refl, (refl, (refl, (clear_bit w 7 f7, (refl, (set_bit w 4 f4, (refl, tt)))))))))))
    (λ _. misc_reads w c (set_bit w 4 f4) (clear_bit w 7 f7))))
    (λ f4. (c, (refl, (flag-bit w 20, (refl, (refl, (refl, (refl, (clear_bit w 4 f4, (refl, tt))))))))))

wide_reads : (w : ℕ) → field w 25 3 ≡ 1 → Reads w (wide_of w)
unfolding wide_of
wide_reads w c =
    let low : field w 0 12 < 4096 = mod_below (w / 2 ^ 0) 4096 (omega arith) in
    on_test w (flag w 20) _ _ (λ _. tt) (λ s. on_eq w (field w 21 4) 8 _ _ (λ o. (c, (o, (clear_bit w 20 s, (omega arith, (refl, (omega arith, tt)))))))
    (λ _. on_eq w (field w 21 4) 10 _ _ (λ o. (c, (o, (clear_bit w 20 s, (omega arith, (refl, (omega arith, tt)))))))
    (λ _. on_eq w (field w 21 4) 9 _ _ (λ o. on_eq w (field w 0 20) 0xf000 _ _ (λ a. (c, (o, (clear_bit w 20 s, (a, tt))))) (λ _. tt)) (λ _. tt))))

by_class : (w : ℕ) → Reads w (of_class w (field w 25 3))
by_class w =
    on_eq w (field w 25 3) 0 _ _ (registers_reads w)
    (λ _. on_eq w (field w 25 3) 1 _ _ (λ c. on_test w (is_allowed (data_of w (Imm (field w 8 4) (field w 0 8)))) _ _ (λ _. (c, (refl, (flag-bit w 20, (refl, (refl, (refl, (refl, tt)))))))) (λ _. wide_reads w c))
    (λ _. on_eq w (field w 25 3) 2 _ _ (λ c. (c, (flag-bit w 24, (flag-bit w 23, (flag-bit w 22, (flag-bit w 21, (flag-bit w 20, (refl, (refl, (refl, tt))))))))))
    (λ _. on_eq w (field w 25 3) 3 _ _ (λ c. on_test w (flag w 4) _ _ (λ _. tt)
    (λ f4. (c, (flag-bit w 24, (flag-bit w 23, (flag-bit w 22, (flag-bit w 21, (flag-bit w 20, (refl, (refl, (refl, (refl, (clear_bit w 4 f4, (refl, tt))))))))))))))
    (λ _. on_eq w (field w 25 3) 4 _ _ (λ c. on_test w (flag w 22) _ _ (λ _. tt)
    (λ f. (c, (flag-bit w 24, (flag-bit w 23, (clear_bit w 22 f, (flag-bit w 21, (flag-bit w 20, (refl, (refl, tt))))))))))
    (λ _. on_eq w (field w 25 3) 5 _ _ (λ c. (c, (flag-bit w 24, (refl, tt))))
    (λ _. on_eq w (field w 25 3) 7 _ _ (λ c. on_test w (flag w 24) _ _ (λ f. (c, (set_bit w 24 f, (refl, tt)))) (λ _. tt)) (λ _. tt)))))))

-- with the condition in front
condition_reads : (w : ℕ) (op : Op) → Has w (op_fields op) → Has w (4 of field w 28 4 ∷ op_fields op)
condition_reads w op h = (ap (λ k. field w k 4) (twenty_eight op), h)

sound_allowed : (w : ℕ) (op : Op) (a : Bool) → is_allowed op ≡ a → w < 2 ^ 32 → field w 28 4 ≢ 15 → Has w (op_fields op)
    → IfSome (cond a (Some (record { cond = field w 28 4; op = op })) None) (IsInstruction w)
sound_allowed w op false e l ne h = tt
sound_allowed w op true e l ne h = record {
  instr = record {
    cond = let lt : field w 28 4 < 16 = mod_below (w / 2 ^ 28) 16 (omega arith) in omega (arith, ne);
    allowed = e;
    fit = Has-fit w (4 of field w 28 4 ∷ op_fields op) (condition_reads w op h);
  };
  word = sym (ap (λ k. w % 2 ^ (4 + k)) (twenty_eight op) ∙ mod-eq_of_lt l) ∙ Has-number w (4 of field w 28 4 ∷ op_fields op) (condition_reads w op h);
}

sound_with : (w : ℕ) (o : Option Op) (a : Bool) → (field w 28 4 == 15) ≡ a → w < 2 ^ 32 → Reads w o → IfSome (cond a None (with_condition (field w 28 4) o)) (IsInstruction w)
sound_with w o true f l h = tt
sound_with w None false f l h = tt
sound_with w (Some op) false f l h = sound_allowed w op (is_allowed op) refl l (eqb-false (field w 28 4) 15 f) h

-- what is decoded is a row's instruction
pub decode_of-row : (w : ℕ) → w < 2 ^ 32 → IfSome (decode_of w) (IsInstruction w)
unfolding decode_of candidate_of
decode_of-row w l = sound_with w (of_class w (field w 25 3)) (field w 28 4 == 15) refl l (by_class w)
