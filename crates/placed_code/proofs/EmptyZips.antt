-- Nothing is left of two lists side by side.
use Rattle.std.proofs.Common.{◌≡◌, ℕ, zero, suc, List, [], ◌∷◌, None, length, drop, refl, ap, sym, ◌∙◌, arith}
use Rattle.std.specs.Prelude.{find, min, option_map}
use Rattle.std.specs.List.{zip}
use Rattle.load_map.specs.declared.entry.MapEntry.{MapEntry}
use Rattle.elf_model.specs.declared.object.Object.{Object}
use Rattle.placed_code.specs.Places.{code_in, is_code_of, link_of}

zip_drop : {A B : Type 0} → (xs : List A) (ys : List B) (n : ℕ) → n ≡ min (length xs) (length ys) → zip (drop n xs) (drop n ys) ≡ []
zip_drop [] ys n e = let none : n ≡ 0 = omega arith in rw none refl
zip_drop (x ∷ xs) [] n e = let none : n ≡ 0 = omega arith in rw none refl
zip_drop (x ∷ xs) (y ∷ ys) zero e = absurd (omega arith)
zip_drop (x ∷ xs) (y ∷ ys) (suc n) e = zip_drop xs ys n (omega arith)

pub none_left : (a m : ℕ) (o : Object) (load_map : List MapEntry) (n : ℕ) → n ≡ min (length o.segments) (length load_map)
    → find (is_code_of a) (zip (drop n o.segments) (drop n load_map)) ≡ find (is_code_of a) (zip o.segments load_map) → None ≡ code_in a m o load_map
none_left a m o load_map n e h = ap (option_map (link_of a m)) (sym (ap (find (is_code_of a)) (zip_drop o.segments load_map n e)) ∙ h)
