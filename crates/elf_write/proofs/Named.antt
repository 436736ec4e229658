-- What is known of a name that can be written.
use Rattle.std.proofs.Common.{◌≡◌, ℕ, ◌<◌, ◌≤◌, List, length, Option, Some, None, refl, arith}
use Rattle.std.specs.Prelude.{option_map, ◌==◌, nat_lt}
use Rattle.std.proofs.lemmas.Bool.{eqb-false, ltb-false}
use Rattle.fd_base.proofs.Options.{cond_none_parts}
use Rattle.fd_base.specs.Name.{first_zero}
use Rattle.elf_model.specs.RelSound.{IsNameText}

pub record IsText (name : List ℕ) : Type 0 where
  pub some : 0 < length name
  pub short : length name ≤ 255
  pub no_zero : first_zero name ≡ None

none_of_map : {X Y : Type 0} (f : X → Y) (o : Option X) → option_map f o ≡ None → o ≡ None
none_of_map f None e = refl
none_of_map f (Some x) e = absurd cc

pub text_of : (name : List ℕ) → IsNameText name → IsText name
text_of name is =
    let empty = cond_none_parts (length name == 0) _ _ is in
    let long = cond_none_parts (nat_lt 255 (length name)) _ _ empty.1 in
    let some = eqb-false (length name) 0 empty.0 in
    record { some = omega (arith, some); short = ltb-false 255 (length name) long.0; no_zero = none_of_map _ (first_zero name) long.1 }
