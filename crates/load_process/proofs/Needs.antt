-- What a name needs, and its number, once one more module has joined.
use Rattle.std.proofs.Common.{◌≡◌, ◌≢◌, ℕ, Bool, true, false, cond, List, [], ◌∷◌, ◌++◌, get_or, refl, sym, ap, ◌∙◌, All, Some, None}
use Rattle.std.specs.Prelude.{option_map, option_and_then}
use Rattle.std.specs.Option.{option_map_or, option_or}
use Rattle.std.specs.Str.{bytes_eq}
use Rattle.std.proofs.lemmas.Slice.Eq.{bytes_eq-Decides}
use Rattle.std.proofs.lemmas.List.Folds.{find-append}
use Rattle.fd_base.proofs.Finding.{find_none}
use Rattle.fd_base.proofs.Options.{or_none}
use Rattle.elf_model.specs.declared.object.Object.{Object}
use Rattle.load_model.specs.declared.module.Joining.{Joining}
use Rattle.load_model.specs.declared.module.SymbolicProcess.{SymbolicProcess}
use Rattle.load_model.specs.Process.{number_of, object_at}
use Rattle.load_model.specs.Walk.{joining_named, number_among, needed_by}

pub not_true : (b : Bool) → (b ≡ true → ⊥) → b ≡ false
not_true true fails = absurd (fails refl)
not_true false fails = refl

pub other_bytes : (a b : List ℕ) → a ≢ b → bytes_eq a b ≡ false
other_bytes a b ne = not_true (bytes_eq a b) (λ e. ne ((bytes_eq-Decides a b).0 e))

-- ---- one more module

pub named_more : (joining : List Joining) (j : Joining) (x : List ℕ) → x ≢ j.name → joining_named (joining ++ j ∷ []) x ≡ joining_named joining x
named_more joining j x ne =
    let apart : bytes_eq j.name x ≡ false = other_bytes j.name x (λ e. ne (sym e)) in
    find-append (λ k. bytes_eq k.name x) joining (j ∷ [])
    ∙ ap (λ b. option_or (joining_named joining x) (cond b (Some j) None)) apart ∙ or_none (joining_named joining x)

pub number_more : (p : SymbolicProcess) (joining : List Joining) (j : Joining) (x : List ℕ) → x ≢ j.name → number_among p (joining ++ j ∷ []) x ≡ number_among p joining x
number_more p joining j x ne = ap (λ o. option_or (number_of p x) (option_map (λ k. k.number) o)) (named_more joining j x ne)

pub needed_more : (p : SymbolicProcess) (joining : List Joining) (j : Joining) (x : List ℕ) → x ≢ j.name → needed_by p (joining ++ j ∷ []) x ≡ needed_by p joining x
needed_more p joining j x ne =
    ap (λ o. option_map_or (λ (t : Object). t.needed) (option_or (option_and_then (object_at p) (number_of p x)) (option_map (λ k. k.object) o)) [])
    (named_more joining j x ne)

-- the one that joined is found by its name
pub named_new : (joining : List Joining) (j : Joining) (x : List ℕ) → j.name ≡ x → All (λ k. k.name ≢ x) joining → joining_named (joining ++ j ∷ []) x ≡ Some j
named_new joining j x is others =
    let none : joining_named joining x ≡ None = find_none (λ k. bytes_eq k.name x) joining (λ k d lt. other_bytes (get_or joining k d).name x (others k d lt)) in
    find-append (λ k. bytes_eq k.name x) joining (j ∷ [])
    ∙ ap (λ o. option_or o (cond (bytes_eq j.name x) (Some j) None)) none ∙ ap (λ b. cond b (Some j) None) ((bytes_eq-Decides j.name x).1 is)

pub number_new : (p : SymbolicProcess) (joining : List Joining) (j : Joining) (x : List ℕ) → j.name ≡ x → All (λ k. k.name ≢ x) joining → number_of p x ≡ None
    → number_among p (joining ++ j ∷ []) x ≡ Some j.number
number_new p joining j x is others new =
    ap (λ o. option_or o (option_map (λ k. k.number) (joining_named (joining ++ j ∷ []) x))) new
    ∙ ap (option_map (λ k. k.number)) (named_new joining j x is others)

pub number_live : (p : SymbolicProcess) (joining : List Joining) (x : List ℕ) (m : ℕ) → number_of p x ≡ Some m → number_among p joining x ≡ Some m
number_live p joining x m live = ap (λ o. option_or o (option_map (λ k. k.number) (joining_named joining x))) live
