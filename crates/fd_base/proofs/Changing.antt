-- What a put of one file leaves of the others, and how counts of faults rise.
use Rattle.std.proofs.Common.{◌≡◌, ◌≢◌, ℕ, ◌≤◌, inl, inr, false, cond, Option, Some, None, List, refl, sym, ap, ◌∙◌, arith}
use Rattle.std.specs.declared.cmp.Ordering.TheVariants.{Less, Equal, Greater}
use Rattle.std.specs.Ordering.{nat_cmp, eq_by_cmp, is_eq}
use Rattle.std.specs.Cmp.{eq_by_cmp_equiv}
use Rattle.std.specs.Cmp.Lexicographic.{slice_cmp, nat_list_cmp_total}
use Rattle.std.proofs.lemmas.Bool.{cases_lt}
use Rattle.std.specs.FinMap.{get, get-insert, slice_cmp-IsAntisymmetric, nat_cmp-IsAntisymmetric}
use Rattle.std.specs.Option.{option_map}
use Rattle.fd_base.specs.Faults.{Rose}
use Rattle.fd_base.specs.Fetched.{Files, ChangesOnly, with_file}

-- two names that differ are told apart
pub other_name : (name other : List ℕ) → other ≢ name → eq_by_cmp (slice_cmp nat_cmp) name other ≡ false
other_name name other apart =
    elim (slice_cmp nat_cmp name other) as (λ r. slice_cmp nat_cmp name other ≡ r → is_eq r ≡ false) [
      | Less ↦ λ p. refl
      | Equal ↦ λ p. absurd (apart (sym (slice_cmp-IsAntisymmetric nat_cmp-IsAntisymmetric name other p)))
      | Greater ↦ λ p. refl
    ] refl

-- a file that was put is there
pub get-with_file : (name bytes : List ℕ) (told : Files) → get (with_file name bytes told) name ≡ Some bytes
get-with_file name bytes told =
    get-insert nat_list_cmp_total told name bytes name ∙ ap (λ b. cond b (Some bytes) (get told name)) ((eq_by_cmp_equiv nat_list_cmp_total).refl name)

-- another file is what it was
pub get-with_file-other : (name bytes other : List ℕ) (told : Files) → other ≢ name → get (with_file name bytes told) other ≡ get told other
get-with_file-other name bytes other told apart =
    get-insert nat_list_cmp_total told name bytes other ∙ ap (λ b. cond b (Some bytes) (get told other)) (other_name other name (λ p. apart (sym p)))

-- a put changes no other file
pub put_keeps_others : (name bytes : List ℕ) (old new : Option Files) → new ≡ option_map (with_file name bytes) old → ChangesOnly name old new
put_keeps_others name bytes None new e = e
put_keeps_others name bytes (Some told) new e = rw e (λ other apart. get-with_file-other name bytes other told apart)

-- where nothing changes, no other file does
pub same_others : (name : List ℕ) (old new : Option Files) → new ≡ old → ChangesOnly name old new
same_others name None new e = e
same_others name (Some told) new e = rw e (λ other apart. refl)

-- a count that rose after a moment has risen since then
pub rose_earlier : (first old new : ℕ) → first ≤ old → old ≤ new → Rose old new → Rose first new
rose_earlier first old new before after (inl more) = inl (omega arith)
rose_earlier first old new before after (inr last) = elim (cases_lt first old) [
  | inl less ↦ inl (omega arith)
  | inr same ↦ inr (omega arith)
]

-- a count that rose has risen at each later moment
pub rose_later : (old new later : ℕ) → new ≤ later → Rose old new → Rose old later
rose_later old new later after (inl more) = inl (omega arith)
rose_later old new later after (inr last) = inr last
