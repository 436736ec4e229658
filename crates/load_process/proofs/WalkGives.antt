-- What a walk over needed names gives.
use Rattle.std.proofs.Common.{◌≡◌, ◌≢◌, ℕ, zero, suc, ◌<◌, inl, inr, Some, None, List, [], ◌∷◌, length, refl, sym, ap, ◌∙◌, subst, arith, All}
use Rattle.std.specs.Prelude.{not, slice_get, Contains, AllPairs}
use Rattle.std.specs.Option.{option_map_or}
use Rattle.std.specs.List.{range_with_len}
use Rattle.std.specs.Str.{bytes_eq}
use Rattle.std.proofs.lemmas.Slice.Eq.{bytes_eq-Decides}
use Rattle.std.proofs.lemmas.Bool.{cases_lt}
use Rattle.std.proofs.lemmas.List.Elements.{All-filter}
use Rattle.std.proofs.lemmas.List.Kept.{AllPairs-filter}
use Rattle.fd_base.proofs.Lists.{take-slice_get, range_rising, range_below, none_at}
use Rattle.fd_base.proofs.Options.{none_of_not}
use Rattle.symbol_scope.specs.Closure.{with_new}
use Rattle.symbol_scope.specs.declared.tables.TheConstants.{MAX_MODULES}
use Rattle.symbol_scope.proofs.Growing.{has_contained, contained_has, kept, gained, once_more, take-with_new}
use Rattle.load_model.specs.declared.module.SymbolicProcess.{SymbolicProcess}
use Rattle.load_model.specs.Process.{live_at, is_live, free_numbers}
use Rattle.load_model.specs.Walk.{found_after}
use Rattle.load_process.proofs.Lists.{at_some}
use Rattle.fd_base.proofs.Members.{in_filter, all_contained}

-- ---- the names that are found

abbrev Names : Type 0
Names = List (List ℕ)

abbrev Needs : Type 0
Needs = List ℕ → Names

pub with_contains_old : (seen more : Names) (x : List ℕ) → Contains seen x → Contains (with_new bytes_eq seen more) x
with_contains_old seen more x c =
    contained_has bytes_eq bytes_eq-Decides (with_new bytes_eq seen more) x (kept bytes_eq seen more x (has_contained bytes_eq bytes_eq-Decides seen x c))

pub with_contains_new : (seen more : Names) (x : List ℕ) → Contains more x → Contains (with_new bytes_eq seen more) x
with_contains_new seen more x c =
    contained_has bytes_eq bytes_eq-Decides (with_new bytes_eq seen more) x (gained bytes_eq bytes_eq-Decides seen more x (has_contained bytes_eq bytes_eq-Decides more x c))

-- what was found stays at its place
found_stays : (seen more : Names) (k : ℕ) → k < length seen → slice_get (with_new bytes_eq seen more) k ≡ slice_get seen k
found_stays seen more k lt =
    let last : k < suc k = omega arith in
    sym (take-slice_get (suc k) k (with_new bytes_eq seen more) last)
    ∙ ap (λ l. slice_get l k) (take-with_new bytes_eq (suc k) seen more (omega arith))
    ∙ take-slice_get (suc k) k seen last

one_name : (root : List ℕ) → AllPairs (λ x y. x ≢ y) (root ∷ [])
one_name root i j d lt within = absurd (omega arith)

pub found_once : (needs : Needs) (root : List ℕ) (n : ℕ) → AllPairs (λ x y. x ≢ y) (found_after needs root n)
found_once needs root zero = one_name root
found_once needs root (suc n) =
    once_more bytes_eq bytes_eq-Decides (found_after needs root n) (option_map_or needs (slice_get (found_after needs root n) n) []) (found_once needs root n)

-- what the first n names need is found
pub needs_found : (needs : Needs) (root : List ℕ) (n k : ℕ) (x y : List ℕ) → k < n → slice_get (found_after needs root n) k ≡ Some x → Contains (needs x) y → Contains (found_after needs root n) y
needs_found needs root zero k x y lt at c = absurd (omega arith)
needs_found needs root (suc n) k x y lt at c =
    let seen : Names = found_after needs root n in
    elim (slice_get seen n) as (λ o. slice_get seen n ≡ o → slice_get (with_new bytes_eq seen (option_map_or needs o [])) k ≡ Some x → Contains (with_new bytes_eq seen (option_map_or needs o [])) y) [
      | None ↦ λ e at.
          let short = none_at seen n e in
          let within = (at_some seen k x at).1 in
          needs_found needs root n k x y (omega arith) at c
      | Some z ↦ λ e at.
          let far = (at_some seen n z e).1 in
          elim (cases_lt k n) [
            | inl before ↦
                let there : slice_get seen k ≡ Some x = sym (found_stays seen (needs z) k (omega arith)) ∙ at in
                with_contains_old seen (needs z) y (needs_found needs root n k x y before there c)
            | inr late ↦
                let last : n ≡ k = omega arith in
                let is : Some z ≡ Some x = sym e ∙ ap (slice_get seen) last ∙ sym (found_stays seen (needs z) k (omega arith)) ∙ at in
                let same : x ≡ z = cc in
                with_contains_new seen (needs z) y (subst (λ v. Contains (needs v) y) same c)
          ]
    ] refl at

-- ---- free numbers

abbrev all_numbers : List ℕ
all_numbers = range_with_len 0 MAX_MODULES

pub free-rising : (p : SymbolicProcess) → AllPairs (λ a b. a < b) (free_numbers p)
free-rising p = AllPairs-filter (λ a b. a < b) (λ m. not (is_live p m)) (range_with_len 0 MAX_MODULES) (range_rising MAX_MODULES)

pub free-below : (p : SymbolicProcess) → All (λ m. m < MAX_MODULES) (free_numbers p)
free-below p = All-filter (λ m. not (is_live p m)) (λ m. m < MAX_MODULES) (range_with_len 0 MAX_MODULES) (range_below MAX_MODULES)

pub free-empty : (p : SymbolicProcess) → All (λ m. live_at p m ≡ None) (free_numbers p)
free-empty p = all_contained (λ m. live_at p m ≡ None) (free_numbers p) (λ m c. none_of_not (live_at p m) (in_filter (λ m. not (is_live p m)) (range_with_len 0 MAX_MODULES) m c).1)
