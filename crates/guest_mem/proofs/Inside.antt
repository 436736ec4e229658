-- What is mapped lies inside the memory.
use Rattle.std.proofs.Common.{refl, ◌≡◌, ℕ, zero, suc, ◌+◌, ◌<◌, ◌≤◌, Bool, true, false, cond, List, Option, Some, None, length, get_or, arith, inl, inr}
use Rattle.std.specs.Prelude.{not}
use Rattle.std.proofs.lemmas.List.{get_or_past}
use Rattle.std.proofs.lemmas.Bool.{cases_lt}
use Rattle.guest_mem.specs.declared.kind.MemKind.{MemKind}
use Rattle.guest_mem.specs.declared.search.Asked.{Asked}
use Rattle.guest_mem.specs.declared.search.Asked.TheVariants as asks
use Rattle.guest_mem.specs.Memory.{is_code_as, is_mapped_as}
use Rattle.guest_mem.specs.Accesses.{first_from}
use Rattle.guest_mem.specs.parts.Answered.{is_asked}

-- a test that holds of no byte that isn't mapped
module _ (allowed : Option MemKind → Bool) (none : allowed None ≡ false) (kinds : List (Option MemKind)) where
  below : (a : ℕ) → allowed (get_or kinds a None) ≡ true → a < length kinds
  below a h = elim (cases_lt a (length kinds)) as (λ _. a < length kinds) [ inl l ↦ l | inr l ↦ absurd (cc (h, none, get_or_past kinds a None l)) ]

  more : (a count : ℕ) (b : Bool) → allowed (get_or kinds a None) ≡ b → cond (not b) (Some a) (first_from (λ k. not (allowed (get_or kinds k None))) (a + 1) count) ≡ None
      → (first_from (λ k. not (allowed (get_or kinds k None))) (a + 1) count ≡ None → 0 < count → a + 1 + count ≤ length kinds) → a + suc count ≤ length kinds
  more a count false e h later = cc
  more a zero true e h later = let l : a < length kinds = below a e in omega arith
  more a (suc count) true e h later = let l : a + 1 + suc count ≤ length kinds = later h (omega arith) in omega arith

  -- an access each of whose bytes passes the test lies inside
  pub inside : (a count : ℕ) → first_from (λ k. not (allowed (get_or kinds k None))) a count ≡ None → 0 < count → a + count ≤ length kinds
  inside a zero h p = absurd (omega arith)
  inside a (suc count) h p = more a count (allowed (get_or kinds a None)) refl h (inside (a + 1) count)

pub mapped_inside : (kinds : List (Option MemKind)) (a count : ℕ) → first_from (λ k. not (is_mapped_as (get_or kinds k None))) a count ≡ None → 0 < count → a + count ≤ length kinds
mapped_inside kinds a count h p = inside is_mapped_as refl kinds a count h p

-- an access each of whose bytes is as asked
pub asked_inside : (asked : Asked) (kinds : List (Option MemKind)) (a count : ℕ) → first_from (λ k. not (is_asked asked (get_or kinds k None))) a count ≡ None → 0 < count → a + count ≤ length kinds
asked_inside asks.Mapped kinds a count h p = mapped_inside kinds a count h p
asked_inside asks.Code kinds a count h p = inside is_code_as refl kinds a count h p
