-- Why a walk ends early.
use Rattle.std.proofs.Common.{◌≡◌, ℕ, ◌<◌, ◌≤◌, inl, inr, List, length, ◌∙◌, arith, Option, Some, None}
use Rattle.std.specs.Prelude.{slice_get}
use Rattle.std.proofs.lemmas.Bool.{cases_lt}
use Rattle.fd_base.specs.Fetched.{Files}
use Rattle.fd_base.specs.Faults.{Rose}
use Rattle.load_model.specs.declared.module.Joining.{Joining}
use Rattle.load_model.specs.declared.module.SymbolicProcess.{SymbolicProcess}
use Rattle.load_model.specs.declared.error.LoadErr.{LoadErr}
use Rattle.load_model.specs.declared.error.LoadErr.TheVariants.{Refused, StoreFault, Memory}
use Rattle.load_model.specs.declared.error.LoadRefusal.{LoadRefusal}
use Rattle.load_model.specs.declared.error.LoadRefusal.TheVariants.{NotBuilt, Elf, NoFile, TooLong, TooManyModules, Unresolved, NotCode, DescriptorsFull, NoRoom, BadAddress}
use Rattle.load_model.specs.Explains.{Explains}
use Rattle.load_model.specs.Process.{number_of, free_numbers}
use Rattle.load_model.specs.Walk.{IsFileRefused, IsWalked, HasNoObject, IsWalkRefused}
use Rattle.load_process.specs.parts.WalkSteps.{IsLookRefused}
use Rattle.load_process.proofs.BreadthFirst.{Names}

no_object : (p : SymbolicProcess) (files : Option Files) (root : List ℕ) (n : ℕ) (joining : List Joining) (names : Names) (name : List ℕ) (r : LoadRefusal) → IsWalked p files root n joining names
    → slice_get names n ≡ Some name → number_of p name ≡ None → (length joining < length (free_numbers p)) × IsFileRefused files name r → HasNoObject p files root r
no_object p files root n joining names name r w e new why =
    record { joining = joining; name = name; at = record { n = n; names = names; walked = w; next = e; new = new }; free = why.0; cause = why.1 }

-- the next name is refused
pub look_refused : (p : SymbolicProcess) (files : Option Files) (root : List ℕ) (n : ℕ) (joining : List Joining) (names : Names) (name : List ℕ) (r : LoadRefusal) → IsWalked p files root n joining names
    → slice_get names n ≡ Some name → IsLookRefused p files name joining r → IsWalkRefused p files root r
look_refused p files root n joining names name TooManyModules w e why =
    record { joining = joining; name = name; at = record { n = n; names = names; walked = w; next = e; new = why.0 }; full = omega (arith, why.1, w.few) }
look_refused p files root n joining names name (TooLong m) w e why = no_object p files root n joining names name (TooLong m) w e why.0 why.1
look_refused p files root n joining names name (NoFile m) w e why = no_object p files root n joining names name (NoFile m) w e why.0 why.1
look_refused p files root n joining names name (Elf m r) w e why = no_object p files root n joining names name (Elf m r) w e why.0 why.1
look_refused p files root n joining names name (NotBuilt m) w e why = absurd why.1
look_refused p files root n joining names name (Unresolved m s) w e why = absurd why.1
look_refused p files root n joining names name (NotCode m s) w e why = absurd why.1
look_refused p files root n joining names name (DescriptorsFull m) w e why = absurd why.1
look_refused p files root n joining names name (NoRoom m) w e why = absurd why.1
look_refused p files root n joining names name (BadAddress m s) w e why = absurd why.1

pub explains_more : (P Q : LoadRefusal → Type 0) (old new : ℕ) (e : LoadErr) → ((r : LoadRefusal) → P r → Q r) → Explains P old new e → Explains Q old new e
explains_more P Q old new (Refused r) more why = more r why
explains_more P Q old new StoreFault more why = why
explains_more P Q old new Memory more why = why

rose_later : (old mid new : ℕ) → old ≤ mid → mid ≤ new → Rose mid new → Rose old new
rose_later old mid new before after (inl less) = inl (omega arith)
rose_later old mid new before after (inr last) = elim (cases_lt old mid) [
  | inl less ↦ inl (omega arith)
  | inr more ↦ let same : old ≡ mid = omega arith in inr (same ∙ last)
]

-- a fault that came after some time
pub explains_later : (P : LoadRefusal → Type 0) (old mid new : ℕ) (e : LoadErr) → old ≤ mid → mid ≤ new → Explains P mid new e → Explains P old new e
explains_later P old mid new (Refused r) before after why = why
explains_later P old mid new StoreFault before after why = rose_later old mid new before after why
explains_later P old mid new Memory before after why = why
