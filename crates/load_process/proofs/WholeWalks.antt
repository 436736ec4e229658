-- What a whole walk keeps.
use Rattle.std.proofs.Common.{◌≡◌, ◌≢◌, ℕ, ◌<◌, ◌≤◌, false, List, length, All, Option, None, arith, true, ◌⊎◌, map, ap}
use Rattle.std.specs.Prelude.{AllPairs, Contains, slice_get, Result, IfOk}
use Rattle.std.specs.List.{filter_map}
use Rattle.std.proofs.lemmas.Result.{IfOk-weaker}
use Rattle.fd_base.specs.Fetched.{Files}
use Rattle.symbol_scope.specs.declared.tables.TheConstants.{MAX_MODULES}
use Rattle.load_model.specs.declared.error.LoadErr.{LoadErr}
use Rattle.load_model.specs.declared.module.Joining.{Joining}
use Rattle.load_model.specs.declared.module.SymbolicProcess.{SymbolicProcess}
use Rattle.load_model.specs.Process.{is_live, number_of}
use Rattle.load_model.specs.Walk.{number_among, needed_by, IsWalked, IsWalk}
use Rattle.load_process.specs.declared.added.Walk.{Walk}
use Rattle.load_process.specs.parts.WalkSteps.{IsNumbered}
use Rattle.load_process.proofs.WalkNumbers.{new_below, new_free, new_apart, names_new, names_apart, members_length, members_below, members_once, as_filter, first_member, IsKnown, members_known}
use Rattle.load_process.proofs.BreadthFirst.{some_found}

abbrev pub IsWhole : SymbolicProcess → Option Files → List ℕ → Walk → Type 0
IsWhole p files root w = (names : List (List ℕ)) × IsNumbered p files root (length names) w.joining names w.members

abbrev pub WalkOf : SymbolicProcess → Option Files → List ℕ → Walk → Type 0
WalkOf p files root w = (names : List (List ℕ)) × IsWalk p files root w.joining names × (w.members ≡ filter_map (number_among p w.joining) names) × (length w.members ≡ length names)

pub walk_of : (p : SymbolicProcess) (files : Option Files) (root : List ℕ) (r : Result Walk LoadErr) → IfOk r (IsWhole p files root) → IfOk r (WalkOf p files root)
walk_of p files root r ok =
    IfOk-weaker r (IsWhole p files root) (WalkOf p files root) (λ w h.
    let n = h.1 in (
      h.0,
      record { walked = n.walked },
      as_filter (number_among p w.joining) h.0 w.members n.each,
      members_length (number_among p w.joining) h.0 w.members (length h.0) n.each n.walked.looked,
    )) ok

pub below : (p : SymbolicProcess) (files : Option Files) (root : List ℕ) (r : Result Walk LoadErr) → length p.modules ≤ MAX_MODULES → IfOk r (IsWhole p files root) → IfOk r (λ w. All (λ m. m < MAX_MODULES) w.members)
below p files root r size ok =
    IfOk-weaker r (IsWhole p files root) (λ w. All (λ m. m < MAX_MODULES) w.members)
    (λ w h. members_below p files root (length h.0) w.joining h.0 w.members size h.1) ok

pub once : (p : SymbolicProcess) (files : Option Files) (root : List ℕ) (r : Result Walk LoadErr) → IfOk r (IsWhole p files root) → IfOk r (λ w. AllPairs (λ m n. m ≢ n) w.members)
once p files root r ok =
    IfOk-weaker r (IsWhole p files root) (λ w. AllPairs (λ m n. m ≢ n) w.members) (λ w h. members_once p files root (length h.0) w.joining h.0 w.members h.1) ok

pub numbers_below : (p : SymbolicProcess) (files : Option Files) (root : List ℕ) (r : Result Walk LoadErr) → IfOk r (IsWhole p files root) → IfOk r (λ w. All (λ (j : Joining). j.number < MAX_MODULES) w.joining)
numbers_below p files root r ok =
    IfOk-weaker r (IsWhole p files root) (λ w. All (λ (j : Joining). j.number < MAX_MODULES) w.joining) (λ w h. new_below p w.joining h.1.walked.numbers) ok

pub numbers_once : (p : SymbolicProcess) (files : Option Files) (root : List ℕ) (r : Result Walk LoadErr) → IfOk r (IsWhole p files root) → IfOk r (λ w. AllPairs (λ (j k : Joining). j.number ≢ k.number) w.joining)
numbers_once p files root r ok =
    IfOk-weaker r (IsWhole p files root) (λ w. AllPairs (λ (j k : Joining). j.number ≢ k.number) w.joining) (λ w h. new_apart p w.joining h.1.walked.numbers) ok

pub free : (p : SymbolicProcess) (files : Option Files) (root : List ℕ) (r : Result Walk LoadErr) → IfOk r (IsWhole p files root) → IfOk r (λ w. All (λ (j : Joining). is_live p j.number ≡ false) w.joining)
free p files root r ok =
    IfOk-weaker r (IsWhole p files root) (λ w. All (λ (j : Joining). is_live p j.number ≡ false) w.joining) (λ w h. new_free p w.joining h.1.walked.numbers) ok

pub names_once : (p : SymbolicProcess) (files : Option Files) (root : List ℕ) (r : Result Walk LoadErr) → IfOk r (IsWhole p files root) → IfOk r (λ w. AllPairs (λ (j k : Joining). j.name ≢ k.name) w.joining)
names_once p files root r ok =
    IfOk-weaker r (IsWhole p files root) (λ w. AllPairs (λ (j k : Joining). j.name ≢ k.name) w.joining)
    (λ w h. names_apart p files root (length h.0) w.joining h.0 h.1.walked) ok

pub new : (p : SymbolicProcess) (files : Option Files) (root : List ℕ) (r : Result Walk LoadErr) → IfOk r (IsWhole p files root) → IfOk r (λ w. All (λ (j : Joining). number_of p j.name ≡ None) w.joining)
new p files root r ok =
    IfOk-weaker r (IsWhole p files root) (λ w. All (λ (j : Joining). number_of p j.name ≡ None) w.joining)
    (λ w h. names_new p files root (length h.0) w.joining h.0 h.1.walked) ok

some_names : (p : SymbolicProcess) (files : Option Files) (root : List ℕ) (joining : List Joining) (names : List (List ℕ)) → IsWalked p files root (length names) joining names → 1 ≤ length names
some_names p files root joining names w = omega (arith, some_found (needed_by p joining) root (length names), ap length w.names')

pub first : (p : SymbolicProcess) (files : Option Files) (root : List ℕ) (r : Result Walk LoadErr) → IfOk r (IsWhole p files root) → IfOk r (λ w. slice_get w.members 0 ≡ number_among p w.joining root)
first p files root r ok =
    IfOk-weaker r (IsWhole p files root) (λ w. slice_get w.members 0 ≡ number_among p w.joining root)
    (λ w h. let some : 1 ≤ length h.0 = some_names p files root w.joining h.0 h.1.walked in first_member p files root (length h.0) w.joining h.0 w.members h.1 some) ok

pub known : (p : SymbolicProcess) (files : Option Files) (root : List ℕ) (r : Result Walk LoadErr) → IfOk r (IsWhole p files root)
    → IfOk r (λ w. All (λ m. (is_live p m ≡ true) ⊎ Contains (map (λ (j : Joining). j.number) w.joining) m) w.members)
known p files root r ok =
    IfOk-weaker r (IsWhole p files root) (λ w. All (IsKnown p w.joining) w.members) (λ w h. members_known p files root (length h.0) w.joining h.0 w.members h.1) ok
