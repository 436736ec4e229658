-- What is known of the modules that a walk found.
use Rattle.std.proofs.Common.{◌≡◌, ◌≢◌, ℕ, ◌^◌, ◌<◌, ◌≤◌, Bool, true, false, cond, List, [], ◌∷◌, length, get_or, slice_get, Option, Some, None, refl, sym, ap, subst, arith, All}
use Rattle.std.specs.Prelude.{Contains, is_some, option_map, not, ◌==◌}
use Rattle.std.specs.List.{range_with_len}
use Rattle.std.specs.Option.{option_or}
use Rattle.std.proofs.lemmas.Bool.{false≢true}
use Rattle.std.proofs.lemmas.List.Elements.{All-contains}
use Rattle.std.proofs.lemmas.List.FromFn.{length-range_with_len}
use Rattle.std.proofs.lemmas.List.Sums.{length-filter, count_by-le-length}
use Rattle.fd_base.specs.Fetched.{Files}
use Rattle.elf_model.specs.declared.object.Object.{Object}
use Rattle.elf_model.specs.Sound.{IsSound}
use Rattle.load_model.specs.declared.error.LoadErr.{LoadErr}
use Rattle.load_model.specs.declared.error.LoadErr.TheVariants.{Refused, StoreFault, Memory}
use Rattle.load_model.specs.declared.module.Joining.{Joining}
use Rattle.load_model.specs.declared.module.Live.{Live}
use Rattle.load_model.specs.declared.module.SymbolicProcess.{SymbolicProcess}
use Rattle.load_model.specs.Explains.{Explains}
use Rattle.load_model.specs.Linkage.{joining_at, linkage_with, members_of}
use Rattle.load_model.specs.Process.{is_live, live_at, object_at}
use Rattle.load_model.specs.Sites.{first_refusal}
use Rattle.load_process.specs.parts.TakenObjects.{IsTaken}
use Rattle.load_sites.specs.parts.Answers.{Tells}
use Rattle.load_sites.specs.declared.linker.Linker.{Linker}
use Rattle.load_sites.specs.parts.Linker.{IsReady, linkage}
use Rattle.load_laws.specs.parts.Premises.{HasFreeNumber}
use Rattle.load_laws.proofs.AddressesApart.{unwrapped}
use Rattle.fd_base.proofs.Members.{contains_later, contains_first}
use Rattle.load_plan.specs.parts.Tables.{AreTables}
use Rattle.load_plan.specs.parts.LinkedLoad.{AreNew, HasFewSymbols, IsUnlinked}
use Rattle.load_state.specs.Accepted.{IsScoped}
use Rattle.load_plan.specs.parts.LinkedLoad.IsUnlinked.{Filling}

dead_none : (o : Option Live) → is_some o ≡ false → option_map (λ (live : Live). live.object) o ≡ None
dead_none None h = refl
dead_none (Some live) h = absurd (false≢true (sym h))

pub free_of : (p : SymbolicProcess) (joining : List Joining) → All (λ j. j.number < 64) joining → All (λ j. is_live p j.number ≡ false) joining → All (HasFreeNumber p) joining
free_of p joining small dead k d lt = (small k d lt, dead_none (live_at p (get_or joining k d).number) (dead k d lt))

pub sound_of : (joining : List Joining) → All (λ j. IsTaken j.object) joining → All (λ j. IsSound j.object) joining
sound_of joining taken k d lt = (taken k d lt).sound

-- ---- the linker

found_in : (joining : List Joining) (m : ℕ) (j : Joining) → joining_at joining m ≡ Some j → Contains joining j
found_in [] m j is = absurd cc
found_in (i ∷ joining) m j is = by (i.number == m) is (found_in joining m j)
  where
    by : (b : Bool) → cond b (Some i) (joining_at joining m) ≡ Some j → (joining_at joining m ≡ Some j → Contains joining j) → Contains (i ∷ joining) j
    by true here rest = contains_first i j joining (ap (unwrapped i) here)
    by false later rest = contains_later i j joining (rest later)

few_of : (p : SymbolicProcess) (joining : List Joining) (m : ℕ) (o : Object) (found : Option Joining) → joining_at joining m ≡ found → All (λ j. IsTaken j.object) joining → HasFewSymbols p
    → option_or (option_map (λ j. j.object) found) (object_at p m) ≡ Some o → length o.symbols ≤ 2 ^ 32
few_of p joining m o None at taken few is = let le : length o.symbols ≤ 65536 = few m o is in omega arith
few_of p joining m o (Some j) at taken few is =
    let same : j.object ≡ o = ap (unwrapped j.object) is in
    let le : length j.object.symbols ≤ 65536 = (All-contains (λ i. IsTaken i.object) joining j taken (found_in joining m j at)).few in
    subst (λ (x : Object). length x.symbols ≤ 2 ^ 32) same (omega arith)

pub is_ready : (l : Linker) → AreTables (linkage_with l.process.now l.joining.now l.scope.now).objects l.tables.now.slots → AreNew l.process.now l.joining.now → HasFewSymbols l.process.now → IsReady l
unfolding linkage
is_ready l tables new few = record {
  tables = tables.each;
  few = λ m o is. few_of l.process.now l.joining.now m o (joining_at l.joining.now m) refl new.taken few is;
}

-- ---- errors

pub told_unlinked : (p : SymbolicProcess) (files : Option Files) (root : List ℕ) (joining : List Joining) (scope : List ℕ) (old now : ℕ) (e : LoadErr) → IsScoped p files root joining scope
    → Tells (λ x. first_refusal (linkage_with p joining scope) (members_of joining) ≡ Some x) e → Explains (IsUnlinked p files root) old now e
told_unlinked p files root joining scope old now (Refused r) scoped told = Filling (record { joining = joining; scope = scope; scoped = scoped; first = told })
told_unlinked p files root joining scope old now StoreFault scoped told = absurd told
told_unlinked p files root joining scope old now Memory scoped told = tt

-- the first of some
pub first_member : (members slice : List ℕ) (o : Option ℕ) → slice ≡ members → 1 ≤ length members → slice_get members 0 ≡ o → o ≡ Some (get_or slice 0 0)
first_member [] slice o same some is = absurd (omega arith)
first_member (m ∷ members) slice o same some is = rw same (sym is)

-- ---- numbers

pub below_of : (p : SymbolicProcess) (joining : List Joining) → All (HasFreeNumber p) joining → All (λ j. j.number < 64) joining
below_of p joining free k d lt = (free k d lt).0

-- there are no more new modules than free numbers
pub few_joining : (p : SymbolicProcess) (files : Option Files) (root : List ℕ) (joining : List Joining) (scope : List ℕ) → IsScoped p files root joining scope → length joining ≤ 64
few_joining p files root joining scope scoped =
    let few = scoped.walk.walked.few in
    let counted = length-filter (λ m. not (is_live p m)) (range_with_len 0 64) in
    let all = count_by-le-length (λ m. not (is_live p m)) (range_with_len 0 64) in
    let len : length (range_with_len 0 64) ≡ 64 = length-range_with_len 0 64 in
    omega (arith, few, counted, all, len)
