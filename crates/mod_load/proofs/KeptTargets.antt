-- The functions of slots, kept by the numbers of their modules.
use Rattle.std.proofs.Common.{◌≡◌, ◌≢◌, ℕ, zero, suc, ◌+◌, ◌<◌, ◌≤◌, List, [], ◌∷◌, ◌++◌, length, get_or, set, take, slice_get, Option, Some, None, refl, sym, ap, subst, ◌∙◌, arith, All}
use Rattle.std.specs.Prelude.{option_and_then, slice_set}
use Rattle.std.specs.Option.{option_map_or}
use Rattle.std.proofs.lemmas.List.{get_or-set_other, get_or-set_same, length-set, take_all}
use Rattle.std.proofs.lemmas.List.Elements.{All-head, All-nil, All-push}
use Rattle.std.proofs.lemmas.Option.{slice_get-map}
use Rattle.elf_model.specs.declared.func.Func.{Func}
use Rattle.elf_model.specs.declared.object.Object.{Object}
use Rattle.fd_base.proofs.Lists.{all_back, all_front}
use Rattle.fd_base.proofs.Options.{then-map}
use Rattle.load_laws.specs.parts.Premises.{HaveOwnNumbers}
use Rattle.load_model.specs.declared.module.Joining.{Joining}
use Rattle.load_model.specs.declared.module.SymbolicProcess.{SymbolicProcess}
use Rattle.load_model.specs.Linkage.{linkage_of}
use Rattle.load_model.specs.Process.{object_at}
use Rattle.load_plan.proofs.MadeLists.{earlier_apart, up_to_next}
use Rattle.load_state.specs.Slots.{slot_def, slot_function, targets_of}
use Rattle.mod_load.specs.parts.Targets.{AllTargets, AreKept, HasTargets, target_in}

-- ---- those of new modules, one after another

pub keep_none : (own : Joining → List (Option Func)) (targets : AllTargets) → AreKept own [] targets targets
keep_none own targets = record { size = refl; each = All-nil (λ (j : Joining). get_or targets j.number [] ≡ own j); others = λ m others. refl }

keep_one : (own : Joining → List (Option Func)) (before : List Joining) (j : Joining) (old now : AllTargets) → j.number < length old → All (λ i. i.number ≢ j.number) before → AreKept own before old now
    → AreKept own (before ++ j ∷ []) old (slice_set now j.number (own j))
keep_one own before j old now small others was = record {
  size = length-set now j.number (own j) ∙ was.size;
  each = All-push (λ (i : Joining). get_or (set now j.number (own j)) i.number [] ≡ own i) before j
      (λ k d lt. get_or-set_other now j.number (get_or before k d).number (own j) [] (others k d lt) ∙ was.each k d lt)
      (get_or-set_same now j.number (own j) [] (omega (arith, small, was.size)));
  others = λ m apart.
      let last : j.number ≢ m = All-head (λ (i : Joining). i.number ≢ m) j [] (all_back (λ (i : Joining). i.number ≢ m) before (j ∷ []) apart) in
      get_or-set_other now j.number m (own j) [] (λ is. last (sym is)) ∙ was.others m (all_front (λ (i : Joining). i.number ≢ m) before (j ∷ []) apart);
}

pub keep_next : (own : Joining → List (Option Func)) (joining : List Joining) (k : ℕ) (j : Joining) (made : List (Option Func)) (old now new : AllTargets) → HaveOwnNumbers joining
    → All (λ i. i.number < length old) joining → k < length joining → j ≡ get_or joining k j → made ≡ own j → new ≡ slice_set now j.number made → AreKept own (take k joining) old now
    → AreKept own (take (k + 1) joining) old new
keep_next own joining k j made old now new numbers small lt is same step was =
    let more : take (k + 1) joining ≡ take k joining ++ j ∷ [] = up_to_next joining k j lt is in
    let within : j.number < length old = subst (λ (x : Joining). x.number < length old) (sym is) (small k j lt) in
    let put : AreKept own (take (k + 1) joining) old (slice_set now j.number (own j)) =
    rw more (keep_one own (take k joining) j old now within (earlier_apart joining k j numbers lt is) was) in
    let there : new ≡ slice_set now j.number (own j) = step ∙ ap (λ (x : List (Option Func)). slice_set now j.number x) same in
    subst (λ (targets : AllTargets). AreKept own (take (k + 1) joining) old targets) (sym there) put

-- those of all, where no module is left
pub keep_all : (own : Joining → List (Option Func)) (joining : List Joining) (k : ℕ) (old now : AllTargets) → length joining ≤ k → AreKept own (take k joining) old now → AreKept own joining old now
keep_all own joining k old now le was = subst (λ (js : List Joining). AreKept own js old now) (take_all k joining le) was

-- ---- what is kept is what the definition says

by_default : (targets : AllTargets) (m k : ℕ) → target_in targets m k ≡ option_and_then (λ target. target) (slice_get (get_or targets m []) k)
by_default [] m k = refl
by_default (own ∷ targets) zero k = refl
by_default (own ∷ targets) (suc m) k = by_default targets m k

pub target_is : (p : SymbolicProcess) (targets : AllTargets) → HasTargets p targets → (m k : ℕ) → target_in targets m k ≡ slot_def p m k
target_is p targets has m k =
    by_default targets m k ∙ ap (λ (own : List (Option Func)). option_and_then (λ target. target) (slice_get own k)) (has.each m) ∙ by (object_at p m)
  where
    by : (x : Option Object) → option_and_then (λ target. target) (slice_get (option_map_or (targets_of (linkage_of p) m) x []) k)
        ≡ option_and_then (λ o. option_and_then (slot_function (linkage_of p) m o) (slice_get o.jmprels k)) x
    by None = refl
    by (Some o) =
        ap (option_and_then (λ (target : Option Func). target)) (slice_get-map (slot_function (linkage_of p) m o) o.jmprels k)
        ∙ then-map (slot_function (linkage_of p) m o) (λ (target : Option Func). target) (slice_get o.jmprels k)
