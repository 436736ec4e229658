-- The lines of slots, one after the other.
use Rattle.std.proofs.Common.{◌≡◌, ℕ, zero, suc, ◌+◌, ◌≤◌, List, [], ◌∷◌, ◌++◌, length, drop, map, Option, Some, None, refl, sym, ap, ◌∙◌, arith, append-nil, append_assoc}
use Rattle.std.specs.FinMap.{empty}
use Rattle.std.specs.List.{flat_map, range_with_len}
use Rattle.std.specs.Prelude.{slice_get}
use Rattle.fd_base.proofs.Lists.{drop_at_some}
use Rattle.load_map.specs.declared.entry.MapEntry.{MapEntry}
use Rattle.load_model.specs.declared.module.SymbolicProcess.{SymbolicProcess}
use Rattle.std.specs.Option.{option_map_or}
use Rattle.std.proofs.lemmas.List.{length-map}
use Rattle.elf_model.specs.declared.object.Object.{Object}
use Rattle.load_model.specs.Linkage.{linkage_of}
use Rattle.load_model.specs.Process.{object_at}
use Rattle.load_state.specs.Consistent.{IsConsistent}
use Rattle.load_state.specs.Loaded.{Loaded, placing_of}
use Rattle.load_state.specs.Slots.{slots_of_module, slot_pair_at, slot_pairs}
use Rattle.load_model.specs.Unbound.{unbound_of}
use Rattle.elf_model.specs.Filled.{slot_sites}
use Rattle.elf_model.proofs.FilledSites.{slots_count}
use Rattle.fd_base.specs.Fields.{numbered}
use Rattle.fdpic_cmd.specs.Slots.{module_lines, slot_listing}

pub from_none : {X : Type 0} (xs : List X) (k : ℕ) → slice_get xs k ≡ None → drop k xs ≡ []
from_none [] zero h = refl
from_none [] (suc k) h = refl
from_none (y ∷ ys) zero h = absurd cc
from_none (y ∷ ys) (suc k) h = from_none ys k h

few_by : (l : Loaded) (m : ℕ) → IsConsistent l → (o : Option Object) → object_at l.modules.process m ≡ o
    → length (option_map_or (λ x. slot_pairs (linkage_of l.modules.process) (placing_of l.modules.process l.modules.maps empty) m x (unbound_of l.modules.process m)) o []) ≤ 65536
few_by l m h None e = omega arith
few_by l m h (Some o) e =
    let few = (h.modules'.standing m o e).sound.few_slots in
    let at = slot_pair_at (linkage_of l.modules.process) (placing_of l.modules.process l.modules.maps empty) m o (unbound_of l.modules.process m) in
    let count : length (map at (slot_sites 0 o.jmprels)) ≡ length o.jmprels = length-map (slot_sites 0 o.jmprels) at ∙ slots_count 0 o.jmprels in
    omega (arith, few, count)

-- a module has as many slots as its table may have entries
pub few_slots : (l : Loaded) (m : ℕ) → IsConsistent l → length (slots_of_module l.modules.process l.modules.maps m) ≤ 65536
few_slots l m h = few_by l m h (object_at l.modules.process m) refl

-- the lines of an item and of those behind it
pub lines_there : {X : Type 0} (line : ℕ → X → List ℕ) (k : ℕ) (xs : List X) (x : X) (out before whole : List ℕ) → slice_get xs k ≡ Some x
    → before ++ numbered line k (drop k xs) ≡ whole → out ≡ before ++ line k x → out ++ numbered line (k + 1) (drop (k + 1) xs) ≡ whole
lines_there line k xs x out before whole there so_far put =
    let next : k + 1 ≡ suc k = omega arith in
    let rest : numbered line k (drop k xs) ≡ line k x ++ numbered line (suc k) (drop (suc k) xs) = ap (numbered line k) (drop_at_some xs k x there) in
    rw (next, put) (append_assoc before (line k x) (numbered line (suc k) (drop (suc k) xs)) ∙ sym (ap (λ t. before ++ t) rest) ∙ so_far)

-- no line is left
pub lines_none : {X : Type 0} (line : ℕ → X → List ℕ) (k : ℕ) (xs : List X) (before whole : List ℕ) → drop k xs ≡ []
    → before ++ numbered line k (drop k xs) ≡ whole → before ≡ whole
lines_none line k xs before whole none so_far = sym (append-nil before) ∙ sym (ap (λ ys. before ++ numbered line k ys) none) ∙ so_far

-- the lines of all modules
pub all_lines : (process : SymbolicProcess) (maps : List (List MapEntry)) (m : ℕ) (text : List ℕ) → m ≡ 64
    → text ≡ flat_map (module_lines process maps) (range_with_len 0 m) → text ≡ slot_listing process maps
unfolding slot_listing
all_lines process maps m text all so_far = so_far ∙ ap (λ n. flat_map (module_lines process maps) (range_with_len 0 n)) all
