-- Tables that are taken out and added.
use Rattle.std.proofs.Common.{◌≡◌, ◌≢◌, ℕ, zero, suc, ◌+◌, ◌<◌, ◌≤◌, inl, inr, true, false, List, [], ◌∷◌, ◌++◌, length, get_or, set, take, drop, Option, Some, None, refl, sym, ap, subst, ◌∙◌, arith, All}
use Rattle.std.specs.Prelude.{slice_set, option_map, is_some, ◌==◌}
use Rattle.std.specs.Option.{option_or}
use Rattle.std.proofs.lemmas.Bool.{cases_eq, cases_lt, false≢true, eq-eqb}
use Rattle.std.proofs.lemmas.List.{length-set, take_all}
use Rattle.std.proofs.lemmas.List.Elements.{All-nil, All-head, All-tail, All-take, All-push, All-contains}
use Rattle.fd_base.proofs.Finding.{none_found}
use Rattle.fd_base.proofs.Lists.{all_back, all_front}
use Rattle.fd_base.proofs.Options.{none_or}
use Rattle.load_process.proofs.WalkFacts.{at_number}
use Rattle.load_laws.proofs.ModulesAfter.{old_number}
use Rattle.elf_model.specs.declared.object.Object.{Object}
use Rattle.symbol_scope.specs.declared.table.Table.{Table}
use Rattle.symbol_scope.specs.Exports.{ExportMap, exports_of}
use Rattle.symbol_scope.specs.parts.Needs.{table_at}
use Rattle.symbol_scope.specs.parts.Slots.{Slots}
use Rattle.symbol_scope.specs.Table.{table_of}
use Rattle.load_model.specs.declared.module.Joining.{Joining}
use Rattle.load_model.specs.declared.module.SymbolicProcess.{SymbolicProcess}
use Rattle.load_model.specs.Linkage.{joining_at, linkage_with}
use Rattle.load_model.specs.declared.module.Live.{Live}
use Rattle.load_model.specs.Process.{object_at, is_live, live_at}
use Rattle.load_laws.specs.parts.Premises.{HaveOwnNumbers, HasFreeNumber}
use Rattle.load_plan.specs.parts.Tables.{ArePut, AreTables, HasTable, HasTables, exports_at}
use Rattle.load_plan.proofs.MadeLists.{earlier_apart, from_next, up_to_next}

-- ---- one table

set_same : (slots : Slots) (n : ℕ) (x : Option Table) → n < length slots → table_at (set slots n x) n ≡ x
set_same [] n x lt = absurd (omega arith)
set_same (s ∷ slots) zero x lt = refl
set_same (s ∷ slots) (suc n) x lt = set_same slots n x (omega arith)

set_other : (slots : Slots) (n m : ℕ) (x : Option Table) → m ≢ n → table_at (set slots n x) m ≡ table_at slots m
set_other [] n m x other = refl
set_other (s ∷ slots) zero zero x other = absurd (other refl)
set_other (s ∷ slots) zero (suc m) x other = refl
set_other (s ∷ slots) (suc n) zero x other = refl
set_other (s ∷ slots) (suc n) (suc m) x other = set_other slots n m x (λ is. other (ap suc is))

pub removed_size : (slots : Slots) (n : ℕ) (x : Option Table) → length (slice_set slots n x) ≡ length slots
removed_size slots n x = length-set slots n x

-- ---- tables that are taken out

-- the tables of live modules, and no others below a number
pub record IsDropped (p : SymbolicProcess) (n : ℕ) (slots : Slots) : Type 0 where
  pub has : HasTables p slots
  pub none : (m : ℕ) → m < n → object_at p m ≡ None → table_at slots m ≡ None

pub drop_none : (p : SymbolicProcess) (slots : Slots) → HasTables p slots → IsDropped p 0 slots
drop_none p slots has = record { has = has; none = λ m lt none. absurd (omega arith) }

dead_none : (o : Option Live) → is_some o ≡ false → option_map (λ (live : Live). live.object) o ≡ None
dead_none None h = refl
dead_none (Some live) h = absurd (false≢true (sym h))

none_dead : (o : Option Live) → option_map (λ (live : Live). live.object) o ≡ None → is_some o ≡ false
none_dead None h = refl
none_dead (Some live) h = absurd cc

table_above : (slots : Slots) (m : ℕ) → length slots ≤ m → table_at slots m ≡ None
table_above [] m le = refl
table_above (s ∷ slots) zero le = absurd (omega arith)
table_above (s ∷ slots) (suc m) le = table_above slots m (omega arith)

pub drop_live : (p : SymbolicProcess) (n k : ℕ) (slots : Slots) → k ≡ n + 1 → is_live p n ≡ true → IsDropped p n slots → IsDropped p k slots
drop_live p n k slots next live was = record {
  has = was.has;
  none = λ m lt none. elim (cases_lt m n) [
    | inl less ↦ was.none m less none
    | inr le ↦
        let here : m ≡ n = omega arith in
        let dead : is_live p n ≡ false = none_dead (live_at p n) (subst (λ (x : ℕ). object_at p x ≡ None) here none) in
        absurd (false≢true (sym dead ∙ live))
  ];
}

pub drop_dead : (p : SymbolicProcess) (n k : ℕ) (slots : Slots) → k ≡ n + 1 → n < 64 → is_live p n ≡ false → IsDropped p n slots → IsDropped p k (slice_set slots n None)
drop_dead p n k slots next few dead was = record {
  has = record {
    size = length-set slots n None ∙ was.has.size;
    live = λ m o live.
        let other : m ≢ n = λ is. none_some o (sym (subst (λ (x : ℕ). object_at p x ≡ None) (sym is) (dead_none (live_at p n) dead)) ∙ live) in
        ap (option_map (λ (t : Table). t.exports)) (set_other slots n m None other) ∙ was.has.live m o live;
  };
  none = λ m lt none. elim (cases_eq m n) [
    | inl is ↦ subst (λ (x : ℕ). table_at (set slots n None) x ≡ None) (sym is) (set_same slots n None (omega (arith, was.has.size)))
    | inr other ↦ set_other slots n m None other ∙ was.none m (less_than m n k other lt next) none
  ];
}
  where
    none_some : (o : Object) → None ≡ Some o → ⊥
    none_some o is = cc

    less_than : (m n k : ℕ) → m ≢ n → m < k → k ≡ n + 1 → m < n
    less_than m n k other lt next = elim (cases_lt m n) [ inl less ↦ less | inr le ↦ absurd (other (omega arith)) ]

pub dropped_all : (p : SymbolicProcess) (slots : Slots) → length p.modules ≤ 64 → IsDropped p 64 slots → AreTables (object_at p) slots
dropped_all p slots few was = record {
  size = was.has.size;
  each = λ m. elim (none_or (object_at p m)) [
    | inl none ↦
        let gone : table_at slots m ≡ None = elim (cases_lt m 64) [ inl less ↦ was.none m less none | inr le ↦ table_above slots m (omega (arith, was.has.size)) ] in
        ap (option_map (λ (t : Table). t.exports)) gone ∙ sym (ap (option_map (λ (o : Object). exports_of o.symbols)) none)
    | inr live ↦ was.has.live m live.0 live.1 ∙ sym (ap (option_map (λ (o : Object). exports_of o.symbols)) live.1)
  ];
}

-- ---- tables that are put in

pub put_none : (slots : Slots) → ArePut [] slots slots
put_none slots = record { size = refl; each = All-nil (HasTable slots); others = λ m others. refl }

pub put_one : (before : List Joining) (j : Joining) (old now : Slots) → j.number < length old → All (λ i. i.number ≢ j.number) before → ArePut before old now
    → ArePut (before ++ j ∷ []) old (slice_set now j.number (Some (table_of j.name j.object)))
put_one before j old now small others was =
    let table : Option Table = Some (table_of j.name j.object) in
    record {
      size = length-set now j.number table ∙ was.size;
      each = All-push (HasTable (set now j.number table)) before j
          (λ k d lt. set_other now j.number (get_or before k d).number table (others k d lt) ∙ was.each k d lt)
          (set_same now j.number table (omega (arith, small, was.size)));
      others = λ m apart.
          let last : j.number ≢ m = All-head (λ (i : Joining). i.number ≢ m) j [] (all_back (λ (i : Joining). i.number ≢ m) before (j ∷ []) apart) in
          set_other now j.number m table (λ is. last (sym is)) ∙ was.others m (all_front (λ (i : Joining). i.number ≢ m) before (j ∷ []) apart);
    }

-- one more of them
pub put_next : (joining : List Joining) (k : ℕ) (j : Joining) (old now : Slots) → HaveOwnNumbers joining → All (λ i. i.number < length old) joining → k < length joining → j ≡ get_or joining k j
    → ArePut (take k joining) old now → ArePut (take (k + 1) joining) old (slice_set now j.number (Some (table_of j.name j.object)))
put_next joining k j old now own small lt is was =
    let more : take (k + 1) joining ≡ take k joining ++ j ∷ [] = up_to_next joining k j lt is in
    let within : j.number < length old = subst (λ (x : Joining). x.number < length old) (sym is) (small k j lt) in
    rw more (put_one (take k joining) j old now within (earlier_apart joining k j own lt is) was)

-- those of all, where no module is left
pub put_all : (joining : List Joining) (k : ℕ) (old now : Slots) → length joining ≤ k → ArePut (take k joining) old now → ArePut joining old now
put_all joining k old now le was = subst (λ (js : List Joining). ArePut js old now) (take_all k joining le) was

-- there are places for one more
pub room_next : (joining : List Joining) (k : ℕ) (j : Joining) (old new : ℕ) → k < length joining → j ≡ get_or joining k j → old ≤ new → j.number < new
    → All (λ i. i.number < old) (take k joining) → All (λ i. i.number < new) (take (k + 1) joining)
room_next joining k j old new lt is grows here was =
    let more : take (k + 1) joining ≡ take k joining ++ j ∷ [] = up_to_next joining k j lt is in
    rw more
    (All-push (λ (i : Joining). i.number < new) (take k joining) j
    (λ i d within. let before : (get_or (take k joining) i d).number < old = was i d within in omega arith) here)

-- ---- what the tables are then

abbrev exported_by : SymbolicProcess → ℕ → Option Joining → Option ExportMap
exported_by p m new = option_map (λ (o : Object). exports_of o.symbols) (option_or (option_map (λ (j : Joining). j.object) new) (object_at p m))

-- where the tables were those of live modules alone, they are those of live and of new ones
pub put_added : (p : SymbolicProcess) (joining : List Joining) (scope : List ℕ) (old new : Slots) → AreTables (object_at p) old → ArePut joining old new
    → AreTables (linkage_with p joining scope).objects new
put_added p joining scope old new are put = record { size = put.size ∙ are.size; each = λ m. by m (joining_at joining m) refl }
  where
    apart : (m : ℕ) → joining_at joining m ≡ None → All (λ j. j.number ≢ m) joining
    apart m none = λ k d lt is. false≢true (sym (none_found (λ (j : Joining). j.number == m) joining none k d lt) ∙ eq-eqb (get_or joining k d).number m is)

    by : (m : ℕ) (x : Option Joining) → joining_at joining m ≡ x → exports_at new m ≡ exported_by p m (joining_at joining m)
    by m None none =
        ap (option_map (λ (t : Table). t.exports)) (put.others m (apart m none)) ∙ are.each m ∙ sym (ap (exported_by p m) none)
    by m (Some j) some =
        let at = at_number p joining m j some in
        ap (exports_at new) (sym at.1) ∙ ap (option_map (λ (t : Table). t.exports)) (All-contains (HasTable new) joining j put.each at.0) ∙ sym (ap (exported_by p m) some)

pub tables_live : (p : SymbolicProcess) (slots : Slots) → AreTables (object_at p) slots → HasTables p slots
tables_live p slots are = record { size = are.size; live = λ m o live. are.each m ∙ ap (option_map (λ (x : Object). exports_of x.symbols)) live }

-- live modules keep theirs
pub put_live : (p : SymbolicProcess) (joining : List Joining) (old new : Slots) → All (HasFreeNumber p) joining → HasTables p old → ArePut joining old new → HasTables p new
put_live p joining old new free has put = record {
  size = put.size ∙ has.size;
  live = λ m o live. ap (option_map (λ (t : Table). t.exports)) (put.others m (old_number p joining m o free live)) ∙ has.live m o live;
}

-- while some are put in
pub put_so_far : (p : SymbolicProcess) (joining : List Joining) (k : ℕ) (old now : Slots) → All (HasFreeNumber p) joining → AreTables (object_at p) old → ArePut (take k joining) old now → HasTables p now
put_so_far p joining k old now free are was = put_live p (take k joining) old now (All-take (HasFreeNumber p) k joining free) (tables_live p old are) was

-- ---- tables that are taken into a plan

own_drop : (n : ℕ) (joining : List Joining) → HaveOwnNumbers joining → HaveOwnNumbers (drop n joining)
own_drop zero joining own = own
own_drop (suc n) [] own = tt
own_drop (suc n) (j ∷ joining) own = own_drop n joining own.1

-- the next module has its table
pub next_has : (joining : List Joining) (k : ℕ) (j : Joining) (slots : Slots) → k < length joining → j ≡ get_or joining k j → All (HasTable slots) (drop k joining) → HasTable slots j
next_has joining k j slots lt is left =
    All-head (HasTable slots) j (drop (k + 1) joining) (subst (All (HasTable slots)) (from_next joining k j lt is) left)

-- where it is taken out, the later ones have theirs
pub left_after : (joining : List Joining) (k : ℕ) (j : Joining) (old new : Slots) → HaveOwnNumbers joining → k < length joining → j ≡ get_or joining k j
    → new ≡ slice_set old j.number None → All (HasTable old) (drop k joining) → All (HasTable new) (drop (k + 1) joining)
left_after joining k j old new own lt is step left =
    let rest : List Joining = drop (k + 1) joining in
    let numbers : HaveOwnNumbers (j ∷ rest) = subst HaveOwnNumbers (from_next joining k j lt is) (own_drop k joining own) in
    let later : All (HasTable old) rest = All-tail (HasTable old) j rest (subst (All (HasTable old)) (from_next joining k j lt is) left) in
    λ i d within.
    subst (λ (slots : Slots). HasTable slots (get_or rest i d)) (sym step)
    (set_other old j.number (get_or rest i d).number None (numbers.0 i d within) ∙ later i d within)

-- and so have the live ones
pub live_after : (p : SymbolicProcess) (j : Joining) (old new : Slots) → HasFreeNumber p j → new ≡ slice_set old j.number None → HasTables p old → HasTables p new
live_after p j old new free step has =
    subst (HasTables p) (sym step)
    (record {
      size = length-set old j.number None ∙ has.size;
      live = λ m o live. ap (option_map (λ (t : Table). t.exports)) (set_other old j.number m None (other m o live)) ∙ has.live m o live;
    })
  where
    other : (m : ℕ) (o : Object) → object_at p m ≡ Some o → m ≢ j.number
    other m o live is =
        let none : object_at p m ≡ None = subst (λ (n : ℕ). object_at p n ≡ None) (sym is) free.1 in
        let never : None ≡ Some o = sym none ∙ live in
        absurd cc
