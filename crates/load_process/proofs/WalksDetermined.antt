-- Over told files a root has one walk, or one refusal, and not both.
use Rattle.std.proofs.Common.{◌≡◌, ℕ, ◌+◌, ◌<◌, ◌≤◌, inl, inr, Bool, true, cond, List, [], ◌∷◌, ◌++◌, length, get_or, take, drop, map, refl, sym, ap, ◌∙◌, subst, arith, Option, Some, None, length-append}
use Rattle.std.specs.Prelude.{slice_get, filter, is_none, IsSomeAnd}
use Rattle.std.specs.FinMap.{get}
use Rattle.std.proofs.lemmas.Bool.{cases_lt}
use Rattle.std.proofs.lemmas.List.{same_lists, get_or-map, length-map, length_push, take-take, take-append-drop, take_more}
use Rattle.std.proofs.lemmas.List.Elements.{filter-append}
use Rattle.std.proofs.lemmas.Option.{slice_get_within, get_or_from_slice_get, same_Some}
use Rattle.fd_base.specs.declared.store.TheConstants.{MAX_FILE}
use Rattle.fd_base.specs.Fetched.{Files}
use Rattle.elf_model.specs.declared.object.Object.{Object}
use Rattle.elf_model.specs.declared.refusal.ElfRefusal.{ElfRefusal}
use Rattle.load_model.specs.declared.module.Joining.{Joining}
use Rattle.load_model.specs.declared.module.SymbolicProcess.{SymbolicProcess}
use Rattle.load_model.specs.declared.error.LoadRefusal.{LoadRefusal}
use Rattle.load_model.specs.declared.error.LoadRefusal.TheVariants.{NotBuilt, Elf, NoFile, TooLong, TooManyModules, Unresolved, NotCode, DescriptorsFull, NoRoom, BadAddress}
use Rattle.load_model.specs.Process.{number_of, free_numbers}
use Rattle.load_model.specs.Walk.{FileIs, FileIsRefused, IsFileRefused, found_after, IsWalked, IsWalk, IsAtNewName, HasNoObject, IsWalkRefused}
use Rattle.load_process.specs.parts.WalkLaws.{WalksAreDetermined}
use Rattle.load_process.proofs.BreadthFirst.{Names, IsFront, front, stays, found_all}
use Rattle.load_process.proofs.ToldNeeds.{HasJoined, has_joined, told_needs, told_names}

-- ---- one file

both : {X : Type 0} (o : Option X) (P Q : X → Type 0) (R : Type 0) → ((x : X) → P x → Q x → R) → IsSomeAnd o P → IsSomeAnd o Q → R
both None P Q R f p q = absurd p
both (Some x) P Q R f p q = f x p q

there_or_none : {X : Type 0} (o : Option X) (P : X → Type 0) → o ≡ None → IsSomeAnd o P → ⊥
there_or_none None P none p = p
there_or_none (Some x) P none p = absurd cc

same_object : (told : Files) (name : List ℕ) (o t : Object) → FileIs (Some told) name o → FileIs (Some told) name t → o ≡ t
same_object told name o t first second = both (get told name) _ _ (o ≡ t) (λ bytes x y. x.1.fields ∙ sym y.1.fields) first second

-- why a file is refused
data FileCase (told : Files) (name : List ℕ) (r : LoadRefusal) : Type 0 where
  long : r ≡ TooLong name → IsSomeAnd (get told name) (λ bytes. MAX_FILE < length bytes) → FileCase told name r
  missing : r ≡ NoFile name → get told name ≡ None → FileCase told name r
  refused : (e : ElfRefusal) → r ≡ Elf name e → FileIsRefused (Some told) name e → FileCase told name r

file_case : (told : Files) (name : List ℕ) (r : LoadRefusal) → IsFileRefused (Some told) name r → FileCase told name r
file_case told name (TooLong n) h = long (ap TooLong h.0) h.1
file_case told name (NoFile n) h = missing (ap NoFile h.0) h.1
file_case told name (Elf n e) h = refused e (ap (λ m. Elf m e) h.0) h.1
file_case told name (NotBuilt n) h = absurd h
file_case told name TooManyModules h = absurd h
file_case told name (Unresolved m n) h = absurd h
file_case told name (NotCode m n) h = absurd h
file_case told name (DescriptorsFull n) h = absurd h
file_case told name (NoRoom i) h = absurd h
file_case told name (BadAddress m site) h = absurd h

long_or_short : (told : Files) (name : List ℕ) (P : List ℕ → Type 0) → IsSomeAnd (get told name) (λ bytes. MAX_FILE < length bytes)
    → IsSomeAnd (get told name) (λ bytes. (length bytes ≤ MAX_FILE) × P bytes) → ⊥
long_or_short told name P a b = both (get told name) _ _ ⊥ (λ bytes x y. absurd (omega (arith, x, y.0))) a b

-- a file is no object that is refused
object_or_case : (told : Files) (name : List ℕ) (o : Object) (r : LoadRefusal) → FileIs (Some told) name o → FileCase told name r → ⊥
object_or_case told name o r file (long e a) = long_or_short told name _ a file
object_or_case told name o r file (missing e a) = there_or_none (get told name) _ a file
object_or_case told name o r file (refused d e a) =
    both (get told name) _ _ ⊥ (λ bytes x y. let same : Some d ≡ None = sym x.1 ∙ y.1.passes in absurd cc) a file

refused_once : (told : Files) (name : List ℕ) (d e : ElfRefusal) → FileIsRefused (Some told) name d → FileIsRefused (Some told) name e → d ≡ e
refused_once told name d e a b = both (get told name) _ _ (d ≡ e) (λ bytes x y. same_Some d e (sym x.1 ∙ y.1)) a b

case_once : (told : Files) (name : List ℕ) (r s : LoadRefusal) → FileCase told name r → FileCase told name s → r ≡ s
case_once told name r s (long e a) (long f b) = e ∙ sym f
case_once told name r s (long e a) (missing f b) = absurd (there_or_none (get told name) _ b a)
case_once told name r s (long e a) (refused d f b) = absurd (long_or_short told name _ a b)
case_once told name r s (missing e a) (long f b) = absurd (there_or_none (get told name) _ a b)
case_once told name r s (missing e a) (missing f b) = e ∙ sym f
case_once told name r s (missing e a) (refused d f b) = absurd (there_or_none (get told name) _ a b)
case_once told name r s (refused c e a) (long f b) = absurd (long_or_short told name _ b a)
case_once told name r s (refused c e a) (missing f b) = absurd (there_or_none (get told name) _ b a)
case_once told name r s (refused c e a) (refused d f b) = e ∙ ap (Elf name) (refused_once told name c d a b) ∙ sym f

-- ---- one list of new modules

joining_of : ℕ → List ℕ → Object → Joining
joining_of number name o = record { number = number; name = name; object = o }

same_module : (told : Files) (j k : Joining) → j.number ≡ k.number → j.name ≡ k.name → FileIs (Some told) j.name j.object → FileIs (Some told) k.name k.object → j ≡ k
unfolding joining_of
same_module told j k number name file other =
    let moved : FileIs (Some told) k.name j.object = subst (λ x. FileIs (Some told) x j.object) name file in
    let same : j.object ≡ k.object = same_object told k.name j.object k.object moved other in
    ap (λ m. joining_of m j.name j.object) number ∙ ap (λ x. joining_of k.number x j.object) name ∙ ap (joining_of k.number k.name) same

modules_once : (p : SymbolicProcess) (told : Files) (root : List ℕ) (n : ℕ) (js ks : List Joining) (names : Names) → IsWalked p (Some told) root n js names → IsWalked p (Some told) root n ks names → js ≡ ks
modules_once p told root n js ks names w v =
    let named : map (λ (j : Joining). j.name) js ≡ map (λ (j : Joining). j.name) ks = w.fresh ∙ sym v.fresh in
    let size : length js ≡ length ks = sym (length-map js (λ (j : Joining). j.name)) ∙ ap length named ∙ length-map ks (λ (j : Joining). j.name) in
    let counted : map (λ (j : Joining). j.number) js ≡ map (λ (j : Joining). j.number) ks = w.numbers ∙ ap (λ m. take m (free_numbers p)) size ∙ sym v.numbers in
    same_lists js ks size (λ k d lt.
    let within : k < length ks = omega (arith, size, lt) in
    same_module told (get_or js k d) (get_or ks k d)
    (sym (get_or-map (λ (j : Joining). j.number) js k d d.number lt) ∙ ap (λ l. get_or l k d.number) counted ∙ get_or-map (λ (j : Joining). j.number) ks k d d.number within)
    (sym (get_or-map (λ (j : Joining). j.name) js k d d.name lt) ∙ ap (λ l. get_or l k d.name) named ∙ get_or-map (λ (j : Joining). j.name) ks k d d.name within)
    (w.files' k d lt) (v.files' k d within))

-- ---- one walk

-- the names of a whole walk are those that are found after any more
found_whole : (p : SymbolicProcess) (told : Files) (root : List ℕ) (n : ℕ) (js : List Joining) (names : Names) → IsWalk p (Some told) root js names → length names ≤ n → found_after (told_needs p told) root n ≡ names
found_whole p told root n js names w le =
    let is : names ≡ found_after (told_needs p told) root (length names) = told_names p told root (length names) js names w.walked in
    let whole : length (found_after (told_needs p told) root (length names)) ≤ length names = omega (arith, ap length is) in
    found_all (told_needs p told) root (length names) n whole le ∙ sym is

walk_once : (p : SymbolicProcess) (told : Files) (root : List ℕ) (js ks : List Joining) (names others : Names) → IsWalk p (Some told) root js names → IsWalk p (Some told) root ks others → (js ≡ ks) × (names ≡ others)
walk_once p told root js ks names others w v =
    let is : names ≡ found_after (told_needs p told) root (length names) = told_names p told root (length names) js names w.walked in
    let too : others ≡ found_after (told_needs p told) root (length others) = told_names p told root (length others) ks others v.walked in
    let same : names ≡ others = elim (cases_lt (length names) (length others)) [
      | inl less ↦ sym (too ∙ found_whole p told root (length others) js names w (omega arith))
      | inr more ↦ is ∙ found_whole p told root (length names) ks others v more
    ] in
    let moved : IsWalked p (Some told) root (length names) ks names = subst (λ l. IsWalked p (Some told) root (length l) ks l) (sym same) v.walked in
    (modules_once p told root (length names) js ks names w.walked moved, same)

-- ---- a walk that goes on

filter_longer : (test : List ℕ → Bool) (a b : ℕ) (xs : Names) → a ≤ b → length (filter test (take a xs)) ≤ length (filter test (take b xs))
filter_longer test a b xs le =
    let parts : take a xs ++ drop a (take b xs) ≡ take b xs = ap (λ l. l ++ drop a (take b xs)) (sym (take-take a b xs le)) ∙ take-append-drop a (take b xs) in
    let size : length (filter test (take a xs)) + length (filter test (drop a (take b xs))) ≡ length (filter test (take b xs)) =
    sym (length-append (filter test (take a xs)) (filter test (drop a (take b xs)))) ∙ ap length (sym (filter-append test (take a xs) (drop a (take b xs)))) ∙ ap (λ l. length (filter test l)) parts in
    omega (arith, size)

filter_one : (test : List ℕ → Bool) (n : ℕ) (xs : Names) (x : List ℕ) → slice_get xs n ≡ Some x → test x ≡ true → length (filter test (take (n + 1) xs)) ≡ length (filter test (take n xs)) + 1
filter_one test n xs x here pass =
    let lt : n < length xs = slice_get_within xs n x here in
    let is : get_or xs n x ≡ x = get_or_from_slice_get xs n x x here in
    ap (λ l. length (filter test l)) (take_more xs n x lt ∙ ap (λ y. take n xs ++ y ∷ []) is)
    ∙ ap length (filter-append test (take n xs) (x ∷ []) ∙ ap (λ b. filter test (take n xs) ++ cond b (x ∷ []) []) pass)
    ∙ length_push (filter test (take n xs)) x

new_count : (p : SymbolicProcess) (told : Files) (root : List ℕ) (n : ℕ) (js : List Joining) (names : Names) → IsWalked p (Some told) root n js names → length js ≡ length (filter (λ x. is_none (number_of p x)) (take n names))
new_count p told root n js names w = sym (length-map js (λ (j : Joining). j.name)) ∙ ap length w.fresh

-- what a longer walk knows of the next new name
record GoesOn (told : Files) (js ks : List Joining) (name : List ℕ) : Type 0 where
  more : length js < length ks
  joined : HasJoined told ks name

goes_on : (p : SymbolicProcess) (told : Files) (root : List ℕ) (n m : ℕ) (js ks : List Joining) (names others : Names) (name : List ℕ) → IsWalked p (Some told) root n js names → IsWalked p (Some told) root m ks others
    → n < m → slice_get names n ≡ Some name → number_of p name ≡ None → GoesOn told js ks name
goes_on p told root n m js ks names others name w v lt here new =
    let needs = told_needs p told in
    let test : List ℕ → Bool = λ x. is_none (number_of p x) in
    let is : names ≡ found_after needs root n = told_names p told root n js names w in
    let too : others ≡ found_after needs root m = told_names p told root m ks others v in
    let there : slice_get others n ≡ Some name = ap (λ l. slice_get l n) too ∙ stays needs root n m n name (omega arith) (ap (λ l. slice_get l n) (sym is) ∙ here) in
    let ahead : IsFront names others = subst (IsFront names) (sym too) (subst (λ l. IsFront l (found_after needs root m)) (sym is) (front needs root n m (omega arith))) in
    let same : take n others ≡ take n names = sym (take-take n (length names) others w.looked) ∙ ap (take n) ahead.same in
    let first : length js ≡ length (filter test (take n others)) = new_count p told root n js names w ∙ ap (λ l. length (filter test l)) (sym same) in
    let next = filter_one test n others name there (ap is_none new) in
    let last = new_count p told root m ks others v in
    let longer = filter_longer test (n + 1) m others (omega arith) in
    record { more = omega (arith, first, next, last, longer); joined = has_joined p told root m ks others n name v lt there new }

-- ---- a walk that ends early

data Reason (p : SymbolicProcess) (told : Files) (js : List Joining) (name : List ℕ) (r : LoadRefusal) : Type 0 where
  full : r ≡ TooManyModules → length js ≡ length (free_numbers p) → Reason p told js name r
  refusal : length js < length (free_numbers p) → FileCase told name r → Reason p told js name r

record Stop (p : SymbolicProcess) (told : Files) (root : List ℕ) (r : LoadRefusal) : Type 0 where
  n : ℕ
  js : List Joining
  names : Names
  name : List ℕ
  walked : IsWalked p (Some told) root n js names
  next : slice_get names n ≡ Some name
  new : number_of p name ≡ None
  why : Reason p told js name r

-- the walk stands at a new name, and this is why it ends there
stop_at : (p : SymbolicProcess) (told : Files) (root : List ℕ) (js : List Joining) (name : List ℕ) (r : LoadRefusal) → IsAtNewName p (Some told) root js name → Reason p told js name r → Stop p told root r
stop_at p told root js name r at why = record { n = at.n; js = js; names = at.names; name = name; walked = at.walked; next = at.next; new = at.new; why = why }

object_stop : (p : SymbolicProcess) (told : Files) (root : List ℕ) (r : LoadRefusal) → HasNoObject p (Some told) root r → Stop p told root r
object_stop p told root r h = stop_at p told root h.joining h.name r h.at (refusal h.free (file_case told h.name r h.cause))

stop_of : (p : SymbolicProcess) (told : Files) (root : List ℕ) (r : LoadRefusal) → IsWalkRefused p (Some told) root r → Stop p told root r
stop_of p told root TooManyModules h = stop_at p told root h.joining h.name TooManyModules h.at (full refl h.full)
stop_of p told root (TooLong n) h = object_stop p told root (TooLong n) h
stop_of p told root (NoFile n) h = object_stop p told root (NoFile n) h
stop_of p told root (Elf n e) h = object_stop p told root (Elf n e) h
stop_of p told root (NotBuilt n) h = absurd h
stop_of p told root (Unresolved m n) h = absurd h
stop_of p told root (NotCode m n) h = absurd h
stop_of p told root (DescriptorsFull n) h = absurd h
stop_of p told root (NoRoom i) h = absurd h
stop_of p told root (BadAddress m site) h = absurd h

-- no walk goes past the end of one
blocked : (p : SymbolicProcess) (told : Files) (js ks : List Joining) (name : List ℕ) (r : LoadRefusal) → Reason p told js name r → GoesOn told js ks name → length ks ≤ length (free_numbers p) → ⊥
blocked p told js ks name r (full e all) on few = absurd (omega (arith, all, on.more))
blocked p told js ks name r (refusal free why) on few = object_or_case told name on.joined.joined.object r on.joined.file why

not_past : (p : SymbolicProcess) (told : Files) (root : List ℕ) (r : LoadRefusal) (m : ℕ) (ks : List Joining) (others : Names) (s : Stop p told root r) → IsWalked p (Some told) root m ks others → s.n < m → ⊥
not_past p told root r m ks others s v lt =
    blocked p told s.js ks s.name r s.why (goes_on p told root s.n m s.js ks s.names others s.name s.walked v lt s.next s.new) v.few

walk_or_refusal : (p : SymbolicProcess) (told : Files) (root : List ℕ) (js : List Joining) (names : Names) (r : LoadRefusal) → IsWalk p (Some told) root js names → IsWalkRefused p (Some told) root r → ⊥
walk_or_refusal p told root js names r w h = elim (cases_lt s.n (length names)) [
  | inl less ↦ not_past p told root r (length names) js names s w.walked less
  | inr more ↦
      let same : s.names ≡ names = told_names p told root s.n s.js s.names s.walked ∙ found_whole p told root s.n js names w more in
      let within : s.n < length s.names = slice_get_within s.names s.n s.name s.next in
      absurd (omega (arith, ap length same, within, more))
]
  where
    s : Stop p told root r
    s = stop_of p told root r h

reason_once : (p : SymbolicProcess) (told : Files) (js : List Joining) (name : List ℕ) (r s : LoadRefusal) → Reason p told js name r → Reason p told js name s → r ≡ s
reason_once p told js name r s (full e a) (full f b) = e ∙ sym f
reason_once p told js name r s (full e a) (refusal b d) = absurd (omega (arith, a, b))
reason_once p told js name r s (refusal a c) (full f b) = absurd (omega (arith, a, b))
reason_once p told js name r s (refusal a c) (refusal b d) = case_once told name r s c d

-- two ends at one place are one
at_once : (p : SymbolicProcess) (told : Files) (root : List ℕ) (n : ℕ) (js ks : List Joining) (names others : Names) (name other : List ℕ) (r s : LoadRefusal)
    → IsWalked p (Some told) root n js names → IsWalked p (Some told) root n ks others → slice_get names n ≡ Some name → slice_get others n ≡ Some other
    → Reason p told js name r → Reason p told ks other s → r ≡ s
at_once p told root n js ks names others name other r s w v here there why because =
    let same : others ≡ names = told_names p told root n ks others v ∙ sym (told_names p told root n js names w) in
    let moved : IsWalked p (Some told) root n ks names = subst (IsWalked p (Some told) root n ks) same v in
    let modules : ks ≡ js = modules_once p told root n ks js names moved w in
    let named : other ≡ name = same_Some other name (sym there ∙ ap (λ l. slice_get l n) same ∙ here) in
    let first : Reason p told js other s = subst (λ l. Reason p told l other s) modules because in
    reason_once p told js name r s why (subst (λ x. Reason p told js x s) named first)

stops_once : (p : SymbolicProcess) (told : Files) (root : List ℕ) (r s : LoadRefusal) → Stop p told root r → Stop p told root s → r ≡ s
stops_once p told root r s a b = elim (cases_lt a.n b.n) [
  | inl less ↦ absurd (not_past p told root r b.n b.js b.names a b.walked less)
  | inr more ↦ elim (cases_lt b.n a.n) [
    | inl less ↦ absurd (not_past p told root s a.n a.js a.names b a.walked less)
    | inr same ↦
        let at : b.n ≡ a.n = omega arith in
        at_once p told root a.n a.js b.js a.names b.names a.name b.name r s a.walked (subst (λ n. IsWalked p (Some told) root n b.js b.names) at b.walked) a.next
        (ap (slice_get b.names) (sym at) ∙ b.next) a.why b.why
  ]
]

-- ---- the law

pub walks_are_determined : WalksAreDetermined
walks_are_determined = record {
  same_walk = walk_once;
  exclusive = walk_or_refusal;
  same_refusal = λ p told root r s h i. stops_once p told root r s (stop_of p told root r h) (stop_of p told root s i);
}
