-- What is made of groups by their numbers is what the definitions say by name.
use Rattle.std.proofs.Common.{◌≡◌, ℕ, suc, ◌+◌, ◌<◌, inl, inr, List, [], ◌∷◌, ◌++◌, map, length, get_or, true, false, cond, Some, refl, ap, sym, subst, ◌∙◌, arith, All}
use Rattle.std.specs.Prelude.{Contains, slice_get, option_and_then, unwrap_or}
use Rattle.std.specs.List.{enumerate_from, flat_map}
use Rattle.std.specs.Str.{bytes_eq}
use Rattle.std.proofs.lemmas.Bool.{cases_lt}
use Rattle.std.proofs.lemmas.List.{append_assoc, length-append, get_or-map}
use Rattle.std.proofs.lemmas.Option.{slice_get_within, get_or_from_slice_get, slice_get-get_or, slice_get_read}
use Rattle.fd_base.proofs.Members.{contains_at, all_contained, in_filter, in_map, map_in, flat_map_in}
use Rattle.elf_model.specs.declared.relocatable.RelObject.{RelObject}
use Rattle.link_model.specs.declared.input.Mode.{Mode}
use Rattle.link_model.specs.declared.target.Target.{Target}
use Rattle.link_model.specs.Inputs.{numbered, symbols_in, symbols_of, symbol_of}
use Rattle.link_model.specs.Joined.{names_of, of_name, joined_of, is_joined, name_of, definition_taken}
use Rattle.link_model.specs.Targets.{name_number, joined_target, target_of_name, targets_of, target_of, own_target, all_name_tests}
use Rattle.elf_model.specs.declared.object.Symbol.{Symbol}
use Rattle.elf_model.specs.Symbols.{null_symbol}
use Rattle.link_model.proofs.Numbering.{in_numbered}
use Rattle.link_names.specs.parts.Joining.{HasInput}
use Rattle.link_model.proofs.Naming.{named, names_are_numbered}
use Rattle.link_names.specs.parts.Grouped.{groups_of, group_tests, all_group_tests, group_targets}

-- ---- the element of a number

at_seam : {X : Type 0} (pre : List X) (x : X) (xs : List X) (d : X) → get_or (pre ++ x ∷ xs) (length pre) d ≡ x
at_seam [] x xs d = refl
at_seam (p ∷ pre) x xs d = at_seam pre x xs d

longer : {X : Type 0} (pre : List X) (x : X) → length (pre ++ x ∷ []) ≡ length pre + 1
longer [] x = refl
longer (p ∷ pre) x = let one = longer pre x in omega (arith, one)

-- a flat map over numbered values is one over what they are made of
tests_are : {X Y Z : Type 0} (tests : X → Y → List Z) (make : X → Y) (d : X) (all pre xs : List X) → all ≡ pre ++ xs
    → flat_map (λ e. tests (get_or all e.0 d) e.1) (enumerate_from (length pre) (map make xs)) ≡ flat_map (λ x. tests x (make x)) xs
tests_are tests make d all pre [] is = refl
tests_are tests make d all pre (x ∷ xs) is =
    let here : get_or all (length pre) d ≡ x = ap (λ l. get_or l (length pre) d) is ∙ at_seam pre x xs d in
    let rest = tests_are tests make d all (pre ++ x ∷ []) xs (is ∙ sym (append_assoc pre (x ∷ []) xs)) in
    ap (λ ts. ts ++ flat_map (λ e. tests (get_or all e.0 d) e.1) (enumerate_from (length pre + 1) (map make xs))) (ap (λ y. tests y (make x)) here)
    ∙ ap (λ ts. tests x (make x) ++ ts) (ap (λ n. flat_map (λ e. tests (get_or all e.0 d) e.1) (enumerate_from n (map make xs))) (sym (longer pre x)) ∙ rest)

-- a map likewise, where each value tells its number
values_are : {X Y Z : Type 0} (value : ℕ → Y → Z) (make : X → Y) (number : X → ℕ) (all pre xs : List X) → all ≡ pre ++ xs
    → ((k : ℕ) (x : X) → k < length all → get_or all k x ≡ x → number x ≡ k)
    → map (λ e. value e.0 e.1) (enumerate_from (length pre) (map make xs)) ≡ map (λ x. value (number x) (make x)) xs
values_are value make number all pre [] is told = refl
values_are value make number all pre (x ∷ xs) is told =
    let here : get_or all (length pre) x ≡ x = ap (λ l. get_or l (length pre) x) is ∙ at_seam pre x xs x in
    let size : length all ≡ length pre + suc (length xs) = ap length is ∙ length-append pre (x ∷ xs) in
    let rest = values_are value make number all (pre ++ x ∷ []) xs (is ∙ sym (append_assoc pre (x ∷ []) xs)) told in
    ap (λ z. z ∷ map (λ e. value e.0 e.1) (enumerate_from (length pre + 1) (map make xs))) (ap (λ n. value n (make x)) (sym (told (length pre) x (omega (arith, size)) here)))
    ∙ ap (λ zs. value (number x) (make x) ∷ zs) (ap (λ n. map (λ e. value e.0 e.1) (enumerate_from n (map make xs))) (sym (longer pre x)) ∙ rest)

-- ---- names

-- a name has the number of its place
pub number_at : (inputs : List RelObject) (k : ℕ) (name : List ℕ) → slice_get (names_of inputs) k ≡ Some name → name_number inputs name ≡ k
number_at inputs k name there =
    let m = name_number inputs name in
    let other = named inputs name (contains_at (names_of inputs) k name there) in
    let same : get_or (names_of inputs) m name ≡ get_or (names_of inputs) k name = get_or_from_slice_get (names_of inputs) m name name other ∙ sym (get_or_from_slice_get (names_of inputs) k name name there) in
    let at_m = slice_get_within (names_of inputs) m name other in
    let at_k = slice_get_within (names_of inputs) k name there in
    elim (cases_lt m k) [
      | inl before ↦ absurd (names_are_numbered.once inputs m k name before at_k same)
      | inr behind ↦ elim (cases_lt k m) [
        | inl after ↦ absurd (names_are_numbered.once inputs k m name after at_m (sym same))
        | inr not_after ↦ omega (arith, behind, not_after)
      ]
    ]

pub tests_agree : (mode : Mode) (inputs : List RelObject) → all_group_tests mode (groups_of (joined_of inputs)) ≡ all_name_tests mode inputs
unfolding names_of all_name_tests
tests_agree mode inputs = tests_are (group_tests mode) (of_name inputs) [] (names_of inputs) [] (names_of inputs) refl

pub targets_agree : (mode : Mode) (inputs : List RelObject) → group_targets mode inputs (groups_of (joined_of inputs)) ≡ targets_of mode inputs
unfolding names_of
targets_agree mode inputs =
    values_are (λ k xs. joined_target mode inputs k xs (definition_taken xs)) (of_name inputs) (name_number inputs) (names_of inputs) [] (names_of inputs) refl
    (λ k name within is. number_at inputs k name (slice_get-get_or (names_of inputs) k name within ∙ ap Some is))

-- each symbol of a group is one of the inputs'
pub groups_known : (inputs : List RelObject) → All (All (Contains (symbols_of inputs))) (map (of_name inputs) (names_of inputs))
groups_known inputs =
    all_contained (All (Contains (symbols_of inputs))) (map (of_name inputs) (names_of inputs)) (λ group there.
    all_contained (Contains (symbols_of inputs)) group (λ x within.
    let name = in_map (of_name inputs) (names_of inputs) group there in
    let own : Contains (of_name inputs name.0) x = subst (λ g. Contains g x) (sym name.2) within in
    (in_filter (λ y. is_joined y.symbol) (symbols_of inputs) x (in_filter (λ y. bytes_eq (name_of y) name.0) (joined_of inputs) x own).0).0))

pub known_in_groups : (inputs : List RelObject) → All (All (Contains (symbols_of inputs))) (groups_of (joined_of inputs)).groups
unfolding names_of
known_in_groups inputs = groups_known inputs

pub names_agree : (inputs : List RelObject) → (groups_of (joined_of inputs)).names ≡ names_of inputs
unfolding names_of
names_agree inputs = refl

-- the target of a number
pub target_at : (mode : Mode) (inputs : List RelObject) (k : ℕ) (d : Target) → k < length (names_of inputs) → get_or (targets_of mode inputs) k d ≡ target_of_name mode inputs (unwrap_or (slice_get (names_of inputs) k) [])
target_at mode inputs k d within =
    get_or-map (target_of_name mode inputs) (names_of inputs) k [] d within
    ∙ ap (target_of_name mode inputs) (sym (ap (λ o. unwrap_or o []) (slice_get-get_or (names_of inputs) k [] within)))

pub target_of_number : (mode : Mode) (inputs : List RelObject) (name : List ℕ) (d : Target) → Contains (names_of inputs) name → get_or (targets_of mode inputs) (name_number inputs name) d ≡ target_of_name mode inputs name
target_of_number mode inputs name d there =
    target_at mode inputs (name_number inputs name) d (slice_get_within (names_of inputs) (name_number inputs name) name (named inputs name there))
    ∙ ap (λ o. target_of_name mode inputs (unwrap_or o [])) (named inputs name there)

pub looked_up : (mode : Mode) (inputs : List RelObject) (name : List ℕ) (targets : List Target) (k : ℕ) (d : Target) → targets ≡ targets_of mode inputs → k ≡ name_number inputs name → Contains (names_of inputs) name
    → get_or targets k d ≡ target_of_name mode inputs name
looked_up mode inputs name targets k d are is there = ap (λ ts. get_or ts k d) are ∙ ap (λ j. get_or (targets_of mode inputs) j d) is ∙ target_of_number mode inputs name d there

pub counted : (mode : Mode) (inputs : List RelObject) (targets : List Target) (k : ℕ) (d : Target) → targets ≡ targets_of mode inputs → k < length (names_of inputs)
    → get_or targets k d ≡ target_of_name mode inputs (unwrap_or (slice_get (names_of inputs) k) [])
counted mode inputs targets k d are within = ap (λ ts. get_or ts k d) are ∙ target_at mode inputs k d within

-- ---- a symbol of an input

-- symbol n of input i
pub record IsSymbolAt (inputs : List RelObject) (i n : ℕ) (s : Symbol) : Type 0 where
  pub known : Contains (symbols_of inputs) (record { input = i; number = n; symbol = s })
  pub is : symbol_of inputs i n ≡ s

pub symbol_at : (inputs : List RelObject) (i n : ℕ) (o : RelObject) (s : Symbol) → HasInput inputs i (λ p. n < length p.symbols) → o ≡ get_or inputs i o → s ≡ get_or o.symbols n s → IsSymbolAt inputs i n s
symbol_at inputs i n o s there file own =
    let same : o ≡ there.0 = file ∙ get_or_from_slice_get inputs i there.0 o there.1 in
    let at_file : slice_get inputs i ≡ Some o = there.1 ∙ ap Some (sym same) in
    let within : n < length o.symbols = subst (λ (p : RelObject). n < length p.symbols) (sym same) there.2 in
    let at_symbol : slice_get o.symbols n ≡ Some s = slice_get_read o.symbols (length o.symbols) n s refl within own in
    record {
      known = flat_map_in symbols_in (numbered inputs) (i, o) (record { input = i; number = n; symbol = s }) (in_numbered inputs i o at_file)
          (map_in (λ e. record { input = i; number = e.0; symbol = e.1 }) (numbered o.symbols) (n, s) (in_numbered o.symbols n s at_symbol));
      is = ap (λ p. unwrap_or (option_and_then (λ (q : RelObject). slice_get q.symbols n) p) null_symbol) at_file ∙ ap (λ t. unwrap_or t null_symbol) at_symbol;
    }

pub own_is : (mode : Mode) (inputs : List RelObject) (i n : ℕ) (s : Symbol) → symbol_of inputs i n ≡ s → is_joined s ≡ false → own_target inputs (record { input = i; number = n; symbol = s }) ≡ target_of mode inputs i n
unfolding target_of
own_is mode inputs i n s is own =
    sym (ap (λ t. cond (is_joined t) (target_of_name mode inputs (unwrap_or t.name [])) (own_target inputs (record { input = i; number = n; symbol = t }))) is
    ∙ ap (λ b. cond b (target_of_name mode inputs (unwrap_or s.name [])) (own_target inputs (record { input = i; number = n; symbol = s }))) own)

pub joined_is : (mode : Mode) (inputs : List RelObject) (i n : ℕ) (s : Symbol) → symbol_of inputs i n ≡ s → is_joined s ≡ true → target_of_name mode inputs (unwrap_or s.name []) ≡ target_of mode inputs i n
unfolding target_of
joined_is mode inputs i n s is joined =
    sym (ap (λ t. cond (is_joined t) (target_of_name mode inputs (unwrap_or t.name [])) (own_target inputs (record { input = i; number = n; symbol = t }))) is
    ∙ ap (λ b. cond b (target_of_name mode inputs (unwrap_or s.name [])) (own_target inputs (record { input = i; number = n; symbol = s }))) joined)

pub name_there : (inputs : List RelObject) (i n : ℕ) (s : Symbol) → symbol_of inputs i n ≡ s → is_joined s ≡ true → Contains (names_of inputs) (unwrap_or s.name [])
name_there inputs i n s is joined =
    subst (λ (t : Symbol). Contains (names_of inputs) (unwrap_or t.name [])) is (names_are_numbered.listed inputs i n (ap is_joined is ∙ joined))
