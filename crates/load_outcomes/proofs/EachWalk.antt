-- Over told files each root has a walk or a refusal.
use Rattle.std.proofs.Common.{◌≡◌, ℕ, zero, suc, ◌+◌, ◌<◌, ◌≤◌, ◌⊎◌, inl, inr, List, [], ◌∷◌, ◌++◌, length, get_or, Option, Some, None, refl, sym, ap, subst, ◌∙◌, arith}
use Rattle.std.specs.Prelude.{slice_get, IsSomeAnd}
use Rattle.std.specs.FinMap.{get}
use Rattle.std.specs.Str.{bytes_eq}
use Rattle.std.proofs.lemmas.Bool.{cases_lt}
use Rattle.std.proofs.lemmas.Option.{slice_get-get_or}
use Rattle.fd_base.specs.declared.store.TheConstants.{MAX_FILE}
use Rattle.fd_base.specs.Fetched.{Files}
use Rattle.elf_model.specs.declared.object.Object.{Object}
use Rattle.elf_model.specs.declared.refusal.ElfRefusal.{ElfRefusal}
use Rattle.elf_model.specs.Object.{IsObject, object_of, refusal_of}
use Rattle.symbol_scope.specs.Closure.{with_new}
use Rattle.symbol_scope.specs.declared.tables.TheConstants.{MAX_MODULES}
use Rattle.load_model.specs.declared.error.LoadRefusal.{LoadRefusal}
use Rattle.load_model.specs.declared.error.LoadRefusal.TheVariants.{Elf, NoFile, TooLong, TooManyModules}
use Rattle.load_model.specs.declared.module.Joining.{Joining}
use Rattle.load_model.specs.declared.module.SymbolicProcess.{SymbolicProcess}
use Rattle.load_model.specs.Process.{free_numbers, number_of}
use Rattle.load_model.specs.Walk.{FileIs, IsWalk, IsWalkRefused, needed_by, number_among}
use Rattle.load_process.specs.parts.WalkSteps.{IsLooked, IsLookRefused, IsNewRefused, IsNumbered}
use Rattle.load_process.proofs.BreadthFirst.{Names, some_found}
use Rattle.load_process.proofs.WalkEnds.{look_refused}
use Rattle.load_process.proofs.WalkNumbers.{few_members, first_member, members_length}
use Rattle.load_process.proofs.WalkSteps.{numbered_more, numbered_start}

-- ---- a file

module _ (told : Files) (free : List ℕ) (taken : ℕ) (some : taken < length free) (name : List ℕ) where
  -- the file is an object, or refused
  abbrev FileComesTo : Type 0
  FileComesTo = ((o : Object) × FileIs (Some told) name o) ⊎ ((r : LoadRefusal) × IsNewRefused free taken (Some told) name r)

  by_tests : (bytes : List ℕ) → get told name ≡ Some bytes → length bytes ≤ MAX_FILE → (answer : Option ElfRefusal) → refusal_of bytes ≡ answer → FileComesTo
  by_tests bytes is short None passes =
      let o : Object = object_of bytes in
      let object : IsObject bytes o = record { passes = passes; fields = refl } in
      inl (o, subst (λ (file : Option (List ℕ)). IsSomeAnd file (λ b. (length b ≤ MAX_FILE) × IsObject b o)) (sym is) (short, object))
  by_tests bytes is short (Some e) fails =
      inr (Elf name e, (some, (refl, subst (λ (file : Option (List ℕ)). IsSomeAnd file (λ b. (length b ≤ MAX_FILE) × (refusal_of b ≡ Some e))) (sym is) (short, fails))))

  by_length : (bytes : List ℕ) → get told name ≡ Some bytes → (MAX_FILE < length bytes) ⊎ (length bytes ≤ MAX_FILE) → FileComesTo
  by_length bytes is (inl long) =
      inr (TooLong name, (some, (refl, subst (λ (file : Option (List ℕ)). IsSomeAnd file (λ b. MAX_FILE < length b)) (sym is) long)))
  by_length bytes is (inr short) = by_tests bytes is short (refusal_of bytes) refl

  by_file : (file : Option (List ℕ)) → get told name ≡ file → FileComesTo
  by_file None is = inr (NoFile name, (some, (refl, is)))
  by_file (Some bytes) is = by_length bytes is (cases_lt MAX_FILE (length bytes))

  file_comes_to : FileComesTo
  file_comes_to = by_file (get told name) refl

-- ---- a name, and then the next

module _ (p : SymbolicProcess) (told : Files) (root : List ℕ) (size : length p.modules ≤ MAX_MODULES) where
  -- the module of a name is live or joins, or the name ends the walk
  abbrev NameComesTo : List Joining → List ℕ → Type 0
  NameComesTo joining name =
      ((number : ℕ) × (after : List Joining) × IsLooked p (Some told) name joining number after)
      ⊎ ((r : LoadRefusal) × IsLookRefused p (Some told) name joining r)

  abbrev numbered : List ℕ → Object → ℕ → Joining
  numbered name o number = record { number = number; name = name; object = o }

  by_object : (joining : List Joining) (name : List ℕ) → number_of p name ≡ None → (less : length joining < length (free_numbers p))
      → FileComesTo told (free_numbers p) (length joining) less name → NameComesTo joining name
  by_object joining name new less (inl file) =
      let free : List ℕ = free_numbers p in
      let j : Joining = numbered name file.0 (get_or free (length joining) 0) in
      inl (
        j.number,
        joining ++ j ∷ [],
        inr (record {
          added = j;
          fresh = new;
          module' = record { number' = slice_get-get_or free (length joining) 0 less; name' = refl; file = file.1 };
          number' = refl;
          joined = refl;
        }),
      )
  by_object joining name new less (inr why) = inr (why.0, (new, why.1))

  by_room : (joining : List Joining) (name : List ℕ) → number_of p name ≡ None
      → (length joining < length (free_numbers p)) ⊎ (length (free_numbers p) ≤ length joining) → NameComesTo joining name
  by_room joining name new (inl less) = by_object joining name new less (file_comes_to told (free_numbers p) (length joining) less name)
  by_room joining name new (inr full) = inr (TooManyModules, (new, full))

  by_number : (joining : List Joining) (name : List ℕ) (number : Option ℕ) → number_of p name ≡ number → NameComesTo joining name
  by_number joining name None new = by_room joining name new (cases_lt (length joining) (length (free_numbers p)))
  by_number joining name (Some number) live = inl (number, joining, inl (live, refl))

  -- the numbers of all names that a walk finds, or why it ends before
  abbrev WalkComesTo : Type 0
  WalkComesTo =
      ((joining : List Joining) × (names : Names) × (members : List ℕ) × IsNumbered p (Some told) root (length names) joining names members)
      ⊎ ((r : LoadRefusal) × IsWalkRefused p (Some told) root r)

  walk_from : (fuel n : ℕ) (joining : List Joining) (names : Names) (members : List ℕ) → IsNumbered p (Some told) root n joining names members
      → MAX_MODULES < fuel + n → WalkComesTo
  walk_from zero n joining names members w over =
      let few : n ≤ MAX_MODULES = few_members p (Some told) root n joining names members size w in
      absurd (omega arith)
  walk_from (suc fuel) n joining names members w over =
      elim (cases_lt n (length names)) [
        | inr whole ↦
            let looked : n ≤ length names = w.walked.looked in
            let all : n ≡ length names = omega arith in
            inl (joining, names, members, subst (λ (k : ℕ). IsNumbered p (Some told) root k joining names members) all w)
        | inl less ↦
            let name : List ℕ = get_or names n [] in
            let next : slice_get names n ≡ Some name = slice_get-get_or names n [] less in
            elim (by_number joining name (number_of p name) refl) [
              | inl looked ↦
                  let after : List Joining = looked.1 in
                  walk_from fuel (suc n) after (with_new bytes_eq names (needed_by p after name)) (members ++ looked.0 ∷ [])
                  (numbered_more p (Some told) root n joining after names (with_new bytes_eq names (needed_by p after name)) members name looked.0 w next looked.2 refl)
                  (omega arith)
              | inr why ↦ inr (why.0, look_refused p (Some told) root n joining names name why.0 w.walked next why.1)
            ]
      ]

  walk_comes_to : WalkComesTo
  walk_comes_to = walk_from (MAX_MODULES + 1) 0 [] (root ∷ []) [] (numbered_start p (Some told) root) (omega arith)

  -- the root has a number
  root_number : (joining : List Joining) (names : Names) (members : List ℕ) → IsNumbered p (Some told) root (length names) joining names members
      → number_among p joining root ≡ Some (get_or members 0 0)
  root_number joining names members w =
      let some : 1 ≤ length names = omega (arith, some_found (needed_by p joining) root (length names), ap length w.walked.names') in
      let count : length members ≡ length names = members_length (number_among p joining) names members (length names) w.each w.walked.looked in
      sym (first_member p (Some told) root (length names) joining names members w some) ∙ slice_get-get_or members 0 0 (omega arith)

  -- a whole walk, with the number of its root
  pub record IsWalkOf (joining : List Joining) (names : Names) (number : ℕ) : Type 0 where
    pub walk : IsWalk p (Some told) root joining names
    pub root' : number_among p joining root ≡ Some number

  pub each_walk : ((joining : List Joining) × (names : Names) × (number : ℕ) × IsWalkOf joining names number)
      ⊎ ((r : LoadRefusal) × IsWalkRefused p (Some told) root r)
  each_walk =
      elim walk_comes_to [
        | inl done ↦ inl (done.0, done.1, get_or done.2 0 0, record { walk = record { walked = done.3.walked }; root' = root_number done.0 done.1 done.2 done.3 })
        | inr why ↦ inr why
      ]
