-- What laws on loads use of a walk.
use Rattle.std.proofs.Common.{◌≡◌, ◌≢◌, ℕ, ◌<◌, Bool, true, Option, Some, None, List, length, map, take, refl, sym, ap, ◌∙◌, subst, arith, All}
use Rattle.std.specs.Prelude.{filter, slice_get, is_none, ◌==◌, Contains, AllPairs}
use Rattle.std.specs.Str.{bytes_eq}
use Rattle.std.proofs.lemmas.Slice.Eq.{bytes_eq-Decides}
use Rattle.std.proofs.lemmas.Bool.Decides.{Decides-eqb}
use Rattle.std.proofs.lemmas.List.{take_all}
use Rattle.std.proofs.lemmas.List.Elements.{All-take, All-contains}
use Rattle.std.proofs.lemmas.List.Kept.{AllPairs-filter}
use Rattle.fd_base.proofs.Options.{none_of_none, is_none_of}
use Rattle.fd_base.specs.Fetched.{Files}
use Rattle.symbol_scope.specs.declared.tables.TheConstants.{MAX_MODULES}
use Rattle.load_model.specs.declared.module.Joining.{Joining}
use Rattle.load_model.specs.declared.module.SymbolicProcess.{SymbolicProcess}
use Rattle.load_model.specs.Linkage.{joining_at}
use Rattle.load_model.specs.Process.{live_at, number_of, free_numbers}
use Rattle.load_model.specs.Walk.{joining_named, needed_by, IsWalked, IsWalk}
use Rattle.load_process.specs.parts.JoinLaws.{HasFreeNumbers}
use Rattle.load_process.proofs.Lists.{to_filter, pairs-map}
use Rattle.fd_base.proofs.Finding.{find_there, find_some}
use Rattle.fd_base.proofs.Members.{map_in, in_map, in_filter, all_contained, at_contained}
use Rattle.fd_base.proofs.Lists.{one_of, pairs-take}
use Rattle.load_process.proofs.WalkGives.{found_once, needs_found, free-rising, free-below, free-empty}

pub record Facts (p : SymbolicProcess) (joining : List Joining) (names : List (List ℕ)) : Type 0 where
  pub apart : AllPairs (λ j k. j.number ≢ k.number) joining
  pub small : All (λ j. j.number < MAX_MODULES) joining
  pub free : All (λ j. live_at p j.number ≡ None) joining
  -- their names are different names of the walk, and no live module's
  pub distinct : AllPairs (λ j k. j.name ≢ k.name) joining
  pub new : All (λ j. number_of p j.name ≡ None) joining
  pub named : All (λ j. Contains names j.name) joining
  -- each name of the walk is there once, and is a live module's or a new one's
  pub once : AllPairs (λ x y. x ≢ y) names
  pub all : (name : List ℕ) → Contains names name → number_of p name ≡ None → (j : Joining) × Contains joining j × (j.name ≡ name)
  -- what they need is among them
  pub closed : (name x : List ℕ) → Contains names name → Contains (needed_by p joining name) x → Contains names x

differ : (joining : List Joining) → AllPairs (λ j k. j.number < k.number) joining → AllPairs (λ j k. j.number ≢ k.number) joining
differ joining rising i j d lt within = let h = rising i j d lt within in λ e. absurd (omega arith)

pub facts_of : (p : SymbolicProcess) (files : Option Files) (root : List ℕ) (joining : List Joining) (names : List (List ℕ)) → IsWalk p files root joining names → Facts p joining names
facts_of p files root joining names walk = record {
  apart = differ joining (pairs-map (λ j. j.number) (λ a b. a < b) joining (subst (AllPairs (λ a b. a < b)) (sym w.numbers) (pairs-take (λ a b. a < b) (length joining) (free_numbers p) (free-rising p))));
  small = all_contained (λ j. j.number < MAX_MODULES) joining (λ j c. All-contains (λ n. n < MAX_MODULES) numbers j.number (All-take (λ n. n < MAX_MODULES) (length joining) (free_numbers p) (free-below p)) (numbered j c));
  free = all_contained (λ j. live_at p j.number ≡ None) joining (λ j c. All-contains (λ n. live_at p n ≡ None) numbers j.number (All-take (λ n. live_at p n ≡ None) (length joining) (free_numbers p) (free-empty p)) (numbered j c));
  distinct = pairs-map (λ j. j.name) (λ a b. a ≢ b) joining (subst (AllPairs (λ a b. a ≢ b)) (sym fresh) (AllPairs-filter (λ a b. a ≢ b) unknown names once));
  new = all_contained (λ j. number_of p j.name ≡ None) joining (λ j c. none_of_none (number_of p j.name) (fresh_name j c).1);
  named = all_contained (λ j. Contains names j.name) joining (λ j c. (fresh_name j c).0);
  once = once;
  all = λ name c e. in_map (λ j. j.name) joining name (subst (λ l. Contains l name) (sym fresh) (to_filter unknown names name (is_none_of (number_of p name) e) c));
  closed = closed;
}
  where
    w : IsWalked p files root (length names) joining names
    w = walk.walked

    numbers : List ℕ
    numbers = take (length joining) (free_numbers p)

    unknown : List ℕ → Bool
    unknown name = is_none (number_of p name)

    numbered : (j : Joining) → Contains joining j → Contains numbers j.number
    numbered j c = subst (λ l. Contains l j.number) w.numbers (map_in (λ j. j.number) joining j c)

    fresh : map (λ j. j.name) joining ≡ filter unknown names
    fresh = w.fresh ∙ ap (filter unknown) (take_all (length names) names (omega arith))

    fresh_name : (j : Joining) → Contains joining j → Contains names j.name × (unknown j.name ≡ true)
    fresh_name j c = in_filter unknown names j.name (subst (λ l. Contains l j.name) fresh (map_in (λ j. j.name) joining j c))

    once : AllPairs (λ x y. x ≢ y) names
    once = subst (AllPairs (λ x y. x ≢ y)) (sym w.names') (found_once (needed_by p joining) root (length names))

    closed : (name x : List ℕ) → Contains names name → Contains (needed_by p joining name) x → Contains names x
    closed name x c needed =
        let at = at_contained names name c in
        subst (λ l. Contains l x) (sym w.names')
        (needs_found (needed_by p joining) root (length names) at.0 name x at.1 (ap (λ l. slice_get l at.0) (sym w.names') ∙ at.2) needed)

-- ---- new modules by number and by name

pub at_number : (p : SymbolicProcess) (joining : List Joining) (m : ℕ) (j : Joining) → joining_at joining m ≡ Some j → Contains joining j × (j.number ≡ m)
at_number p joining m j e = let f = find_some (λ j. j.number == m) joining j e in (f.0, (Decides-eqb j.number m).0 f.1)

pub number_found : (joining : List Joining) (j : Joining) → AllPairs (λ j k. j.number ≢ k.number) joining → Contains joining j → joining_at joining j.number ≡ Some j
number_found joining j apart c =
    let there = find_there (λ k. k.number == j.number) joining j c ((Decides-eqb j.number j.number).1 refl) in
    let is = find_some (λ k. k.number == j.number) joining there.0 there.1 in
    there.1 ∙ ap Some (one_of (λ k. k.number) joining there.0 j apart is.0 c ((Decides-eqb there.0.number j.number).0 is.1))

pub name_found : (joining : List Joining) (j : Joining) → AllPairs (λ j k. j.name ≢ k.name) joining → Contains joining j → joining_named joining j.name ≡ Some j
name_found joining j distinct c =
    let there = find_there (λ k. bytes_eq k.name j.name) joining j c ((bytes_eq-Decides j.name j.name).1 refl) in
    let is = find_some (λ k. bytes_eq k.name j.name) joining there.0 there.1 in
    there.1 ∙ ap Some (one_of (λ k. k.name) joining there.0 j distinct is.0 c ((bytes_eq-Decides there.0.name j.name).0 is.1))

pub free_numbers_law : (p : SymbolicProcess) (joining : List Joining) (names : List (List ℕ)) → Facts p joining names → HasFreeNumbers p joining
free_numbers_law p joining names facts = record {
  apart = facts.apart;
  small = facts.small;
  free = facts.free;
  found = all_contained (λ j. joining_at joining j.number ≡ Some j) joining (λ j c. number_found joining j facts.apart c);
}
