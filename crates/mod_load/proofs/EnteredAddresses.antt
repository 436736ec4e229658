-- Addresses that are entered one after another.
use Rattle.std.proofs.Common.{◌≡◌, ◌≢◌, ℕ, zero, suc, ◌+◌, ◌*◌, ◌<◌, ◌≤◌, ◌⊎◌, inl, inr, Bool, true, false, cond, List, [], ◌∷◌, ◌++◌, length, drop, take, get_or, map, slice_get, Option, Some, None, refl, sym, ap, subst, ◌∙◌, arith}
use Rattle.std.specs.Prelude.{Contains, IfNone, is_some, not, option_map}
use Rattle.std.specs.FinMap.{get, insert, get-insert}
use Rattle.std.specs.List.{find}
use Rattle.std.specs.Option.{option_or}
use Rattle.std.specs.Ordering.{eq_by_cmp}
use Rattle.std.proofs.lemmas.Bool.{cases_Bool, false≢true}
use Rattle.std.proofs.lemmas.List.{drop-drop, take_more}
use Rattle.std.proofs.lemmas.List.Elements.{Contains-get_or}
use Rattle.std.proofs.lemmas.Option.{slice_get_within}
use Rattle.fd_base.proofs.Members.{in_take}
use Rattle.fd_base.proofs.Options.{or_assoc, or_none, or_cases, if_none_at}
use Rattle.elf_model.specs.declared.func.Func.{Func}
use Rattle.func_desc.specs.Functions.{AddrMap, func_cmp}
use Rattle.func_desc.specs.Pool.{Pool, IsSlot, address_for, free_slots}
use Rattle.func_desc.proofs.Values.{func_total, tied_func, tied_self}
use Rattle.load_laws.proofs.GivenSlots.{listed_in}
use Rattle.load_laws.proofs.ListedDescriptors.{same_decides}
use Rattle.load_places.proofs.ModuleLists.{pairs_before}
use Rattle.load_model.specs.Descriptors.{descriptors_after, is_same_func, listed_addr}
use Rattle.mod_load.specs.parts.EnteredAddresses.{AreEntered, AreNext, CanBeAdopted}

-- the value that a place past the end of a list reads as
abbrev pub no_entry : Func × ℕ
no_entry = (record { «module» = 0; value = 0 }, 0)

pub none_of : (o : Option ℕ) (b : Bool) → is_some o ≡ not b → b ≡ true → o ≡ None
none_of None b is none = refl
none_of (Some a) true is none = absurd cc
none_of (Some a) false is none = absurd cc

-- what an entry gives
listed_one : (f g : Func) (a : ℕ) → listed_addr ((f, a) ∷ []) g ≡ cond (is_same_func g f) (Some a) None
listed_one f g a = elim (is_same_func g f) as (λ b. option_map (λ (e : Func × ℕ). e.1) (cond b (Some (f, a)) None) ≡ cond b (Some a) None) [ true ↦ refl | false ↦ refl ]

listed_push : (entries : List (Func × ℕ)) (e : Func × ℕ) (g : Func) → listed_addr (entries ++ e ∷ []) g ≡ option_or (listed_addr entries g) (listed_addr (e ∷ []) g)
listed_push [] e g = refl
listed_push (x ∷ entries) e g =
    elim (is_same_func g x.0) as (λ b.
    option_map (λ (y : Func × ℕ). y.1) (cond b (Some x) (find (λ y. is_same_func g y.0) (entries ++ e ∷ [])))
    ≡ option_or (option_map (λ (y : Func × ℕ). y.1) (cond b (Some x) (find (λ y. is_same_func g y.0) entries))) (listed_addr (e ∷ []) g)) [
      | true ↦ refl
      | false ↦ listed_push entries e g
    ]

-- the address of a function that had none
got_one : (m : AddrMap) (f g : Func) (a : ℕ) → get m f ≡ None → get (insert m f a) g ≡ option_or (get m g) (listed_addr ((f, a) ∷ []) g)
got_one m f g a none = get-insert func_total m f a g ∙ by (cases_Bool (is_same_func g f)) (cases_Bool (eq_by_cmp func_cmp g f)) ∙ ap (option_or (get m g)) (sym (listed_one f g a))
  where
    by : (is_same_func g f ≡ true) ⊎ (is_same_func g f ≡ false) → (eq_by_cmp func_cmp g f ≡ true) ⊎ (eq_by_cmp func_cmp g f ≡ false)
        → cond (eq_by_cmp func_cmp g f) (Some a) (get m g) ≡ option_or (get m g) (cond (is_same_func g f) (Some a) None)
    by (inl same) (inl tied) =
        let is : g ≡ f = (same_decides g f).0 same in
        let had : get m g ≡ None = ap (get m) is ∙ none in
        rw (same, tied, had) refl
    by (inl same) (inr apart) = absurd (false≢true (sym apart ∙ ap (λ h. eq_by_cmp func_cmp h f) ((same_decides g f).0 same) ∙ tied_self f))
    by (inr other) (inl tied) = absurd (false≢true (sym other ∙ (same_decides g f).1 (tied_func g f tied)))
    by (inr other) (inr apart) = rw (other, apart) (sym (or_none (get m g)))

-- the pool where a function without an address gets one
pub entered_one : (old new : Pool) (f : Func) (a room : ℕ) → get old.addrs f ≡ None → new ≡ record { base = old.base; slots = old.slots; addrs = insert old.addrs f a; room = room } → AreEntered ((f, a) ∷ []) old new
entered_one old new f a room none is = record {
  base' = ap (λ p. p.base) is;
  slots' = ap (λ p. p.slots) is;
  addrs' = λ g. ap (λ p. get p.addrs g) is ∙ got_one old.addrs f g a none;
}

had_same : (had : Option ℕ) (same : Bool) (a b : ℕ) → (same ≡ true → had ≡ Some b) → had ≡ option_or had (cond same (Some a) None)
had_same None true a b h = absurd (let e = h refl in cc)
had_same None false a b h = refl
had_same (Some c) same a b h = refl

-- a function that has an address keeps it
pub entered_none : (pool : Pool) (f : Func) (a b : ℕ) → get pool.addrs f ≡ Some b → AreEntered ((f, a) ∷ []) pool pool
entered_none pool f a b had = record {
  base' = refl;
  slots' = refl;
  addrs' = λ g. had_same (get pool.addrs g) (is_same_func g f) a b (λ same. ap (get pool.addrs) ((same_decides g f).0 same) ∙ had) ∙ ap (option_or (get pool.addrs g)) (sym (listed_one f g a));
}

pub entered_nothing : (pool : Pool) → AreEntered [] pool pool
entered_nothing pool = record { base' = refl; slots' = refl; addrs' = λ f. sym (or_none (get pool.addrs f)) }

pub entered_more : (entries : List (Func × ℕ)) (e : Func × ℕ) (old mid new : Pool) → AreEntered entries old mid → AreEntered (e ∷ []) mid new → AreEntered (entries ++ e ∷ []) old new
entered_more entries e old mid new first last = record {
  base' = last.base' ∙ first.base';
  slots' = last.slots' ∙ first.slots';
  addrs' = λ f.
      last.addrs' f ∙ ap (λ had. option_or had (listed_addr (e ∷ []) f)) (first.addrs' f) ∙ or_assoc (get old.addrs f) (listed_addr entries f) (listed_addr (e ∷ []) f)
      ∙ ap (option_or (get old.addrs f)) (sym (listed_push entries e f));
}

-- the addresses after a load, of which some are adopted and then some given
pub after_both : (adopted given : List (Func × ℕ)) (old mid new : Pool) → AreEntered adopted old mid → AreEntered given mid new → (f : Func) → get new.addrs f ≡ descriptors_after (get old.addrs) adopted given f
after_both adopted given old mid new first last f =
    last.addrs' f ∙ ap (λ had. option_or had (listed_addr given f)) (first.addrs' f) ∙ or_assoc (get old.addrs f) (listed_addr adopted f) (listed_addr given f)

-- ---- adopting

pub record AreAdopted (done : List (Func × ℕ)) (n : ℕ) (old now : Pool) : Type 0 where
  pub entered : AreEntered done old now
  pub free : free_slots now ≡ free_slots old
  pub room : old.room ≤ now.room + n

pub adopted_nothing : (pool : Pool) → AreAdopted [] 0 pool pool
adopted_nothing pool = record { entered = entered_nothing pool; free = refl; room = omega arith }

module _ (adopted : List (Func × ℕ)) (old now : Pool) (i : ℕ) (d : Func × ℕ) (can : CanBeAdopted adopted old) (lt : i < length adopted) (done : AreAdopted (take i adopted) i old now) where
  here : Contains adopted (get_or adopted i d)
  here = Contains-get_or adopted i d lt

  pub next_unused : get now.addrs (get_or adopted i d).0 ≡ None → (g : Func) → get now.addrs g ≢ Some (get_or adopted i d).1
  next_unused none g is =
      let f = (get_or adopted i d).0 in
      let a = (get_or adopted i d).1 in
      elim (or_cases (get old.addrs g) (listed_addr (take i adopted) g) a (sym (done.entered.addrs' g) ∙ is)) [
        | inl had ↦ can.unused f g a here had
        | inr listed ↦
            let same : f ≡ g = can.distinct f g a here (in_take i adopted (g, a) (listed_in (take i adopted) g a listed)) in
            let never : None ≡ Some a = sym none ∙ ap (get now.addrs) same ∙ is in
            absurd cc
      ]

  pub next_no_slot : ¬ IsSlot now (get_or adopted i d).1
  next_no_slot slot =
      can.no_slot (get_or adopted i d).0 (get_or adopted i d).1 here
      (slot.0, subst (λ n. slot.0 < n) done.entered.slots' slot.1, subst (λ n. (get_or adopted i d).1 ≡ n + 8 * slot.0) done.entered.base' slot.2)

  pub adopted_more : (new : Pool) → AreEntered (((get_or adopted i d).0, (get_or adopted i d).1) ∷ []) now new → free_slots new ≡ free_slots now → now.room ≤ new.room + 1
      → AreAdopted (take (i + 1) adopted) (i + 1) old new
  adopted_more new last free room = record {
    entered = subst (λ es. AreEntered es old new) (sym (take_more adopted i d lt)) (entered_more (take i adopted) (get_or adopted i d) old now new done.entered last);
    free = free ∙ done.free;
    room = let before = done.room in omega arith;
  }

-- ---- giving slots

pub record AreGiven (done : List (Func × ℕ)) (n : ℕ) (old now : Pool) : Type 0 where
  pub entered : AreEntered done old now
  pub free : free_slots now ≡ drop n (free_slots old)

pub given_nothing : (pool : Pool) → AreGiven [] 0 pool pool
given_nothing pool = record { entered = entered_nothing pool; free = refl }

next_slot : (entries : List (Func × ℕ)) (slots : List ℕ) (i : ℕ) (d : Func × ℕ) → map (λ e. e.1) entries ≡ take (length entries) slots → i < length entries
    → slice_get (drop i slots) 0 ≡ Some (get_or entries i d).1
next_slot [] slots i d same lt = absurd (omega arith)
next_slot (e ∷ entries) [] i d same lt = absurd cc
next_slot (e ∷ entries) (a ∷ slots) zero d same lt = let first : e.1 ≡ a = cc in ap Some (sym first)
next_slot (e ∷ entries) (a ∷ slots) (suc i) d same lt =
    let rest : map (λ e. e.1) entries ≡ take (length entries) slots = cc in
    next_slot entries slots i d rest (omega arith)

module _ (given : List (Func × ℕ)) (old now : Pool) (i : ℕ) (d : Func × ℕ) (next : AreNext given old) (lt : i < length given) (done : AreGiven (take i given) i old now) where
  pub next_fresh : get now.addrs (get_or given i d).0 ≡ None
  next_fresh =
      let f = (get_or given i d).0 in
      done.entered.addrs' f ∙ ap (λ had. option_or had (listed_addr (take i given) f)) (next.fresh i d lt) ∙ none (listed_addr (take i given) f) refl
    where
      none : (o : Option ℕ) → listed_addr (take i given) (get_or given i d).0 ≡ o → o ≡ None
      none None is = refl
      none (Some a) is =
          absurd (pairs_before (λ (x e : Func × ℕ). x.0 ≢ e.0) given i d ((get_or given i d).0, a) next.once lt (listed_in (take i given) (get_or given i d).0 a is) refl)

  pub next_free : slice_get (free_slots now) 0 ≡ Some (get_or given i d).1
  next_free = ap (λ slots. slice_get slots 0) done.free ∙ next_slot given (free_slots old) i d next.slots' lt

  pub next_some : 0 < length (free_slots now)
  next_some = slice_get_within (free_slots now) 0 (get_or given i d).1 next_free

  pub given_more : (new : Pool) → ((addr : ℕ) → slice_get (free_slots now) 0 ≡ Some addr → AreEntered (((get_or given i d).0, addr) ∷ []) now new) → free_slots new ≡ drop 1 (free_slots now)
      → AreGiven (take (i + 1) given) (i + 1) old new
  given_more new last free = record {
    entered = subst (λ es. AreEntered es old new) (sym (take_more given i d lt)) (entered_more (take i given) (get_or given i d) old now new done.entered (last (get_or given i d).1 next_free));
    free = free ∙ ap (drop 1) done.free ∙ drop-drop 1 i (free_slots old);
  }

pub some_slot : (old : Pool) (f : Func) → get old.addrs f ≡ None → 0 < length (free_slots old) → address_for old f ≢ None
some_slot old f none some is =
    let free : slice_get (free_slots old) 0 ≡ None = sym (ap (λ had. option_or had (slice_get (free_slots old) 0)) none) ∙ is in
    not_empty (free_slots old) some free
  where
    not_empty : (xs : List ℕ) → 0 < length xs → slice_get xs 0 ≢ None
    not_empty [] lt e = omega arith
    not_empty (x ∷ xs) lt e = cc

pub gave : (old new : Pool) (f : Func) (a addr : ℕ) → get old.addrs f ≡ None → slice_get (free_slots old) 0 ≡ Some addr → address_for old f ≡ Some a
    → IfNone (get old.addrs f) (new ≡ record { base = old.base; slots = old.slots; addrs = insert old.addrs f a; room = old.room }) → AreEntered ((f, addr) ∷ []) old new
gave old new f a addr none first address given =
    let both : Some a ≡ Some addr = sym address ∙ ap (λ had. option_or had (slice_get (free_slots old) 0)) none ∙ first in
    let same : a ≡ addr = cc in
    subst (λ x. AreEntered ((f, x) ∷ []) old new) same (entered_one old new f a old.room none (if_none_at (get old.addrs f) none given))

pub gave_rest : (old new : Pool) (f : Func) → get old.addrs f ≡ None → IfNone (get old.addrs f) (free_slots new ≡ drop 1 (free_slots old)) → free_slots new ≡ drop 1 (free_slots old)
gave_rest old new f none rest = if_none_at (get old.addrs f) none rest
