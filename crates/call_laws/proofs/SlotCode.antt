-- The code to which slots lead.
use Rattle.std.proofs.Common.{◌≡◌, ◌≢◌, ℕ, zero, suc, ◌+◌, ◌-◌, ◌%◌, ◌<◌, ◌≤◌, Bool, true, false, ◌&&◌, ◌==◌, cond, inl, inr, List, [], ◌∷◌, Option, Some, None, Result, Ok, Err, slice_get, refl, sym, ap, subst, ◌∙◌, arith, AllPairs}
use Rattle.std.specs.Prelude.{find, option_and_then, option_map}
use Rattle.std.specs.FinMap.{empty}
use Rattle.std.specs.List.{zip}
use Rattle.std.specs.Option.{option_map_or}
use Rattle.std.proofs.lemmas.Bool.{and_from, and_parts, cases_lt}
use Rattle.fd_base.proofs.Options.{map_not_none, or_some, or_some_later}
use Rattle.load_map.specs.declared.entry.MapEntry.{MapEntry}
use Rattle.elf_model.specs.declared.constants.TheConstants.{PF_X}
use Rattle.elf_model.specs.declared.func.Func.{Func}
use Rattle.elf_model.specs.declared.object.Object.{Object}
use Rattle.elf_model.specs.declared.object.Rel.{Rel}
use Rattle.elf_model.specs.declared.object.Segment.{Segment}
use Rattle.elf_model.specs.Places.{is_executable_in, is_held_in}
use Rattle.elf_model.specs.Segments.{has_flag}
use Rattle.fd_base.proofs.Finding.{any_at}
use Rattle.load_map.specs.Whole.{PlacedApart}
use Rattle.fd_base.proofs.Lists.{pairs_at, zip_at_right}
use Rattle.load_model.specs.declared.error.LoadRefusal.{LoadRefusal}
use Rattle.load_model.specs.declared.module.Live.{Live}
use Rattle.load_model.specs.declared.words.SlotPair.{SlotPair}
use Rattle.load_map.specs.Maps.{map_at}
use Rattle.load_map.specs.Translation.{placed}
use Rattle.fd_base.specs.Ranges.{is_in}
use Rattle.load_model.specs.Linkage.{linkage_of}
use Rattle.load_model.specs.Unbound.{stub_of, unbound_of}
use Rattle.elf_model.specs.Filled.{slot_site}
use Rattle.load_model.specs.Process.{object_at}
use Rattle.load_model.specs.Sites.{function_at, is_code}
use Rattle.load_state.specs.Consistent.{IsConsistent, IsEntryOf}
use Rattle.load_state.specs.Loaded.{Loaded, placing_of}
use Rattle.load_map.specs.Maps.{map_at}
use Rattle.load_state.specs.Slots.{function_or_none, slot_function, slot_pair_at}
use Rattle.fd_base.proofs.Ranges.{is_inside}
use Rattle.load_laws.proofs.OwnDescriptors.{code_at as function_is_code}
use Rattle.fd_base.proofs.Members.{contains_at}
use Rattle.call_laws.proofs.ClearEntries.{slot_listed}
use Rattle.call_laws.proofs.SlotsLead.{held_means, in_object}
use Rattle.call_laws.proofs.GotsName.{one_owner}
use Rattle.call_laws.proofs.PlacedCode.{LiesIn, LiesBy, lies_by}
use Rattle.placed_code.specs.Places.{code_among, code_at, code_in, is_code_of, link_of}
use Rattle.call_laws.specs.parts.SlotLeads.{IsSlotOf, SlotsLeadToPlacedCode}
use Rattle.call_laws.proofs.CodePlaces.{coded_by}

-- ---- what is found

found_in : {A B : Type 0} (p : A × B → Bool) (xs : List A) (ys : List B) (k : ℕ) (x : A) (y : B) → slice_get xs k ≡ Some x → slice_get ys k ≡ Some y
    → p (x, y) ≡ true
    → find p (zip xs ys) ≢ None
found_in p [] ys k x y at at' passes = absurd cc
found_in p (a ∷ xs) [] k x y at at' passes = absurd cc
found_in {A} {B} p (a ∷ xs) (b ∷ ys) zero x y at at' passes =
    let one : a ≡ x = cc in
    let two : b ≡ y = cc in
    let here : p (a, b) ≡ true = ap (λ (z : A). p (z, b)) one ∙ ap (λ (z : B). p (x, z)) two ∙ passes in
    λ none. let never : ◌≡◌ {A = Option (A × B)} (Some (a, b)) None = rw here at none in absurd cc
found_in p (a ∷ xs) (b ∷ ys) (suc k) x y at at' passes = first_or p (a, b) (zip xs ys) (found_in p xs ys k x y at at' passes)
  where
    first_or : {X : Type 0} (p : X → Bool) (z : X) (zs : List X) → find p zs ≢ None → find p (z ∷ zs) ≢ None
    first_or p z zs some = by (p z)
      where
        by : (b : Bool) → cond b (Some z) (find p zs) ≢ None
        by true = λ none. absurd cc
        by false = some

-- some module has code there
among_some : (maps : List (List MapEntry)) (a m j : ℕ) (places : List (Option Live)) (live : Live) → slice_get places j ≡ Some (Some live)
    → code_in a (m + j) live.object (map_at maps (m + j)) ≢ None → code_among maps a m places ≢ None
among_some maps a m j [] live at some = absurd cc
among_some maps a m zero (place ∷ places) live at some =
    let same : place ≡ Some live = cc in
    let here : code_in a m live.object (map_at maps m) ≢ None = subst (λ (n : ℕ). code_in a n live.object (map_at maps n) ≢ None) (omega arith) some in
    or_some (option_and_then (λ (x : Live). code_in a m x.object (map_at maps m)) place) (code_among maps a (suc m) places)
    (subst (λ (x : Option Live). option_and_then (λ (y : Live). code_in a m y.object (map_at maps m)) x ≢ None) (sym same) here)
among_some maps a m (suc j) (place ∷ places) live at some =
    or_some_later (option_and_then (λ (x : Live). code_in a m x.object (map_at maps m)) place) (code_among maps a (suc m) places)
    (among_some maps a (suc m) j places live at (subst (λ (n : ℕ). code_in a n live.object (map_at maps n) ≢ None) (omega arith) some))

-- the live module of an object
in_place : (x : Option (Option Live)) (o : Object) → option_map (λ (live : Live). live.object) (option_and_then (λ (place : Option Live). place) x) ≡ Some o
    → (live : Live) × (x ≡ Some (Some live)) × (live.object ≡ o)
in_place None o is = absurd cc
in_place (Some None) o is = absurd cc
in_place (Some (Some live)) o is = (live, refl, cc)

-- ---- code that is placed

same_func : (m n v w : ℕ) → m ≡ n → v ≡ w → ◌≡◌ {A = Func} (record { «module» = m; value = v }) (record { «module» = n; value = w })
same_func m n v w p q = cc

-- two placed segments of one module that have one address are one
one_entry : (es : List MapEntry) (i j a : ℕ) (d e : MapEntry) → AllPairs PlacedApart es → slice_get es i ≡ Some d → slice_get es j ≡ Some e
    → d.addr ≤ a → a < d.addr + d.memsz → e.addr ≤ a → a < e.addr + e.memsz → d ≡ e
one_entry es i j a d e apart p q low high from to =
    elim (cases_lt i j) [
      | inl lt ↦ absurd (meets d e (pairs_at PlacedApart es i j d e apart lt p q) low high from to)
      | inr le ↦ elim (cases_lt j i) [
        | inl lt ↦ absurd (meets e d (pairs_at PlacedApart es j i e d apart lt q p) from to low high)
        | inr ge ↦ let same : i ≡ j = omega arith in let both : Some d ≡ Some e = sym p ∙ ap (slice_get es) same ∙ q in cc
      ]
    ]
  where
    meets : (x y : MapEntry) → PlacedApart x y → x.addr ≤ a → a < x.addr + x.memsz → y.addr ≤ a → a < y.addr + y.memsz → ⊥
    meets x y (inl before) low high from to = absurd (omega arith)
    meets x y (inr after) low high from to = absurd (omega arith)

module _ (l : Loaded) (h : IsConsistent l) (f : Func) (o : Object) (live : object_at l.modules.process f.module ≡ Some o) (executable : is_executable_in o.segments f.value ≡ true) where
  abbrev a : ℕ
  a = placed (map_at l.modules.maps f.module) f.value

  one : (k : ℕ) × (s : Segment) × ((slice_get o.segments k ≡ Some s) × ((has_flag s.flags PF_X && is_held_in s f.value) ≡ true))
  one = any_at (λ s. has_flag s.flags PF_X && is_held_in s f.value) o.segments executable

  parts : (has_flag (one.1).flags PF_X ≡ true) × (is_held_in one.1 f.value ≡ true)
  parts = and_parts (has_flag (one.1).flags PF_X) (is_held_in one.1 f.value) one.2.1

  by : LiesBy l f.module one.0 f.value
  by = let range = held_means one.1 f.value parts.1 in lies_by l h f.module one.0 o one.1 live one.2.0 f.value range.0 (omega (arith, range.1))

  -- a module has code there
  some_code : code_at l.modules.process l.modules.maps a ≢ None
  some_code =
      let place = in_place (slice_get l.modules.process.modules f.module) o live in
      let passes : is_code_of a (one.1, by.entry) ≡ true =
      and_from (has_flag (one.1).flags PF_X) (is_in by.entry.addr by.entry.memsz a) parts.0 (is_inside by.entry.addr by.entry.memsz a by.above by.below) in
      let here : code_in a f.module o (map_at l.modules.maps f.module) ≢ None =
      map_not_none (link_of a f.module) (find (is_code_of a) (zip o.segments (map_at l.modules.maps f.module))) (found_in (is_code_of a) o.segments (map_at l.modules.maps f.module) one.0 one.1 by.entry one.2.0 by.at passes) in
      among_some l.modules.maps a 0 f.module l.modules.process.modules place.0 place.1
      (subst (λ (n : ℕ). code_in a n place.0.object (map_at l.modules.maps n) ≢ None) (omega arith) (subst (λ (x : Object). code_in a f.module x (map_at l.modules.maps f.module) ≢ None) (sym place.2) here))

  -- and only the function's
  only_code : (g : Func) → code_at l.modules.process l.modules.maps a ≡ Some g → g ≡ f
  only_code g is =
      let its = coded_by l a g is in
      let its_range : LiesIn l g.module a =
      record { entry = its.entry; listed = contains_at (map_at l.modules.maps g.module) its.pair.index its.entry its.pair.right; above = its.above; below = its.below } in
      let own : LiesIn l f.module a =
      record { entry = by.entry; listed = contains_at (map_at l.modules.maps f.module) one.0 by.entry by.at; above = by.above; below = by.below } in
      let same : g.module ≡ f.module = one_owner l h g.module f.module a its_range own in
      let there : slice_get (map_at l.modules.maps f.module) its.pair.index ≡ Some its.entry =
      subst (λ (n : ℕ). slice_get (map_at l.modules.maps n) its.pair.index ≡ Some its.entry) same its.pair.right in
      let entry : its.entry ≡ by.entry =
      one_entry (map_at l.modules.maps f.module) its.pair.index one.0 a its.entry by.entry (h.modules'.standing f.module o live).apart there by.at its.above its.below by.above by.below in
      let value : g.value ≡ f.value = its.value' ∙ ap (λ (e : MapEntry). e.vaddr + (a - e.addr)) entry ∙ by.back in
      both g f same value
    where
      both : (x y : Func) → x.module ≡ y.module → x.value ≡ y.value → x ≡ y
      both x y p q = same_func x.module y.module x.value y.value p q

  pub function_there : code_at l.modules.process l.modules.maps a ≡ Some f
  function_there = decided (code_at l.modules.process l.modules.maps a) some_code only_code
    where
      decided : (x : Option Func) → x ≢ None → ((g : Func) → x ≡ Some g → g ≡ f) → x ≡ Some f
      decided None some only = absurd (some refl)
      decided (Some g) some only = ap Some (only g refl)

-- ---- slots

answer_of : (x : Result (Option Func) LoadRefusal) (f : Func) → function_or_none x ≡ Some f → x ≡ Ok (Some f)
answer_of (Ok y) f is = ap (λ z. Ok z) is
answer_of (Err e) f is = absurd cc

module _ (l : Loaded) (h : IsConsistent l) (m k : ℕ) (o : Object) (r : Rel) (slot : SlotPair) (slot_is : IsSlotOf l m k o r slot) where
  word_is : slot.code ≡ option_map_or (λ (g : Func). placed (map_at l.modules.maps g.module) g.value) (slot_function (linkage_of l.modules.process) m o r) 0
  word_is =
      let at : SlotPair =
      slot_pair_at (linkage_of l.modules.process) (placing_of l.modules.process l.modules.maps empty) m o (unbound_of l.modules.process m) (slot_site k r) in
      let both : Some slot ≡ Some at = sym slot_is.pair ∙ slot_listed l m k o r slot_is.live slot_is.is_slot in
      let same : slot ≡ at = cc in
      ap (λ (s : SlotPair). s.code) same
      ∙ ap (λ b. option_map_or (λ (g : Func). placed (map_at l.modules.maps g.module) g.value)
      (cond b (Some (stub_of m o r)) (slot_function (linkage_of l.modules.process) m o r)) 0) slot_is.bound

  to_function : (f : Func) → slot_function (linkage_of l.modules.process) m o r ≡ Some f → code_at l.modules.process l.modules.maps slot.code ≡ Some f
  to_function f is =
      let word : slot.code ≡ placed (map_at l.modules.maps f.module) f.value =
      word_is ∙ ap (λ (x : Option Func). option_map_or (λ (g : Func). placed (map_at l.modules.maps g.module) g.value) x 0) is in
      let coded : is_code (linkage_of l.modules.process) f ≡ true =
      function_is_code (linkage_of l.modules.process) m o r f (answer_of (function_at (linkage_of l.modules.process) m o r) f is) in
      let parts =
      and_parts (f.value % 4 == 0) (option_map_or (λ (x : Object). is_executable_in x.segments f.value) (object_at l.modules.process f.module) false) coded in
      let its = in_object (object_at l.modules.process f.module) f.value parts.1 in
      ap (code_at l.modules.process l.modules.maps) word ∙ function_there l h f its.0 its.1 its.2

  no_code : (x : Option Func) → code_at l.modules.process l.modules.maps 0 ≡ x → x ≡ None
  no_code None is = refl
  no_code (Some g) is =
      let its = coded_by l 0 g is in
      let entry =
      zip_at_right (IsEntryOf l.modules.plan) its.object'.segments (map_at l.modules.maps g.module) its.pair.index its.entry (h.modules'.standing g.module its.object' its.live).mapped its.pair.right in
      let above = entry.2.above in
      let low : its.entry.addr ≤ 0 = its.above in
      absurd (omega arith)

  to_none : slot_function (linkage_of l.modules.process) m o r ≡ None → code_at l.modules.process l.modules.maps slot.code ≡ None
  to_none is =
      let word : slot.code ≡ 0 = word_is ∙ ap (λ (x : Option Func). option_map_or (λ (g : Func). placed (map_at l.modules.maps g.module) g.value) x 0) is in
      ap (code_at l.modules.process l.modules.maps) word ∙ no_code (code_at l.modules.process l.modules.maps 0) refl

pub slots_lead_to_placed_code_lem : SlotsLeadToPlacedCode
slots_lead_to_placed_code_lem = record {
  function = λ l m k o r slot f h slot_is is. to_function l h m k o r slot slot_is f is;
  nothing = λ l m k o r slot h slot_is is. to_none l h m k o r slot slot_is is;
}
