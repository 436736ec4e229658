-- Objects and tables of the tests.
use Rattle.std.proofs.Common.{◌≡◌, ℕ, zero, suc, ◌+◌, ◌%◌, ◌^◌, ◌<◌, ◌≤◌, Bool, true, false, cond, ◌==◌, Option, Some, None, List, [], ◌∷◌, ◌++◌, map, length, refl, sym, ap, subst, ◌∙◌, arith, replicate, take, drop, get_or, ◌-◌, All, AllPairs, inl, inr}
use Rattle.std.specs.Prelude.{option_map, option_and_then, slice_get, slice_set, unwrap_or}
use Rattle.std.proofs.lemmas.List.Elements.{All-nil, All-cons, All-head, All-tail}
use Rattle.std.specs.Option.{option_or}
use Rattle.std.proofs.lemmas.Bool.{eqb-true, eqb-false}
use Rattle.std.proofs.lemmas.List.{take_all}
use Rattle.std.proofs.lemmas.List.Kept.{AllPairs-cons}
use Rattle.fd_base.proofs.Options.{or_none}
use Rattle.elf_model.specs.declared.constants.TheConstants.{R_ARM_FUNCDESC_VALUE}
use Rattle.elf_model.specs.declared.object.Object.{Object}
use Rattle.elf_model.specs.declared.object.Rel.{Rel}
use Rattle.elf_model.specs.declared.object.Segment.{Segment}
use Rattle.elf_model.specs.declared.table.Site.{Site}
use Rattle.elf_model.specs.Places.{is_writable_in, site_of_rel, filled_ranges}
use Rattle.elf_model.specs.Relocations.{site_size, word_site, got_header}
use Rattle.symbol_scope.specs.declared.table.Table.{Table}
use Rattle.symbol_scope.specs.Exports.{ExportMap, exports_of}
use Rattle.symbol_scope.specs.parts.Needs.{table_at}
use Rattle.symbol_scope.specs.parts.Slots.{Slots}
use Rattle.symbol_scope.specs.Table.{table_of}
use Rattle.load_model.specs.declared.module.Joining.{Joining}
use Rattle.load_model.specs.Linkage.{joining_at}
use Rattle.load_sites.specs.declared.linker.Linker.{Linker}
use Rattle.load_sites.specs.parts.Linker.{linkage, IsReady}
use Rattle.elf_model.proofs.Examples.{word_aligned}
use Rattle.elf_model.specs.Sound.{IsSound, IsSized, SegmentsApart, RangesApart, IsWhole, IsInPlace}

abbrev pub text : List ℕ → Segment
text bytes = record { vaddr = 256; memsz = 1024; flags = 5; align = 4; filled = bytes }

abbrev pub words : List ℕ → Segment
words bytes = record { vaddr = 65536; memsz = 256; flags = 6; align = 4; filled = bytes }

abbrev range : ℕ → Bool → Site
range at b = record { addr = at; size = cond b 8 4 }

small : (b : Bool) → cond b 8 4 ≤ 8
small true = omega arith
small false = omega arith

module _ (f g : List ℕ) (few_f : length f ≤ 1024) (few_g : length g ≤ 256) (b0 b1 b2 b3 : Bool) where
  abbrev ss : List Segment
  ss = text f ∷ words g ∷ []

  abbrev ranges : List Site
  ranges = record { addr = 65536; size = 12 } ∷ range 65552 b0 ∷ range 65560 b1 ∷ range 65568 b2 ∷ range 65576 b3 ∷ []

  each : (P : Site → Type 0) → P (record { addr = 65536; size = 12 }) → P (range 65552 b0) → P (range 65560 b1) → P (range 65568 b2) → P (range 65576 b3) → All P ranges
  each P p q0 q1 q2 q3 =
      All-cons P (record { addr = 65536; size = 12 }) (range 65552 b0 ∷ range 65560 b1 ∷ range 65568 b2 ∷ range 65576 b3 ∷ []) p
      (All-cons P (range 65552 b0) (range 65560 b1 ∷ range 65568 b2 ∷ range 65576 b3 ∷ []) q0
      (All-cons P (range 65560 b1) (range 65568 b2 ∷ range 65576 b3 ∷ []) q1
      (All-cons P (range 65568 b2) (range 65576 b3 ∷ []) q2
      (All-cons P (range 65576 b3) [] q3 (All-nil P)))))

  both : (P : Segment → Type 0) → P (text f) → P (words g) → All P ss
  both P p q = All-cons P (text f) (words g ∷ []) p (All-cons P (words g) [] q (All-nil P))

  placed : (at : ℕ) (b : Bool) → at % 4 ≡ 0 → is_writable_in ss at 8 ≡ true → is_writable_in ss at 4 ≡ true → IsInPlace ss (range at b)
  placed at true aligned eight four = record { aligned = aligned; writable = eight }
  placed at false aligned eight four = record { aligned = aligned; writable = four }

  all_in_place : All (IsInPlace ss) ranges
  all_in_place =
      each (IsInPlace ss) (record { aligned = refl; writable = refl }) (placed 65552 b0 refl refl refl) (placed 65560 b1 refl refl refl) (placed 65568 b2 refl refl refl)
      (placed 65576 b3 refl refl refl)

  in_words : (at : ℕ) (b : Bool) → 65536 ≤ at → at + 8 ≤ 65792 → IsWhole (words g) (range at b)
  in_words at b low high = let le = small b in let end : at + cond b 8 4 ≤ 65792 = omega arith in inl (low, end)

  off_text : (at : ℕ) (b : Bool) → 1280 ≤ at → IsWhole (text f) (range at b)
  off_text at b low = inr (inr low)

  all_whole : All (λ s. All (IsWhole s) ranges) ss
  all_whole =
      both (λ s. All (IsWhole s) ranges)
      (each (IsWhole (text f)) (inr (inr (omega arith))) (off_text 65552 b0 (omega arith)) (off_text 65560 b1 (omega arith)) (off_text 65568 b2 (omega arith)) (off_text 65576 b3 (omega arith)))
      (each (IsWhole (words g)) (inl (omega arith, omega arith)) (in_words 65552 b0 (omega arith) (omega arith)) (in_words 65560 b1 (omega arith) (omega arith))
      (in_words 65568 b2 (omega arith) (omega arith)) (in_words 65576 b3 (omega arith) (omega arith)))

  before : (at : ℕ) (b : Bool) (s : Site) → at + 8 ≤ s.addr → RangesApart (range at b) s
  before at b s high = let le = small b in let end : at + cond b 8 4 ≤ s.addr = omega arith in inl end

  all_apart : AllPairs RangesApart ranges
  all_apart =
      let r0 = range 65552 b0 in
      let r1 = range 65560 b1 in
      let r2 = range 65568 b2 in
      let r3 = range 65576 b3 in
      let head : Site = record { addr = 65536; size = 12 } in
      let R : Site → Site → Type 0 = RangesApart in
      AllPairs-cons R head (r0 ∷ r1 ∷ r2 ∷ r3 ∷ [])
      (All-cons (R head) r0 (r1 ∷ r2 ∷ r3 ∷ []) (inl (omega arith)) (All-cons (R head) r1 (r2 ∷ r3 ∷ []) (inl (omega arith))
      (All-cons (R head) r2 (r3 ∷ []) (inl (omega arith)) (All-cons (R head) r3 [] (inl (omega arith)) (All-nil (R head))))))
      (AllPairs-cons R r0 (r1 ∷ r2 ∷ r3 ∷ [])
      (All-cons (R r0) r1 (r2 ∷ r3 ∷ []) (before 65552 b0 r1 (omega arith)) (All-cons (R r0) r2 (r3 ∷ []) (before 65552 b0 r2 (omega arith))
      (All-cons (R r0) r3 [] (before 65552 b0 r3 (omega arith)) (All-nil (R r0)))))
      (AllPairs-cons R r1 (r2 ∷ r3 ∷ [])
      (All-cons (R r1) r2 (r3 ∷ []) (before 65560 b1 r2 (omega arith)) (All-cons (R r1) r3 [] (before 65560 b1 r3 (omega arith)) (All-nil (R r1))))
      (AllPairs-cons R r2 (r3 ∷ []) (All-cons (R r2) r3 [] (before 65568 b2 r3 (omega arith)) (All-nil (R r2)))
      (AllPairs-cons R r3 [] (All-nil (R r3)) (λ i j d lt within. absurd (omega arith))))))

  sound_by : (o : Object) → o.segments ≡ ss → filled_ranges o ≡ ranges → length o.rels ≤ 4 → o.jmprels ≡ [] → IsSound o
  sound_by o es er few_rels ej = record {
    few = subst (λ x. length x ≤ 8) (sym es) (omega arith);
    apart = subst (AllPairs SegmentsApart) (sym es)
        (AllPairs-cons SegmentsApart (text f) (words g ∷ []) (All-cons (SegmentsApart (text f)) (words g) [] (inl (omega arith)) (All-nil (SegmentsApart (text f))))
        (AllPairs-cons SegmentsApart (words g) [] (All-nil (SegmentsApart (words g))) (λ i j d lt within. absurd (omega arith))));
    sized = subst (All IsSized) (sym es)
        (both IsSized (record { some = omega arith; end = omega arith; filled = few_f; aligned = word_aligned }) (record { some = omega arith; end = omega arith; filled = few_g; aligned = word_aligned }));
    in_place = subst (λ x. All (IsInPlace x) (filled_ranges o)) (sym es) (subst (All (IsInPlace ss)) (sym er) all_in_place);
    whole = subst (All (λ s. All (IsWhole s) (filled_ranges o))) (sym es) (subst (λ x. All (λ s. All (IsWhole s) x) ss) (sym er) all_whole);
    distinct = subst (AllPairs RangesApart) (sym er) all_apart;
    slot_kinds = subst (All (λ r. r.kind ≡ R_ARM_FUNCDESC_VALUE)) (sym ej) (All-nil (λ r. r.kind ≡ R_ARM_FUNCDESC_VALUE));
    few_rels = omega arith;
    few_slots = subst (λ x. length x ≤ 65536) (sym ej) (omega arith);
  }

abbrev is_pair : Rel → Bool
is_pair r = r.kind == R_ARM_FUNCDESC_VALUE

pub sound_object : (f g : List ℕ) → length f ≤ 1024 → length g ≤ 256 → (r0 r1 r2 r3 : Rel) → r0.site ≡ 65552 → r1.site ≡ 65560 → r2.site ≡ 65568 → r3.site ≡ 65576 → (o : Object)
    → o.segments ≡ text f ∷ words g ∷ [] → o.rels ≡ r0 ∷ r1 ∷ r2 ∷ r3 ∷ [] → o.jmprels ≡ [] → o.got ≡ 65536 → o.fixups ≡ None → IsSound o
sound_object f g few_f few_g r0 r1 r2 r3 e0 e1 e2 e3 o es er ej eg ef =
    let laid : filled_ranges o ≡ got_header 65536 ∷ site_of_rel r0 ∷ site_of_rel r1 ∷ site_of_rel r2 ∷ site_of_rel r3 ∷ [] =
    λ i. got_header (eg i) ∷ map site_of_rel (er i) ++ map site_of_rel (ej i) ++ map word_site (unwrap_or (ef i) []) in
    let moved : got_header 65536 ∷ site_of_rel r0 ∷ site_of_rel r1 ∷ site_of_rel r2 ∷ site_of_rel r3 ∷ []
    ≡ got_header 65536 ∷ range 65552 (is_pair r0) ∷ range 65560 (is_pair r1) ∷ range 65568 (is_pair r2) ∷ range 65576 (is_pair r3) ∷ [] =
    λ i. got_header 65536 ∷ record { addr = e0 i; size = site_size r0.kind } ∷ record { addr = e1 i; size = site_size r1.kind } ∷ record { addr = e2 i; size = site_size r2.kind }
    ∷ record { addr = e3 i; size = site_size r3.kind } ∷ [] in
    let few : length o.rels ≤ 4 = subst (λ x. length x ≤ 4) (sym er) (omega arith) in
    sound_by f g few_f few_g (is_pair r0) (is_pair r1) (is_pair r2) (is_pair r3) o es (laid ∙ moved) few ej

-- ---- tables

get_set_same : {X : Type 0} (xs : List X) (i : ℕ) (v : X) → i < length xs → slice_get (slice_set xs i v) i ≡ Some v
get_set_same [] i v lt = absurd (omega arith)
get_set_same (x ∷ xs) zero v lt = refl
get_set_same (x ∷ xs) (suc i) v lt = let below : i < length xs = omega arith in get_set_same xs i v below

get_set_other : {X : Type 0} (xs : List X) (i j : ℕ) (v : X) → (i ≡ j → ⊥) → slice_get (slice_set xs i v) j ≡ slice_get xs j
get_set_other [] i j v ne = refl
get_set_other (x ∷ xs) zero zero v ne = absurd (ne refl)
get_set_other (x ∷ xs) zero (suc j) v ne = refl
get_set_other (x ∷ xs) (suc i) zero v ne = refl
get_set_other (x ∷ xs) (suc i) (suc j) v ne = get_set_other xs i j v (λ e. ne (ap suc e))

abbrev exported : Option (Option Table) → Option ExportMap
exported slot = option_map (λ t. t.exports) (option_and_then (λ s. s) slot)

abbrev pub wants : Option Joining → Option ExportMap
wants new = option_map (λ j. exports_of j.object.symbols) new

pub no_tables : (k m : ℕ) → option_map (λ t. t.exports) (table_at (replicate k None) m) ≡ wants None
no_tables zero m = refl
no_tables (suc k) zero = refl
no_tables (suc k) (suc m) = no_tables k m

pub one_table : (t : Slots) (rest : List Joining) (new : Joining) → new.number < length t
    → ((m : ℕ) → option_map (λ x. x.exports) (table_at t m) ≡ wants (joining_at rest m))
    → (m : ℕ) → option_map (λ x. x.exports) (table_at (slice_set t new.number (Some (table_of new.name new.object))) m) ≡ wants (joining_at (new ∷ rest) m)
one_table t rest new lt before m = by (new.number == m) refl
  where
    by : (b : Bool) → (new.number == m) ≡ b → option_map (λ x. x.exports) (table_at (slice_set t new.number (Some (table_of new.name new.object))) m) ≡ wants (cond b (Some new) (joining_at rest m))
    by true is = ap (λ k. exported (slice_get (slice_set t new.number (Some (table_of new.name new.object))) k)) (sym (eqb-true new.number m is)) ∙ ap exported (get_set_same t new.number (Some (table_of new.name new.object)) lt)
    by false is = ap exported (get_set_other t new.number m (Some (table_of new.name new.object)) (eqb-false new.number m is)) ∙ before m

-- ---- linkers

twice : {X Y Z : Type 0} (f : X → Y) (g : Y → Z) (x : Option X) → option_map (λ y. g (f y)) x ≡ option_map g (option_map f x)
twice f g None = refl
twice f g (Some x) = refl

few_of : (joining : List Joining) (m : ℕ) (o : Object) → All (λ j. length j.object.symbols ≤ 2 ^ 32) joining → option_map (λ j. j.object) (joining_at joining m) ≡ Some o → length o.symbols ≤ 2 ^ 32
few_of [] m o all is = absurd (none_some o is)
  where
    none_some : (o : Object) → None ≡ Some o → ⊥
    none_some o is = cc
few_of (j ∷ js) m o all is = by (j.number == m) is (few_of js m o (All-tail (λ x. length x.object.symbols ≤ 2 ^ 32) j js all))
  where
    by : (b : Bool) → option_map (λ x. x.object) (cond b (Some j) (joining_at js m)) ≡ Some o → (option_map (λ x. x.object) (joining_at js m) ≡ Some o → length o.symbols ≤ 2 ^ 32) → length o.symbols ≤ 2 ^ 32
    by true here later = let same : j.object ≡ o = cc in subst (λ x. length x.symbols ≤ 2 ^ 32) same (All-head (λ x. length x.object.symbols ≤ 2 ^ 32) j js all)
    by false there later = later there

objects_are : (l : Linker) → l.process.now.modules ≡ [] → (m : ℕ) → (linkage l).objects m ≡ option_map (λ j. j.object) (joining_at l.joining.now m)
unfolding linkage
objects_are l empty m =
    ap (λ ms. option_or (option_map (λ j. j.object) (joining_at l.joining.now m)) (option_map (λ live. live.object) (option_and_then (λ place. place) (slice_get ms m)))) empty
    ∙ or_none (option_map (λ j. j.object) (joining_at l.joining.now m))

pub ready_by : (l : Linker) → l.process.now.modules ≡ [] → ((m : ℕ) → option_map (λ x. x.exports) (table_at l.tables.now.slots m) ≡ wants (joining_at l.joining.now m))
    → All (λ j. length j.object.symbols ≤ 2 ^ 32) l.joining.now → IsReady l
ready_by l empty tables few = record {
  tables = λ m. tables m ∙ twice (λ j. j.object) (λ o. exports_of o.symbols) (joining_at l.joining.now m) ∙ ap (option_map (λ o. exports_of o.symbols)) (sym (objects_are l empty m));
  few = λ m o is. few_of l.joining.now m o few (sym (objects_are l empty m) ∙ is);
}

-- ---- the front of a list

pub nothing : {X : Type 0} (xs : List X) → length xs < 1 → xs ≡ []
nothing [] lt = refl
nothing (x ∷ xs) lt = absurd (omega arith)

pub front : {X : Type 0} (xs : List X) (x : X) → 1 ≤ length xs → x ≡ get_or xs 0 x → x ∷ take (length xs - 1) (drop 1 xs) ≡ xs
front [] x le is = absurd (omega arith)
front (y ∷ ys) x le is =
    ap (λ z. z ∷ take (length (y ∷ ys) - 1) ys) is ∙ ap (λ zs. y ∷ zs) (take_all (length (y ∷ ys) - 1) ys (omega arith))
