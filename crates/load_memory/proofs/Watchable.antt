-- Ranges that loading fills, in the segments of a sound object, and where they are placed.
use Rattle.std.proofs.Common.{◌≡◌, inl, inr, ℕ, zero, suc, ◌+◌, ◌-◌, ◌^◌, ◌<◌, ◌≤◌, Bool, true, false, cond, List, [], ◌∷◌, Option, Some, None, length, get_or, refl, ap, sym, ◌∙◌, arith}
use Rattle.std.specs.Prelude.{◌&&◌, ◌||◌, All, AllPairs, slice_get, unwrap_or}
use Rattle.std.specs.List.{AllZip}
use Rattle.std.proofs.lemmas.Bool.Decides.{nat_tests}
use Rattle.std.proofs.lemmas.List.Folds.{list_any_none}
use Rattle.std.proofs.lemmas.List.Elements.{All-weaker}
use Rattle.std.proofs.lemmas.Option.{slice_get_within, slice_get-get_or}
use Rattle.fd_base.proofs.Bools.{and_true, or_false}
use Rattle.load_map.specs.declared.entry.MapEntry.{MapEntry}
use Rattle.load_map.specs.Translation.{is_held_by, placed_by, placed}
use Rattle.elf_model.specs.declared.constants.TheConstants.{PF_W, PF_X}
use Rattle.elf_model.specs.declared.object.Segment.{Segment}
use Rattle.elf_model.specs.Places.{is_held_in, is_executable_in, is_writable_in, spans}
use Rattle.elf_model.specs.Segments.{has_flag}
use Rattle.elf_model.specs.Sound.{SegmentsApart}
use Rattle.guest_mem.specs.declared.kind.MemKind.{MemKind}
use Rattle.guest_mem.specs.declared.kind.MemKind.TheVariants.{Code, Data, Fixed}
use Rattle.guest_mem.specs.Memory.{GuestMemory, kind_at, is_marked}
use Rattle.guest_mem.specs.parts.Kept.{SameMap}
use Rattle.load_map.specs.parts.IsLoadMap.{EndsBelow}
use Rattle.load_map.specs.Whole.{LinkedApart}
use Rattle.load_map.proofs.Holding.{whole}
use Rattle.load_model.specs.Layout.{kind_of_segment}
use Rattle.load_memory.specs.parts.PlacingSteps.{AreMapped, IsPlacedBy}
use Rattle.load_memory.specs.parts.WatchedRanges.{IsWatchable}
use Rattle.load_memory.proofs.ListPlaces.{both}
use Rattle.fd_base.proofs.Lists.{pairs_tail, pairs_head, pairs_at, all_at}
use Rattle.fd_base.proofs.Ranges.{is_inside}
use Rattle.load_memory.proofs.PairedLists.{zip_at, zip_right}

-- ---- the load map of segments

pub ends_below : (es : List MapEntry) (n : ℕ) → All (λ (e : MapEntry). e.addr + e.memsz ≤ n) es → n < 2 ^ 32 → All EndsBelow es
ends_below es n below l = All-weaker (λ (e : MapEntry). e.addr + e.memsz ≤ n) EndsBelow (λ e p. omega arith) es below

linked_one : (s t : Segment) (d e : MapEntry) → IsPlacedBy s d → IsPlacedBy t e → SegmentsApart s t → LinkedApart d e
linked_one s t d e p q (inl before) =
    let at : d.vaddr ≡ s.vaddr = p.vaddr in
    let long : d.memsz ≡ s.memsz = p.memsz in
    let next : e.vaddr ≡ t.vaddr = q.vaddr in
    inl (omega arith)
linked_one s t d e p q (inr after) =
    let at : d.vaddr ≡ s.vaddr = p.vaddr in
    let next : e.vaddr ≡ t.vaddr = q.vaddr in
    let long : e.memsz ≡ t.memsz = q.memsz in
    inr (omega arith)

pub linked_apart : (ss : List Segment) (es : List MapEntry) → AllZip IsPlacedBy ss es → AllPairs SegmentsApart ss → AllPairs LinkedApart es
linked_apart ss es same apart = λ i j d lt l.
    let p = slice_get-get_or es i d (omega arith) in
    let q = slice_get-get_or es j d l in
    let first = zip_right IsPlacedBy ss es i (get_or es i d) same p in
    let later = zip_right IsPlacedBy ss es j (get_or es j d) same q in
    linked_one first.0 later.0 (get_or es i d) (get_or es j d) (zip_at IsPlacedBy ss es i first.0 (get_or es i d) same first.1 p) (zip_at IsPlacedBy ss es j later.0 (get_or es j d) same later.1 q)
    (pairs_at SegmentsApart ss i j first.0 later.0 apart lt first.1 later.1)

-- ---- the segment of a range

pub record LiesIn (ss : List Segment) (es : List MapEntry) (v len : ℕ) : Type 0 where
  pub k : ℕ
  pub s : Segment
  pub e : MapEntry
  pub segment : slice_get ss k ≡ Some s
  pub entry : slice_get es k ≡ Some e
  pub same : IsPlacedBy s e
  pub writable : has_flag s.flags PF_W ≡ true
  pub from : s.vaddr ≤ v
  pub to : v + len ≤ s.vaddr + s.memsz

spans_means : (s : Segment) (v n : ℕ) → spans s v n ≡ true → (s.vaddr ≤ v) × (v + n ≤ s.vaddr + s.memsz)
spans_means s v n h = grind (arith, nat_tests)

lies_in_more : (s : Segment) (e : MapEntry) (ss : List Segment) (es : List MapEntry) (v len : ℕ) → LiesIn ss es v len → LiesIn (s ∷ ss) (e ∷ es) v len
lies_in_more s e ss es v len h = record {
  k = suc h.k;
  s = h.s;
  e = h.e;
  segment = h.segment;
  entry = h.entry;
  same = h.same;
  writable = h.writable;
  from = h.from;
  to = h.to;
}

lies_here : (s : Segment) (e : MapEntry) (ss : List Segment) (es : List MapEntry) (v len : ℕ) → IsPlacedBy s e → (has_flag s.flags PF_W && spans s v len) ≡ true → LiesIn (s ∷ ss) (e ∷ es) v len
lies_here s e ss es v len same h =
    let parts = both (has_flag s.flags PF_W) (spans s v len) h in
    let range = spans_means s v len parts.1 in
    record {
      k = zero;
      s = s;
      e = e;
      segment = refl;
      entry = refl;
      same = same;
      writable = parts.0;
      from = range.0;
      to = range.1;
    }

lies_in_or : (s : Segment) (e : MapEntry) (ss : List Segment) (es : List MapEntry) (v len : ℕ) (b : Bool) → (has_flag s.flags PF_W && spans s v len) ≡ b → (b || is_writable_in ss v len) ≡ true
    → IsPlacedBy s e → (is_writable_in ss v len ≡ true → LiesIn ss es v len) → LiesIn (s ∷ ss) (e ∷ es) v len
lies_in_or s e ss es v len true here h same more = lies_here s e ss es v len same here
lies_in_or s e ss es v len false here h same more = lies_in_more s e ss es v len (more h)

pub lies_in : (ss : List Segment) (es : List MapEntry) (v len : ℕ) → AllZip IsPlacedBy ss es → is_writable_in ss v len ≡ true → LiesIn ss es v len
lies_in [] es v len same h = cc
lies_in (s ∷ ss) [] v len same h = absurd same
lies_in (s ∷ ss) (e ∷ es) v len same h = lies_in_or s e ss es v len (has_flag s.flags PF_W && spans s v len) refl h same.0 (λ rest. lies_in ss es v len same.1 rest)

-- ---- the one segment that holds a link address

not_held : (s t : Segment) (v : ℕ) → SegmentsApart s t → is_held_in s v ≡ true → is_held_in t v ≡ false
not_held s t v apart h = grind (arith, nat_tests)

not_held_before : (s t : Segment) (v : ℕ) → SegmentsApart s t → is_held_in t v ≡ true → is_held_in s v ≡ false
not_held_before s t v apart h = grind (arith, nat_tests)

and_false : (a b : Bool) → b ≡ false → (a && b) ≡ false
and_false true b h = h
and_false false b h = refl

none_held : (s : Segment) (ss : List Segment) (v : ℕ) → All (SegmentsApart s) ss → is_held_in s v ≡ true → All (λ (t : Segment). (has_flag t.flags PF_X && is_held_in t v) ≡ false) ss
none_held s ss v apart h =
    All-weaker (SegmentsApart s) (λ (t : Segment). (has_flag t.flags PF_X && is_held_in t v) ≡ false) (λ t p. and_false (has_flag t.flags PF_X) (is_held_in t v) (not_held s t v p h)) ss apart

pub executable_by : (ss : List Segment) (k v : ℕ) (s : Segment) → AllPairs SegmentsApart ss → slice_get ss k ≡ Some s → is_held_in s v ≡ true → is_executable_in ss v ≡ has_flag s.flags PF_X
executable_by [] k v s apart p h = cc
executable_by (t ∷ ss) zero v s apart p h =
    let same : t ≡ s = cc in
    let here : is_held_in t v ≡ true = ap (λ (x : Segment). is_held_in x v) same ∙ h in
    let rest : is_executable_in ss v ≡ false = list_any_none (λ (x : Segment). has_flag x.flags PF_X && is_held_in x v) ss (none_held t ss v (pairs_head SegmentsApart t ss apart) here) in
    or_false (has_flag t.flags PF_X && is_held_in t v) (is_executable_in ss v) rest ∙ and_true (has_flag t.flags PF_X) (is_held_in t v) here ∙ ap (λ (x : Segment). has_flag x.flags PF_X) same
executable_by (t ∷ ss) (suc k) v s apart p h =
    let not_here : is_held_in t v ≡ false = not_held_before t s v (all_at (SegmentsApart t) ss k s (pairs_head SegmentsApart t ss apart) p) h in
    ap (λ b. b || is_executable_in ss v) (and_false (has_flag t.flags PF_X) (is_held_in t v) not_here) ∙ executable_by ss k v s (pairs_tail SegmentsApart t ss apart) p h

-- ---- what is placed

module _ (ss : List Segment) (es : List MapEntry) (same : AllZip IsPlacedBy ss es) (apart : AllPairs SegmentsApart ss) (v len : ℕ) (some : 0 < len) (lies : LiesIn ss es v len) where
  held : is_held_by v lies.e ≡ true
  held =
      let at : lies.e.vaddr ≡ lies.s.vaddr = lies.same.vaddr in
      let long : lies.e.memsz ≡ lies.s.memsz = lies.same.memsz in
      let from : lies.s.vaddr ≤ v = lies.from in
      let to : v + len ≤ lies.s.vaddr + lies.s.memsz = lies.to in
      is_inside lies.e.vaddr lies.e.memsz v (omega arith) (omega arith)

  held_in : is_held_in lies.s v ≡ true
  held_in =
      let from : lies.s.vaddr ≤ v = lies.from in
      let to : v + len ≤ lies.s.vaddr + lies.s.memsz = lies.to in
      is_inside lies.s.vaddr lies.s.memsz v from (omega arith)

  pub placed_there : placed es v ≡ placed_by v lies.e
  placed_there = ap (λ o. unwrap_or o 0) (whole es lies.k v lies.e (linked_apart ss es same apart) lies.entry held)

  -- the range lies in the entry as it does in the segment
  pub inside : (lies.e.addr ≤ placed es v) × (placed es v + len ≤ lies.e.addr + lies.e.memsz)
  inside =
      let at : lies.e.vaddr ≡ lies.s.vaddr = lies.same.vaddr in
      let long : lies.e.memsz ≡ lies.s.memsz = lies.same.memsz in
      let from : lies.s.vaddr ≤ v = lies.from in
      let to : v + len ≤ lies.s.vaddr + lies.s.memsz = lies.to in
      let there : placed es v ≡ v - lies.e.vaddr + lies.e.addr = placed_there in
      (omega arith, omega arith)

  kind : kind_of_segment lies.s ≡ cond (is_executable_in ss v) Code Data
  kind =
      ap (λ b. cond (has_flag lies.s.flags PF_X) Code (cond b Data Fixed)) lies.writable
      ∙ ap (λ b. cond b Code Data) (sym (executable_by ss lies.k v lies.s apart lies.segment held_in))

  pub watchable_there : (n : ℕ) (old m : GuestMemory) → n ≡ length es → AreMapped ss es n old m → All (λ (e : MapEntry). e.addr + e.memsz ≤ length m.bytes) es → IsWatchable ss es m v len
  watchable_there n old m count mapped room =
      let within : lies.k < length es = slice_get_within es lies.k lies.e lies.entry in
      let range : (lies.e.addr ≤ placed es v) × (placed es v + len ≤ lies.e.addr + lies.e.memsz) = inside in
      let below : lies.e.addr + lies.e.memsz ≤ length m.bytes = all_at (λ (e : MapEntry). e.addr + e.memsz ≤ length m.bytes) es lies.k lies.e room lies.entry in
      record {
        inside = omega arith;
        kinds = λ a l l'.
            mapped.kinds lies.k a lies.s lies.e (omega arith) lies.segment lies.entry (is_inside lies.e.addr lies.e.memsz a (omega arith) (omega arith))
            ∙ ap (λ x. Some x) kind;
      }

-- a range that loading fills may be watched
pub watchable : (ss : List Segment) (es : List MapEntry) (n v len : ℕ) (old m : GuestMemory) → AllZip IsPlacedBy ss es → AllPairs SegmentsApart ss → 0 < len → is_writable_in ss v len ≡ true
    → n ≡ length es → AreMapped ss es n old m → All (λ (e : MapEntry). e.addr + e.memsz ≤ length m.bytes) es → IsWatchable ss es m v len
watchable ss es n v len old m same apart some writable count mapped room = watchable_there ss es same apart v len some (lies_in ss es v len same writable) n old m count mapped room

-- one map and the same marks are as good
pub AreMapped-same : (ss : List Segment) (es : List MapEntry) (n : ℕ) (old m m' : GuestMemory) → AreMapped ss es n old m → SameMap m m' → AreMapped ss es n old m'
AreMapped-same ss es n old m m' mapped same =
    let kinds : (a : ℕ) → kind_at m' a ≡ kind_at m a = λ a. ap (λ (xs : List (Option MemKind)). get_or xs a None) same.kinds in
    let marks : (a : ℕ) → is_marked m' a ≡ is_marked m a = λ a. ap (λ (xs : List Bool). get_or xs a false) same.marks in
    record {
      kinds = λ k a s e l p q h. kinds a ∙ mapped.kinds k a s e l p q h;
      marks = λ k a e l q h. marks a ∙ mapped.marks k a e l q h;
      other_kinds = λ a out. kinds a ∙ mapped.other_kinds a out;
      other_marks = λ a out. marks a ∙ mapped.other_marks a out;
    }
