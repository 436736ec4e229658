-- A memory in which what no store may change is watched.
use Rattle.std.proofs.Common.{◌≡◌, ℕ, zero, suc, ◌+◌, ◌≤◌, Bool, true, false, cond, List, [], ◌∷◌, ◌++◌, Option, Some, None, length, get_or, refl, ap, sym, subst, ◌∙◌, arith}
use Rattle.std.specs.Prelude.{◌==◌, All, Contains, filter, map}
use Rattle.std.proofs.lemmas.Bool.{eqb-true}
use Rattle.std.proofs.lemmas.List.Elements.{All-head, All-tail, All-weaker}
use Rattle.fd_base.specs.Ranges.{is_in}
use Rattle.fd_base.proofs.Members.{nothing_in}
use Rattle.fd_base.proofs.Ranges.{inside}
use Rattle.load_map.specs.declared.entry.MapEntry.{MapEntry}
use Rattle.load_map.specs.Translation.{placed}
use Rattle.elf_model.specs.declared.constants.TheConstants.{R_ARM_FUNCDESC_VALUE}
use Rattle.elf_model.specs.declared.object.Object.{Object}
use Rattle.elf_model.specs.declared.object.Rel.{Rel}
use Rattle.elf_model.specs.declared.object.Segment.{Segment}
use Rattle.elf_model.specs.Places.{is_executable_in}
use Rattle.guest_mem.specs.declared.kind.MemKind.{MemKind}
use Rattle.guest_mem.specs.declared.kind.MemKind.TheVariants.{Code, Data}
use Rattle.guest_mem.specs.Memory.{GuestMemory, IsMemory, is_marked, is_watched_as}
use Rattle.guest_mem.specs.Ranges.{with_marks}
use Rattle.guest_mem.proofs.Ranged.{IsMemory-with_marks}
use Rattle.load_model.specs.Layout.{watched_ranges}
use Rattle.load_memory.specs.parts.WatchedRanges.{AreWatched, IsWatchable, pair_ranges}
use Rattle.load_memory.proofs.WatchedRanges.{AreWatched-append, AreWatched-one, watched_ranges-parts}

one_listed : (r q : ℕ × ℕ) → Contains (r ∷ []) q → r ≡ q
one_listed r q (zero, lt, is) = is
one_listed r q (suc k, lt, is) = absurd (omega arith)

-- these ranges are watched in this memory
pub record IsWatchedTo (ranges : List (ℕ × ℕ)) (old now : GuestMemory) : Type 0 where
  pub watched : AreWatched ranges old now
  pub whole : IsMemory now

module _ (ss : List Segment) (es : List MapEntry) where
  -- ---- one range

  -- Code is watched anyway
  code_watched : (m : GuestMemory) (v len : ℕ) → is_executable_in ss v ≡ true → IsWatchable ss es m v len → AreWatched ((placed es v, len) ∷ []) m m
  code_watched m v len code able = record {
    bytes = refl;
    kinds = refl;
    watched = λ start n a listed there.
        let same : ◌≡◌ {A = ℕ × ℕ} (placed es v, len) (start, n) = one_listed (placed es v, len) (start, n) listed in
        let range = inside (placed es v) len a (subst (λ (r : ℕ × ℕ). is_in r.0 r.1 a ≡ true) (sym same) there) in
        ap (λ (kind : Option MemKind). is_watched_as kind (is_marked m a)) (able.kinds a range.0 range.1 ∙ ap (λ b. Some (cond b Code Data)) code);
    kept = λ a was. was;
    others = λ a out. refl;
    unmarked = λ a other. refl;
  }

  range_by : (m : GuestMemory) (v len : ℕ) → IsMemory m → IsWatchable ss es m v len → (code : Bool) → is_executable_in ss v ≡ code
      → (now : GuestMemory) × IsWatchedTo ((placed es v, len) ∷ []) m now
  range_by m v len whole able true is = (m, record { watched = code_watched m v len is able; whole = whole })
  range_by m v len whole able false is =
      let now : GuestMemory = with_marks m (placed es v) len in (
        now,
        record {
          watched = AreWatched-one m now (placed es v) len able.inside whole (λ a l l'. able.kinds a l l' ∙ ap (λ b. Some (cond b Code Data)) is) refl;
          whole = IsMemory-with_marks m (placed es v) len whole;
        },
      )

  range_watched : (m : GuestMemory) (v len : ℕ) → IsMemory m → IsWatchable ss es m v len → (now : GuestMemory) × IsWatchedTo ((placed es v, len) ∷ []) m now
  range_watched m v len whole able = range_by m v len whole able (is_executable_in ss v) refl

  -- ---- the descriptors that relocations fill

  still_watchable : (m n : GuestMemory) (v len : ℕ) → n.bytes ≡ m.bytes → n.kinds ≡ m.kinds → IsWatchable ss es m v len → IsWatchable ss es n v len
  still_watchable m n v len bytes kinds able = record {
    inside = subst (λ xs. placed es v + len ≤ length xs) (sym bytes) able.inside;
    kinds = λ a l l'. ap (λ (xs : List (Option MemKind)). get_or xs a None) kinds ∙ able.kinds a l l';
  }

  -- a relocation's descriptor, if it fills one, may be watched
  abbrev Watchable : GuestMemory → Rel → Type 0
  Watchable m r = r.kind ≡ R_ARM_FUNCDESC_VALUE → IsWatchable ss es m r.site 8

  all_still : (m n : GuestMemory) (rels : List Rel) → n.bytes ≡ m.bytes → n.kinds ≡ m.kinds → All (Watchable m) rels → All (Watchable n) rels
  all_still m n rels bytes kinds able =
      All-weaker (Watchable m) (Watchable n) (λ r may kind. still_watchable m n r.site 8 bytes kinds (may kind)) rels able

  none_watched : (m : GuestMemory) → AreWatched [] m m
  none_watched m = record {
    bytes = refl;
    kinds = refl;
    watched = λ start len a listed there. absurd (nothing_in (start, len) listed);
    kept = λ a was. was;
    others = λ a out. refl;
    unmarked = λ a other. refl;
  }

  both_watched : (xs ys : List (ℕ × ℕ)) (m n : GuestMemory) → IsWatchedTo xs m n → ((now : GuestMemory) × IsWatchedTo ys n now) → (now : GuestMemory) × IsWatchedTo (xs ++ ys) m now
  both_watched xs ys m n first second =
      (second.0, record { watched = AreWatched-append xs ys m n second.0 first.watched second.1.watched; whole = second.1.whole })

  pairs_watched : (rels : List Rel) (m : GuestMemory) → IsMemory m → All (Watchable m) rels → (now : GuestMemory) × IsWatchedTo (pair_ranges es rels) m now
  pairs_watched [] m whole able = (m, record { watched = none_watched m; whole = whole })
  pairs_watched (r ∷ rels) m whole able =
      by (r.kind == R_ARM_FUNCDESC_VALUE) refl
      (λ n whole' bytes kinds. pairs_watched rels n whole' (all_still m n rels bytes kinds (All-tail (Watchable m) r rels able)))
    where
      by : (b : Bool) → (r.kind == R_ARM_FUNCDESC_VALUE) ≡ b
          → ((n : GuestMemory) → IsMemory n → n.bytes ≡ m.bytes → n.kinds ≡ m.kinds → (now : GuestMemory) × IsWatchedTo (pair_ranges es rels) n now)
          → (now : GuestMemory) × IsWatchedTo (map (λ (x : Rel). (placed es x.site, 8))
          (cond b (r ∷ filter (λ (x : Rel). x.kind == R_ARM_FUNCDESC_VALUE) rels) (filter (λ (x : Rel). x.kind == R_ARM_FUNCDESC_VALUE) rels))) m now
      by true is rest =
          let first = range_watched m r.site 8 whole (All-head (Watchable m) r rels able (eqb-true r.kind R_ARM_FUNCDESC_VALUE is)) in
          both_watched ((placed es r.site, 8) ∷ []) (pair_ranges es rels) m first.0 first.1 (rest first.0 first.1.whole first.1.watched.bytes first.1.watched.kinds)
      by false is rest = rest m whole refl refl

-- ---- all ranges of a module

pub ranges_watched : (o : Object) (es : List MapEntry) (m : GuestMemory) → IsMemory m → IsWatchable o.segments es m o.got 12
    → All (λ (r : Rel). r.kind ≡ R_ARM_FUNCDESC_VALUE → IsWatchable o.segments es m r.site 8) o.rels
    → All (λ (r : Rel). r.kind ≡ R_ARM_FUNCDESC_VALUE → IsWatchable o.segments es m r.site 8) o.jmprels
    → (now : GuestMemory) × IsWatchedTo (watched_ranges es o) m now
ranges_watched o es m whole got rels slots =
    let ss : List Segment = o.segments in
    let header = range_watched ss es m o.got 12 whole got in
    let a : GuestMemory = header.0 in
    let pairs = pairs_watched ss es o.rels a header.1.whole (all_still ss es m a o.rels header.1.watched.bytes header.1.watched.kinds rels) in
    let b : GuestMemory = pairs.0 in
    let last = pairs_watched ss es o.jmprels b pairs.1.whole
    (all_still ss es m b o.jmprels (pairs.1.watched.bytes ∙ header.1.watched.bytes) (pairs.1.watched.kinds ∙ header.1.watched.kinds) slots) in
    let ends = both_watched ss es (pair_ranges es o.rels) (pair_ranges es o.jmprels) a b pairs.1 last in
    let all = both_watched ss es ((placed es o.got, 12) ∷ []) (pair_ranges es o.rels ++ pair_ranges es o.jmprels) m a header.1 ends in
    (all.0, subst (λ ranges. IsWatchedTo ranges m all.0) (sym (watched_ranges-parts es o)) all.1)
