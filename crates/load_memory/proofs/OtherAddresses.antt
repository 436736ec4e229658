-- Addresses outside the segments of a module that is placed: nothing there is mapped or watched anew.
use Rattle.std.proofs.Common.{◌≡◌, ℕ, ◌+◌, ◌<◌, ◌≤◌, Bool, true, false, cond, List, [], ◌∷◌, ◌++◌, Option, None, length, get_or, ap, subst, ◌∙◌, sym, refl, arith}
use Rattle.std.specs.Prelude.{◌==◌, All, filter, map}
use Rattle.std.specs.List.{AllZip}
use Rattle.std.proofs.lemmas.Bool.Decides.{nat_tests}
use Rattle.std.proofs.lemmas.List.Elements.{All-append, All-cons, All-contains, All-head, All-nil, All-tail}
use Rattle.fd_base.proofs.Ranges.{outside_part}
use Rattle.load_map.specs.declared.entry.MapEntry.{MapEntry}
use Rattle.elf_model.specs.declared.constants.TheConstants.{R_ARM_FUNCDESC_VALUE}
use Rattle.elf_model.specs.declared.object.Object.{Object}
use Rattle.elf_model.specs.declared.object.Rel.{Rel}
use Rattle.elf_model.specs.Places.{is_writable_in, site_of_rel}
use Rattle.elf_model.specs.Relocations.{site_size}
use Rattle.elf_model.specs.Sound.{IsSound, IsInPlace}
use Rattle.guest_mem.specs.declared.kind.MemKind.{MemKind}
use Rattle.guest_mem.specs.Memory.{GuestMemory, kind_at, is_marked, is_watched, is_watched_as}
use Rattle.load_map.specs.Translation.{placed}
use Rattle.load_model.specs.Layout.{watched_ranges}
use Rattle.fd_base.specs.Ranges.{is_in}
use Rattle.load_memory.specs.parts.PlacingSteps.{AreMapped, IsOutside, IsPlacedBy}
use Rattle.load_memory.specs.parts.WatchedRanges.{AreWatched, pair_ranges}
use Rattle.fd_base.proofs.Lists.{all_at}
use Rattle.load_memory.proofs.WatchedRanges.{watched_ranges-parts}
use Rattle.load_memory.proofs.PlacingSteps.{got_in_place, rels_in_place, slots_in_place}
use Rattle.load_memory.proofs.Watchable.{LiesIn, lies_in, inside}

is_kind : (m n : ℕ) → (m == n) ≡ true → m ≡ n
is_kind m n h = grind (arith, nat_tests)

module _ (o : Object) (es : List MapEntry) (sound : IsSound o) (same : AllZip IsPlacedBy o.segments es) (a : ℕ) (out : All (λ (e : MapEntry). is_in e.addr e.memsz a ≡ false) es) where
  outside_all : IsOutside es (length es) a
  outside_all = λ k e l p. all_at (λ (x : MapEntry). is_in x.addr x.memsz a ≡ false) es k e out p

  -- what loading fills lies in segments
  filled_outside : (v len : ℕ) → 0 < len → is_writable_in o.segments v len ≡ true → is_in (placed es v) len a ≡ false
  filled_outside v len some writable =
      let lies : LiesIn o.segments es v len = lies_in o.segments es v len same writable in
      let range : (lies.e.addr ≤ placed es v) × (placed es v + len ≤ lies.e.addr + lies.e.memsz) = inside o.segments es same sound.apart v len some lies in
      outside_part lies.e.addr lies.e.memsz (placed es v) len a range.0 range.1 (all_at (λ (x : MapEntry). is_in x.addr x.memsz a ≡ false) es lies.k lies.e out lies.entry)

  pair_off : (r : Rel) → IsInPlace o.segments (site_of_rel r) → r.kind ≡ R_ARM_FUNCDESC_VALUE → is_in (placed es r.site) 8 a ≡ false
  pair_off r p kind = filled_outside r.site 8 (omega arith) (subst (λ n. is_writable_in o.segments r.site n ≡ true) (ap site_size kind) p.writable)

  pairs_off : (rels : List Rel) → All (λ (r : Rel). IsInPlace o.segments (site_of_rel r)) rels → All (λ (r : ℕ × ℕ). is_in r.0 r.1 a ≡ false) (pair_ranges es rels)
  pairs_off [] places = All-nil (λ (r : ℕ × ℕ). is_in r.0 r.1 a ≡ false)
  pairs_off (r ∷ rels) places =
      first (r.kind == R_ARM_FUNCDESC_VALUE) refl (All-head (λ (x : Rel). IsInPlace o.segments (site_of_rel x)) r rels places) (pairs_off rels (All-tail (λ (x : Rel). IsInPlace o.segments (site_of_rel x)) r rels places))
    where
      first : (b : Bool) → (r.kind == R_ARM_FUNCDESC_VALUE) ≡ b → IsInPlace o.segments (site_of_rel r) → All (λ (x : ℕ × ℕ). is_in x.0 x.1 a ≡ false) (pair_ranges es rels)
          → All (λ (x : ℕ × ℕ). is_in x.0 x.1 a ≡ false)
          (map (λ (x : Rel). (placed es x.site, 8)) (cond b (r ∷ filter (λ (x : Rel). x.kind == R_ARM_FUNCDESC_VALUE) rels) (filter (λ (x : Rel). x.kind == R_ARM_FUNCDESC_VALUE) rels)))
      first true h place rest = All-cons (λ (x : ℕ × ℕ). is_in x.0 x.1 a ≡ false) (placed es r.site, 8) (pair_ranges es rels) (pair_off r place (is_kind r.kind R_ARM_FUNCDESC_VALUE h)) rest
      first false h place rest = rest

  ranges_off : All (λ (r : ℕ × ℕ). is_in r.0 r.1 a ≡ false) (watched_ranges es o)
  ranges_off =
      subst (All (λ (r : ℕ × ℕ). is_in r.0 r.1 a ≡ false)) (sym (watched_ranges-parts es o))
      (All-cons (λ (r : ℕ × ℕ). is_in r.0 r.1 a ≡ false) (placed es o.got, 12) (pair_ranges es o.rels ++ pair_ranges es o.jmprels) (filled_outside o.got 12 (omega arith) (got_in_place o sound).writable)
      (All-append (λ (r : ℕ × ℕ). is_in r.0 r.1 a ≡ false) (pair_ranges es o.rels) (pair_ranges es o.jmprels) (pairs_off o.rels (rels_in_place o sound)) (pairs_off o.jmprels (slots_in_place o sound))))

  module _ (old mid now : GuestMemory) (mapped : AreMapped o.segments es (length es) old mid) (watched : AreWatched (watched_ranges es o) mid now) where
    pub kind_outside : kind_at now a ≡ kind_at old a
    kind_outside = ap (λ (xs : List (Option MemKind)). get_or xs a None) watched.kinds ∙ mapped.other_kinds a outside_all

    pub watch_outside : is_watched now a ≡ is_watched old a
    watch_outside =
        watched.others a (λ start len listed. All-contains (λ (r : ℕ × ℕ). is_in r.0 r.1 a ≡ false) (watched_ranges es o) (start, len) ranges_off listed)
        ∙ ap (λ (k : Option MemKind). is_watched_as k (is_marked mid a)) (mapped.other_kinds a outside_all) ∙ ap (is_watched_as (kind_at old a)) (mapped.other_marks a outside_all)
