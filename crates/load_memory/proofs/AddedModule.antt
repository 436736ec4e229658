-- One module more, where its segments lie in free memory.
use Rattle.std.proofs.Common.{◌≡◌, ◌≢◌, ◌⊎◌, inl, inr, ℕ, zero, suc, ◌<◌, Bool, true, false, cond, List, [], ◌∷◌, Option, Some, None, length, get_or, refl, ap, sym, subst, ◌∙◌, arith}
use Rattle.std.specs.Prelude.{◌==◌, All, slice_get, Contains}
use Rattle.std.specs.List.{AllZip}
use Rattle.std.proofs.lemmas.Bool.Decides.{nat_tests}
use Rattle.std.proofs.lemmas.Option.{slice_get_within}
use Rattle.load_map.specs.declared.entry.MapEntry.{MapEntry}
use Rattle.elf_model.specs.declared.object.Object.{Object}
use Rattle.elf_model.specs.declared.object.Segment.{Segment}
use Rattle.guest_mem.specs.declared.kind.MemKind.{MemKind}
use Rattle.guest_mem.specs.declared.kind.MemKind.TheVariants.{Data}
use Rattle.guest_mem.specs.Memory.{GuestMemory, IsMemory, HaveKind, kind_at, is_marked, is_watched, is_watched_as}
use Rattle.load_model.specs.declared.plan.MemPlan.{MemPlan}
use Rattle.load_model.specs.Layout.{IsLaidOut, InMemory, LiesAt, WatchesAt, fixed_kind, kind_of_segment, watched_ranges}
use Rattle.fd_base.specs.Ranges.{is_in}
use Rattle.load_memory.specs.parts.Modules.{with_module}
use Rattle.load_memory.specs.parts.PlacingSteps.{AreMapped, IsOutside, IsPlacedBy}
use Rattle.load_memory.specs.parts.WatchedRanges.{AreWatched}
use Rattle.fd_base.proofs.Lists.{all_at}
use Rattle.fd_base.proofs.Ranges.{inside, is_inside}
use Rattle.load_memory.proofs.PairedLists.{zip_right}

other_number : (m n : ℕ) → m ≢ n → (m == n) ≡ false
other_number m n h = grind (arith, nat_tests)

number_itself : (n : ℕ) → (n == n) ≡ true
number_itself n = grind (arith, nat_tests)

-- an address lies in an entry, or in none
in_one_or_none : (es : List MapEntry) (a : ℕ) → ((k : ℕ) × (e : MapEntry) × (slice_get es k ≡ Some e) × (is_in e.addr e.memsz a ≡ true)) ⊎ ((k : ℕ) (e : MapEntry) → slice_get es k ≡ Some e → is_in e.addr e.memsz a ≡ false)
in_one_or_none [] a = inr (λ k e p. cc)
in_one_or_none (d ∷ es) a = next (is_in d.addr d.memsz a) refl (in_one_or_none es a)
  where
    not_here : is_in d.addr d.memsz a ≡ false → ((k : ℕ) (e : MapEntry) → slice_get es k ≡ Some e → is_in e.addr e.memsz a ≡ false) → (k : ℕ) (e : MapEntry) → slice_get (d ∷ es) k ≡ Some e → is_in e.addr e.memsz a ≡ false
    not_here h none zero e p = let same : d ≡ e = cc in subst (λ (x : MapEntry). is_in x.addr x.memsz a ≡ false) same h
    not_here h none (suc k) e p = none k e p

    next : (b : Bool) → is_in d.addr d.memsz a ≡ b → ((k : ℕ) × (e : MapEntry) × (slice_get es k ≡ Some e) × (is_in e.addr e.memsz a ≡ true)) ⊎ ((k : ℕ) (e : MapEntry) → slice_get es k ≡ Some e → is_in e.addr e.memsz a ≡ false)
        → ((k : ℕ) × (e : MapEntry) × (slice_get (d ∷ es) k ≡ Some e) × (is_in e.addr e.memsz a ≡ true)) ⊎ ((k : ℕ) (e : MapEntry) → slice_get (d ∷ es) k ≡ Some e → is_in e.addr e.memsz a ≡ false)
    next true h rest = inl (zero, d, refl, h)
    next false h (inl one) = inl (suc one.0, one.1, one.2, one.3)
    next false h (inr none) = inr (not_here h none)

-- what is watched is mapped
watched_is_mapped : (kind : Option MemKind) (mark : Bool) → is_watched_as kind mark ≡ true → (k : MemKind) × (kind ≡ Some k)
watched_is_mapped None mark h = cc
watched_is_mapped (Some k) mark h = (k, refl)

-- ---- what lies in memory with the module

module _ (mods : InMemory) (number : ℕ) (o : Object) (es : List MapEntry) (new : mods.objects number ≡ None) where
  other : (m : ℕ) (x : Object) → mods.objects m ≡ Some x → (m == number) ≡ false
  other m x live = other_number m number (λ e. let same : mods.objects m ≡ mods.objects number = ap mods.objects e in cc)

  -- what lay there does so still
  lies_still : (m : ℕ) (s : Segment) (e : MapEntry) → LiesAt mods m s e → LiesAt (with_module mods number o es) m s e
  lies_still m s e lies =
      let not_new : (m == number) ≡ false = other m lies.object' lies.live in
      record {
        object' = lies.object';
        live = ap (λ b. cond b (Some o) (mods.objects m)) not_new ∙ lies.live;
        k = lies.k;
        segment = lies.segment;
        entry = ap (λ b. slice_get (cond b es (mods.maps m)) lies.k) not_new ∙ lies.entry;
      }

  watches_still : (m start len : ℕ) → WatchesAt mods m start len → WatchesAt (with_module mods number o es) m start len
  watches_still m start len watches =
      let not_new : (m == number) ≡ false = other m watches.object' watches.live in
      record {
        object' = watches.object';
        live = ap (λ b. cond b (Some o) (mods.objects m)) not_new ∙ watches.live;
        listed = subst (λ b. Contains (watched_ranges (cond b es (mods.maps m)) watches.object') (start, len)) (sym not_new) watches.listed;
      }

  -- the module's own segments and ranges
  lies_new : (k : ℕ) (s : Segment) (e : MapEntry) → slice_get o.segments k ≡ Some s → slice_get es k ≡ Some e → LiesAt (with_module mods number o es) number s e
  lies_new k s e p q = record {
    object' = o;
    live = ap (λ b. cond b (Some o) (mods.objects number)) (number_itself number);
    k = k;
    segment = p;
    entry = ap (λ b. slice_get (cond b es (mods.maps number)) k) (number_itself number) ∙ q;
  }

  watches_new : (start len : ℕ) → Contains (watched_ranges es o) (start, len) → WatchesAt (with_module mods number o es) number start len
  watches_new start len listed = record {
    object' = o;
    live = ap (λ b. cond b (Some o) (mods.objects number)) (number_itself number);
    listed = subst (λ b. Contains (watched_ranges (cond b es (mods.maps number)) o) (start, len)) (sym (number_itself number)) listed;
  }

  -- and nothing else
  lies_either : (m k : ℕ) (s : Segment) (e : MapEntry) (x : Object) (b : Bool) → cond b (Some o) (mods.objects m) ≡ Some x → slice_get x.segments k ≡ Some s → slice_get (cond b es (mods.maps m)) k ≡ Some e
      → LiesAt mods m s e ⊎ ((j : ℕ) × (slice_get o.segments j ≡ Some s) × (slice_get es j ≡ Some e))
  lies_either m k s e x true live p q = let same : o ≡ x = cc in inr (k, ap (λ (y : Object). slice_get y.segments k) same ∙ p, q)
  lies_either m k s e x false live p q = inl (record { object' = x; live = live; k = k; segment = p; entry = q })

  lies_cases : (m : ℕ) (s : Segment) (e : MapEntry) → LiesAt (with_module mods number o es) m s e → LiesAt mods m s e ⊎ ((j : ℕ) × (slice_get o.segments j ≡ Some s) × (slice_get es j ≡ Some e))
  lies_cases m s e lies = lies_either m lies.k s e lies.object' (m == number) lies.live lies.segment lies.entry

  watches_either : (m start len : ℕ) (x : Object) (b : Bool) → cond b (Some o) (mods.objects m) ≡ Some x → Contains (watched_ranges (cond b es (mods.maps m)) x) (start, len)
      → WatchesAt mods m start len ⊎ Contains (watched_ranges es o) (start, len)
  watches_either m start len x true live listed = let same : o ≡ x = cc in inr (subst (λ (y : Object). Contains (watched_ranges es y) (start, len)) (sym same) listed)
  watches_either m start len x false live listed = inl (record { object' = x; live = live; listed = listed })

  watches_cases : (m start len : ℕ) → WatchesAt (with_module mods number o es) m start len → WatchesAt mods m start len ⊎ Contains (watched_ranges es o) (start, len)
  watches_cases m start len watches = watches_either m start len watches.object' (m == number) watches.live watches.listed

  -- ---- the memory: as it was, with the segments mapped, and with what is watched

  module _ (plan : MemPlan) (old mid now : GuestMemory) (n : ℕ) (count : n ≡ length es) (segments : AllZip IsPlacedBy o.segments es) (free : All (λ (e : MapEntry). HaveKind old e.addr e.memsz None) es)
      (laid_out : IsLaidOut plan mods old) (mapped : AreMapped o.segments es n old mid) (watched : AreWatched (watched_ranges es o) mid now) (size : length now.bytes ≡ length old.bytes) (whole : IsMemory now) where
    kind_now : (a : ℕ) → kind_at now a ≡ kind_at mid a
    kind_now a = ap (λ (xs : List (Option MemKind)). get_or xs a None) watched.kinds

    -- what is mapped lies in none of the new segments
    mapped_outside : (a : ℕ) (kind : MemKind) → kind_at old a ≡ Some kind → IsOutside es n a
    mapped_outside a kind h = λ k e l p. not_in k e p (is_in e.addr e.memsz a) refl
      where
        not_in : (k : ℕ) (e : MapEntry) → slice_get es k ≡ Some e → (b : Bool) → is_in e.addr e.memsz a ≡ b → b ≡ false
        not_in k e p true there =
            let range = inside e.addr e.memsz a there in
            let none : kind_at old a ≡ None = all_at (λ (x : MapEntry). HaveKind old x.addr x.memsz None) es k e free p a range.0 range.1 in
            cc
        not_in k e p false there = refl

    -- so it stays so
    kind_kept : (a : ℕ) (kind : MemKind) → kind_at old a ≡ Some kind → kind_at now a ≡ Some kind
    kind_kept a kind h = kind_now a ∙ mapped.other_kinds a (mapped_outside a kind h) ∙ h

    new_kind : (k a : ℕ) (s : Segment) (e : MapEntry) → slice_get o.segments k ≡ Some s → slice_get es k ≡ Some e → is_in e.addr e.memsz a ≡ true → kind_at now a ≡ Some (kind_of_segment s)
    new_kind k a s e p q h = let l : k < length es = slice_get_within es k e q in kind_now a ∙ mapped.kinds k a s e (omega arith) p q h

    watched_mid : (a : ℕ) → IsOutside es n a → is_watched mid a ≡ is_watched old a
    watched_mid a out =
        ap (λ (k : Option MemKind). is_watched_as k (is_marked mid a)) (mapped.other_kinds a out) ∙ ap (is_watched_as (kind_at old a)) (mapped.other_marks a out)

    segments_there : (m : ℕ) (s : Segment) (e : MapEntry) → LiesAt mods m s e ⊎ ((j : ℕ) × (slice_get o.segments j ≡ Some s) × (slice_get es j ≡ Some e)) → HaveKind now e.addr e.memsz (Some (kind_of_segment s))
    segments_there m s e (inl lies) = λ a l l'. kind_kept a (kind_of_segment s) (laid_out.segments m s e lies a l l')
    segments_there m s e (inr own) = λ a l l'. new_kind own.0 a s e own.1 own.2 (is_inside e.addr e.memsz a l l')

    rest_there : (a : ℕ) → fixed_kind plan a ≡ None → ((m : ℕ) (s : Segment) (e : MapEntry) → LiesAt (with_module mods number o es) m s e → is_in e.addr e.memsz a ≡ false) → kind_at now a ≡ None
    rest_there a none out =
        kind_now a
        ∙ mapped.other_kinds a (λ k e l p. let of = zip_right IsPlacedBy o.segments es k e segments p in out number of.0 e (lies_new k of.0 e of.1 p))
        ∙ laid_out.rest a none (λ m s e lies. out m s e (lies_still m s e lies))

    watched_there : (m start len a : ℕ) → WatchesAt mods m start len ⊎ Contains (watched_ranges es o) (start, len) → is_in start len a ≡ true → is_watched now a ≡ true
    watched_there m start len a (inl watches) h =
        let was : is_watched old a ≡ true = laid_out.watched m start len a watches h in
        let kind = watched_is_mapped (kind_at old a) (is_marked old a) was in
        watched.kept a (watched_mid a (mapped_outside a kind.0 kind.1) ∙ was)
    watched_there m start len a (inr listed) h = watched.watched start len a listed h

    unwatched_mid : (a : ℕ) → kind_at mid a ≡ Some Data → ((m start len : ℕ) → WatchesAt mods m start len → is_in start len a ≡ false)
        → ((k : ℕ) × (e : MapEntry) × (slice_get es k ≡ Some e) × (is_in e.addr e.memsz a ≡ true)) ⊎ ((k : ℕ) (e : MapEntry) → slice_get es k ≡ Some e → is_in e.addr e.memsz a ≡ false) → is_watched mid a ≡ false
    unwatched_mid a data' out (inl there) =
        let l : there.0 < length es = slice_get_within es there.0 there.1 there.2 in
        ap (λ (k : Option MemKind). is_watched_as k (is_marked mid a)) data' ∙ mapped.marks there.0 a there.1 (omega arith) there.2 there.3
    unwatched_mid a data' out (inr none) =
        let outside : IsOutside es n a = λ k e l p. none k e p in
        watched_mid a outside ∙ laid_out.unwatched a (sym (mapped.other_kinds a outside) ∙ data') out

    unwatched_there : (a : ℕ) → kind_at now a ≡ Some Data → ((m start len : ℕ) → WatchesAt (with_module mods number o es) m start len → is_in start len a ≡ false) → is_watched now a ≡ false
    unwatched_there a data' out =
        watched.others a (λ start len listed. out number start len (watches_new start len listed))
        ∙ unwatched_mid a (sym (kind_now a) ∙ data') (λ m start len watches. out m start len (watches_still m start len watches)) (in_one_or_none es a)

    unmarked_mid : (a : ℕ) → kind_at mid a ≢ Some Data
        → ((k : ℕ) × (e : MapEntry) × (slice_get es k ≡ Some e) × (is_in e.addr e.memsz a ≡ true)) ⊎ ((k : ℕ) (e : MapEntry) → slice_get es k ≡ Some e → is_in e.addr e.memsz a ≡ false) → is_marked mid a ≡ false
    unmarked_mid a other (inl there) = let l : there.0 < length es = slice_get_within es there.0 there.1 there.2 in mapped.marks there.0 a there.1 (omega arith) there.2 there.3
    unmarked_mid a other (inr none) =
        let outside : IsOutside es n a = λ k e l p. none k e p in
        mapped.other_marks a outside ∙ laid_out.unmarked a (λ data'. other (mapped.other_kinds a outside ∙ data'))

    unmarked_there : (a : ℕ) → kind_at now a ≢ Some Data → is_marked now a ≡ false
    unmarked_there a other =
        let before : kind_at mid a ≢ Some Data = λ data'. other (kind_now a ∙ data') in
        watched.unmarked a before ∙ unmarked_mid a before (in_one_or_none es a)

    pub laid_out_more : IsLaidOut plan (with_module mods number o es) now
    laid_out_more = record {
      whole = whole;
      size = size ∙ laid_out.size;
      fixed = λ a kind h. kind_kept a kind (laid_out.fixed a kind h);
      segments = λ m s e lies. segments_there m s e (lies_cases m s e lies);
      rest = rest_there;
      watched = λ m start len a watches h. watched_there m start len a (watches_cases m start len watches) h;
      unwatched = unwatched_there;
      unmarked = unmarked_there;
    }
