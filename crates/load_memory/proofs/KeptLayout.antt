-- The layout of memory through what changes it, and where modules may lie.
use Rattle.std.proofs.Common.{◌≡◌, ◌≢◌, inl, inr, ℕ, ◌+◌, ◌-◌, ◌<◌, ◌≤◌, Bool, true, false, cond, List, [], ◌∷◌, Option, Some, None, length, get_or, ap, sym, subst, ◌∙◌, arith}
use Rattle.std.specs.Prelude.{All, slice_get, Contains}
use Rattle.std.proofs.lemmas.List.Elements.{All-weaker}
use Rattle.load_map.specs.declared.entry.MapEntry.{MapEntry}
use Rattle.elf_model.specs.declared.object.Segment.{Segment}
use Rattle.guest_mem.specs.declared.kind.MemKind.{MemKind}
use Rattle.guest_mem.specs.declared.kind.MemKind.TheVariants.{Code, Data, Fixed}
use Rattle.guest_mem.specs.Memory.{GuestMemory, HaveKind, byte_at, kind_at, is_watched}
use Rattle.guest_mem.specs.Accesses.{with_bytes}
use Rattle.guest_mem.specs.parts.Kept.{Keeps, SameMap}
use Rattle.guest_mem.proofs.Keeping.{is_watched-same}
use Rattle.load_map.specs.Whole.{PlacedApart}
use Rattle.load_model.specs.declared.layout.TheConstants.{RESOLVER, STUBS_END, LOAD_MAPS}
use Rattle.load_model.specs.declared.plan.MemPlan.{MemPlan}
use Rattle.symbol_scope.specs.declared.tables.TheConstants.{MAX_MODULES}
use Rattle.load_model.specs.Image.{load_map_at}
use Rattle.load_model.specs.Layout.{InMemory, IsLaidOut, LiesAt, WatchesAt, bytes_of_words, fixed_kind, kind_of_segment, watched_ranges}
use Rattle.fd_base.specs.Ranges.{is_in}
use Rattle.load_model.specs.Plan.{Fits, slots_end, high_of, low_of}
use Rattle.load_model.proofs.PlanParts.{low_above}
use Rattle.load_memory.specs.parts.PlacingSteps.{LiesWithin}
use Rattle.load_memory.proofs.PutBytes.{SameMap-put}
use Rattle.fd_base.proofs.Lists.{all_from, all_at}
use Rattle.fd_base.proofs.Ranges.{inside, is_outside}

-- ---- modules that are alike

module _ (mods others : InMemory) (objects : (m : ℕ) → others.objects m ≡ mods.objects m) (maps : (m : ℕ) → others.maps m ≡ mods.maps m) where
  lies_alike : (m : ℕ) (s : Segment) (e : MapEntry) → LiesAt others m s e → LiesAt mods m s e
  lies_alike m s e h = record {
    object' = h.object';
    live = sym (objects m) ∙ h.live;
    k = h.k;
    segment = h.segment;
    entry = ap (λ (es : List MapEntry). slice_get es h.k) (sym (maps m)) ∙ h.entry;
  }

  lies_back : (m : ℕ) (s : Segment) (e : MapEntry) → LiesAt mods m s e → LiesAt others m s e
  lies_back m s e h = record {
    object' = h.object';
    live = objects m ∙ h.live;
    k = h.k;
    segment = h.segment;
    entry = ap (λ (es : List MapEntry). slice_get es h.k) (maps m) ∙ h.entry;
  }

  watches_alike : (m start len : ℕ) → WatchesAt others m start len → WatchesAt mods m start len
  watches_alike m start len h = record {
    object' = h.object';
    live = sym (objects m) ∙ h.live;
    listed = subst (λ (es : List MapEntry). Contains (watched_ranges es h.object') (start, len)) (maps m) h.listed;
  }

  watches_back : (m start len : ℕ) → WatchesAt mods m start len → WatchesAt others m start len
  watches_back m start len h = record {
    object' = h.object';
    live = objects m ∙ h.live;
    listed = subst (λ (es : List MapEntry). Contains (watched_ranges es h.object') (start, len)) (sym (maps m)) h.listed;
  }

  agree : (plan : MemPlan) (memory : GuestMemory) → IsLaidOut plan mods memory → IsLaidOut plan others memory
  agree plan memory h = record {
    whole = h.whole;
    size = h.size;
    fixed = h.fixed;
    segments = λ m s e lies. h.segments m s e (lies_alike m s e lies);
    rest = λ a none out. h.rest a none (λ m s e lies. out m s e (lies_back m s e lies));
    watched = λ m start len a watches l. h.watched m start len a (watches_alike m start len watches) l;
    unwatched = λ a data' out. h.unwatched a data' (λ m start len watches. out m start len (watches_back m start len watches));
    unmarked = h.unmarked;
  }

pub layouts_agree : (plan : MemPlan) (mods others : InMemory) (memory : GuestMemory) → ((m : ℕ) → others.objects m ≡ mods.objects m) → ((m : ℕ) → others.maps m ≡ mods.maps m) → IsLaidOut plan mods memory
    → IsLaidOut plan others memory
layouts_agree plan mods others memory objects maps h = agree mods others objects maps plan memory h

-- ---- memory that is alike

pub laid_out_alike : (plan : MemPlan) (mods : InMemory) (old new : GuestMemory) → SameMap old new → IsLaidOut plan mods old → IsLaidOut plan mods new
laid_out_alike plan mods old new same h =
    let kinds : (a : ℕ) → kind_at new a ≡ kind_at old a = λ a. ap (λ (xs : List (Option MemKind)). get_or xs a None) same.kinds in
    let watched : (a : ℕ) → is_watched new a ≡ is_watched old a = λ a. is_watched-same old new a same.kinds same.marks in
    record {
      whole = record { kinds = ap length same.kinds ∙ h.whole.kinds ∙ sym same.size; marks = ap length same.marks ∙ h.whole.marks ∙ sym same.size; size = rw same.size h.whole.size };
      size = same.size ∙ h.size;
      fixed = λ a kind f. kinds a ∙ h.fixed a kind f;
      segments = λ m s e lies a l l'. kinds a ∙ h.segments m s e lies a l l';
      rest = λ a none out. kinds a ∙ h.rest a none out;
      watched = λ m start len a watches l. watched a ∙ h.watched m start len a watches l;
      unwatched = λ a data' out. watched a ∙ h.unwatched a (sym (kinds a) ∙ data') out;
      unmarked = λ a other. ap (λ (xs : List Bool). get_or xs a false) same.marks ∙ h.unmarked a (λ data'. other (kinds a ∙ data'));
    }

pub laid_out_pair : (plan : MemPlan) (mods : InMemory) (old : GuestMemory) (addr code got : ℕ) → IsLaidOut plan mods old → IsLaidOut plan mods (with_bytes old addr (bytes_of_words (code ∷ got ∷ [])))
laid_out_pair plan mods old addr code got h =
    laid_out_alike plan mods old (with_bytes old addr (bytes_of_words (code ∷ got ∷ []))) (SameMap-put old addr (bytes_of_words (code ∷ got ∷ []))) h

-- ---- stores

not_data : (m : GuestMemory) (a : ℕ) (kind : MemKind) → kind_at m a ≡ Some kind → kind ≢ Data → kind_at m a ≢ Some Data
not_data m a kind h other = λ data'. other (cc)

pub stores_keep-layout : (plan : MemPlan) (mods : InMemory) (old new : GuestMemory) → Keeps old new → IsLaidOut plan mods old → IsLaidOut plan mods new
stores_keep-layout plan mods old new keeps h = laid_out_alike plan mods old new (record { kinds = keeps.kinds; marks = keeps.marks; size = keeps.size }) h

pub stores_keep-watched : (plan : MemPlan) (mods : InMemory) (old new : GuestMemory) (m start len a : ℕ) → Keeps old new → IsLaidOut plan mods old → WatchesAt mods m start len → is_in start len a ≡ true
    → (is_watched new a ≡ true) × (byte_at new a ≡ byte_at old a)
stores_keep-watched plan mods old new m start len a keeps h watches l =
    let was : is_watched old a ≡ true = h.watched m start len a watches l in
    (is_watched-same old new a keeps.kinds keeps.marks ∙ was, keeps.bytes a (inl was))

pub stores_keep-fixed : (plan : MemPlan) (mods : InMemory) (old new : GuestMemory) (a : ℕ) (kind : MemKind) → Keeps old new → IsLaidOut plan mods old → fixed_kind plan a ≡ Some kind → kind ≢ Data
    → byte_at new a ≡ byte_at old a
stores_keep-fixed plan mods old new a kind keeps h f other = keeps.bytes a (inr (not_data old a kind (h.fixed a kind f) other))

pub stores_keep-segments : (plan : MemPlan) (mods : InMemory) (old new : GuestMemory) (m a : ℕ) (s : Segment) (e : MapEntry) → Keeps old new → IsLaidOut plan mods old → LiesAt mods m s e
    → kind_of_segment s ≢ Data → is_in e.addr e.memsz a ≡ true → byte_at new a ≡ byte_at old a
stores_keep-segments plan mods old new m a s e keeps h lies other l =
    let there = inside e.addr e.memsz a l in
    keeps.bytes a (inr (not_data old a (kind_of_segment s) (h.segments m s e lies a there.0 there.1) other))

-- ---- room

-- nothing but modules lies where they may
fixed_kind-none : (plan : MemPlan) (a : ℕ) → low_of plan ≤ a → a < high_of plan → fixed_kind plan a ≡ None
fixed_kind-none plan a low high =
    let above : slots_end plan ≤ low_of plan = low_above plan in
    let stubs : is_in RESOLVER (STUBS_END - RESOLVER) a ≡ false = is_outside RESOLVER (STUBS_END - RESOLVER) a (inr (omega arith)) in
    let tables : is_in LOAD_MAPS (slots_end plan - LOAD_MAPS) a ≡ false = is_outside LOAD_MAPS (slots_end plan - LOAD_MAPS) a (inr (omega arith)) in
    let stacks : is_in (high_of plan) (plan.memory - high_of plan) a ≡ false = is_outside (high_of plan) (plan.memory - high_of plan) a (inl high) in
    ap (λ b. cond b (Some Code) (cond (is_in LOAD_MAPS (slots_end plan - LOAD_MAPS) a) (Some Fixed) (cond (is_in (high_of plan) (plan.memory - high_of plan) a) (Some Data) None))) stubs
    ∙ ap (λ b. cond b (Some Fixed) (cond (is_in (high_of plan) (plan.memory - high_of plan) a) (Some Data) None)) tables
    ∙ ap (λ b. cond b (Some Data) None) stacks

pub room-tables : (plan : MemPlan) (mods : InMemory) (memory : GuestMemory) → Fits plan → IsLaidOut plan mods memory → load_map_at MAX_MODULES ≤ length memory.bytes
room-tables plan mods memory fits h =
    let above : slots_end plan ≤ low_of plan = low_above plan in
    let below : low_of plan ≤ high_of plan = fits.modules in
    let some : 0 < plan.processes = fits.some_processes in
    let size : length memory.bytes ≡ plan.memory = h.size in
    omega arith

pub room-inside : (plan : MemPlan) (mods : InMemory) (memory : GuestMemory) (load_map : List MapEntry) → Fits plan → IsLaidOut plan mods memory → All (LiesWithin (low_of plan) (high_of plan)) load_map
    → All (LiesWithin (load_map_at MAX_MODULES) (length memory.bytes)) load_map
room-inside plan mods memory load_map fits h within =
    let above : slots_end plan ≤ low_of plan = low_above plan in
    let some : 0 < plan.processes = fits.some_processes in
    let size : length memory.bytes ≡ plan.memory = h.size in
    All-weaker (LiesWithin (low_of plan) (high_of plan)) (LiesWithin (load_map_at MAX_MODULES) (length memory.bytes)) (λ e p. (omega arith, omega arith)) load_map within

not_met : (d e : MapEntry) (a : ℕ) → PlacedApart d e → e.addr ≤ a → a < e.addr + e.memsz → is_in d.addr d.memsz a ≡ false
not_met d e a (inl before) l l' = is_outside d.addr d.memsz a (inr (omega arith))
not_met d e a (inr after) l l' = is_outside d.addr d.memsz a (inl (omega arith))

pub room-free : (plan : MemPlan) (mods : InMemory) (memory : GuestMemory) (load_map : List MapEntry) → Fits plan → IsLaidOut plan mods memory → All (LiesWithin (low_of plan) (high_of plan)) load_map
    → ((m : ℕ) (s : Segment) (d : MapEntry) → LiesAt mods m s d → All (PlacedApart d) load_map) → All (λ (e : MapEntry). HaveKind memory e.addr e.memsz None) load_map
room-free plan mods memory load_map fits h within apart =
    all_from (λ (e : MapEntry). HaveKind memory e.addr e.memsz None) load_map (λ k e p a l l'.
    let range : LiesWithin (low_of plan) (high_of plan) e = all_at (LiesWithin (low_of plan) (high_of plan)) load_map k e within p in
    h.rest a (fixed_kind-none plan a (omega (arith, range.0)) (omega (arith, range.1))) (λ m s d lies. not_met d e a (all_at (PlacedApart d) load_map k e (apart m s d lies) p) l l'))
