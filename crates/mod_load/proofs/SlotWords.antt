-- The words of slots: live modules hold their images, and a program can't change a slot.
use Rattle.std.proofs.Common.{◌≡◌, zero, suc, ℕ, ◌+◌, ◌-◌, ◌^◌, ◌<◌, ◌≤◌, Bool, true, cond, List, [], ◌∷◌, ◌++◌, length, map, filter, slice_get, Option, Some, None, Result, Ok, Err, refl, sym, ap, subst, ◌∙◌, arith, All}
use Rattle.std.specs.Prelude.{Contains, find, option_map, slice_index, unwrap_or, ◌==◌}
use Rattle.std.specs.FinMap.{empty}
use Rattle.std.specs.Int.{w32, to_le_bytes, from_le_bytes}
use Rattle.std.specs.List.{AllZip}
use Rattle.std.specs.Option.{option_map_or, option_or}
use Rattle.std.specs.Result.{result_err}
use Rattle.std.proofs.lemmas.Bool.Decides.{Decides-eqb}
use Rattle.std.proofs.lemmas.List.Elements.{All-contains, All-nil, All-head, All-tail, Contains-append_left, Contains-append_right}
use Rattle.std.proofs.lemmas.Nat.{from_le_bytes-to_le_bytes_4}
use Rattle.std.proofs.lemmas.Option.{slice_get-map, slice_get_past}
use Rattle.load_map.specs.declared.entry.MapEntry.{MapEntry}
use Rattle.load_map.specs.Translation.{is_end_of, is_held_by, placed_by, placed}
use Rattle.elf_model.specs.declared.constants.TheConstants.{R_ARM_FUNCDESC_VALUE}
use Rattle.elf_model.specs.declared.func.Func.{Func}
use Rattle.elf_model.specs.declared.object.Object.{Object}
use Rattle.elf_model.specs.declared.object.Rel.{Rel}
use Rattle.elf_model.specs.Places.{is_writable_in, site_of_rel}
use Rattle.elf_model.specs.Sound.{IsInPlace}
use Rattle.guest_mem.specs.Memory.{GuestMemory, byte_at, is_watched}
use Rattle.fd_base.proofs.Options.{map-map}
use Rattle.fd_base.proofs.Members.{contains_at, filter_map_in, map_in, nothing_in, contains_later}
use Rattle.load_laws.proofs.SlotFunctions.{pair_value}
use Rattle.load_places.proofs.SegmentEnds.{maps_end_lem}
use Rattle.load_places.proofs.PairedLists.{zip_gives}
use Rattle.load_image.proofs.StandingWords.{site_stands}
use Rattle.load_map.specs.parts.IsLoadMap.{EndsBelow}
use Rattle.load_image.specs.parts.Laws.{HasWord}
use Rattle.fd_base.proofs.Ranges.{is_inside, inside as within_there}
use Rattle.fd_base.proofs.Lists.{zip_at_right, all_at}
use Rattle.load_memory.proofs.PlacingSteps.{slots_in_place}
use Rattle.load_memory.proofs.Watchable.{LiesIn, inside, lies_in, placed_there}
use Rattle.load_memory.specs.parts.PlacingSteps.{IsPlacedBy}
use Rattle.load_model.specs.declared.error.LoadRefusal.{LoadRefusal}
use Rattle.load_model.specs.declared.meaning.SiteValue.TheVariants.{Pair}
use Rattle.load_model.specs.declared.module.SymbolicProcess.{SymbolicProcess}
use Rattle.load_model.specs.declared.words.LinkWord.{LinkWord}
use Rattle.load_model.specs.declared.words.SlotPair.{SlotPair}
use Rattle.load_model.specs.Definition.{Linkage}
use Rattle.load_model.specs.Image.{Placing, got_of, image_of, pair_at, place_of}
use Rattle.load_image.proofs.SlotPairWords.{pair_now}
use Rattle.load_model.specs.Unbound.{stub_of, stub_or, unbound_of, waits}
use Rattle.elf_model.specs.declared.filled.FilledSite.{FilledSite}
use Rattle.elf_model.proofs.FilledSites.{slot_listed, slots_numbered}
use Rattle.load_map.specs.Maps.{map_at}
use Rattle.load_model.specs.Layout.{watched_ranges}
use Rattle.load_model.specs.Linkage.{linkage_of}
use Rattle.load_model.specs.Process.{object_at}
use Rattle.load_model.specs.Sites.{function_at, refusals_of, site_value, written}
use Rattle.elf_model.specs.Filled.{site_relocations, slot_site, slot_sites}
use Rattle.load_model.specs.Plan.{high_of}
use Rattle.load_process.proofs.Lists.{to_filter}
use Rattle.fd_base.proofs.Finding.{find_some}
use Rattle.load_state.specs.Consistent.{IsConsistent, IsEntryOf, IsStanding}
use Rattle.load_state.specs.Loaded.{Loaded, placing_of}
use Rattle.load_map.specs.Maps.{map_at}
use Rattle.load_state.specs.Slots.{function_or_none, slot_pair_at, slot_pair_of}
use Rattle.mod_load.specs.parts.SlotWords.{HasSlots, HasWordAt, IsFilled}

-- ---- placed addresses are numbers of 32 bits

placed_small : (es : List MapEntry) (v : ℕ) → All EndsBelow es → placed es v < 2 ^ 32
placed_small es v ends = by (find (is_held_by v) es) (find (is_end_of v) es) refl refl
  where
    below : (e : MapEntry) → Contains es e → v ≤ e.vaddr + e.memsz → placed_by v e < 2 ^ 32
    below e there le = let end : e.addr + e.memsz < 2 ^ 32 = All-contains EndsBelow es e ends there in omega arith

    by : (o q : Option MapEntry) → find (is_held_by v) es ≡ o → find (is_end_of v) es ≡ q → unwrap_or (option_map (placed_by v) (option_or o q)) 0 < 2 ^ 32
    by (Some e) q h k =
        let found = find_some (is_held_by v) es e h in
        let within : (e.vaddr ≤ v) × (v < e.vaddr + e.memsz) = within_there e.vaddr e.memsz v found.1 in
        below e found.0 (omega arith)
    by None (Some e) h k =
        let found = find_some (is_end_of v) es e k in
        let end : v ≡ e.vaddr + e.memsz = (Decides-eqb v (e.vaddr + e.memsz)).0 found.1 in
        below e found.0 (omega arith)
    by None None h k = omega arith

map_ends : (maps : List (List MapEntry)) → All (All EndsBelow) maps → (m : ℕ) → All EndsBelow (map_at maps m)
map_ends [] all m = All-nil EndsBelow
map_ends (es ∷ maps) all zero = All-head (All EndsBelow) es maps all
map_ends (es ∷ maps) all (suc m) = map_ends maps (All-tail (All EndsBelow) es maps all) m

-- ---- a slot's function

function_given : (x : Result (Option Func) LoadRefusal) → result_err (written Pair x) ≡ None → x ≡ Ok (function_or_none x)
function_given (Ok f) none = refl
function_given (Err e) none = absurd cc

no_refusal : (k : Linkage) (m : ℕ) (o : Object) (r : Rel) (x : Option LoadRefusal) → refusals_of k m o ≡ [] → Contains (site_relocations o) r → result_err (site_value k m o r) ≡ x → x ≡ None
no_refusal k m o r None filled there is = refl
no_refusal k m o r (Some e) filled there is =
    absurd (nothing_in e (subst (λ (es : List LoadRefusal). Contains es e) filled (filter_map_in (λ (q : Rel). result_err (site_value k m o q)) (site_relocations o) r e there is)))

writable_at : (o : Object) (r : Rel) → r.kind ≡ R_ARM_FUNCDESC_VALUE → IsInPlace o.segments (site_of_rel r) → is_writable_in o.segments r.site 8 ≡ true
writable_at o r kind place =
    let of_kind : ℕ → Rel = λ k. record { site = r.site; kind = k; symbol = r.symbol } in
    let size : (site_of_rel r).size ≡ 8 = ap (λ k. (site_of_rel (of_kind k)).size) kind in
    subst (λ (n : ℕ). is_writable_in o.segments r.site n ≡ true) size place.writable

module _ (l : Loaded) (c : IsConsistent l) (small : length l.memory.bytes < 2 ^ 32) (m : ℕ) (o : Object) (live : object_at l.modules.process m ≡ Some o) (k : ℕ) (r : Rel) (at : slice_get o.jmprels k ≡ Some r) where
  abbrev es : List MapEntry
  es = map_at l.modules.maps m

  abbrev P : Placing
  P = placing_of l.modules.process l.modules.maps l.modules.addrs

  stands : IsStanding l.modules m o
  stands = c.modules'.standing m o live

  same : AllZip IsPlacedBy o.segments es
  same = zip_gives (IsEntryOf l.modules.plan) IsPlacedBy (λ s e is. record { vaddr = is.vaddr'; memsz = is.memsz' }) o.segments es stands.mapped

  listed : Contains (site_relocations o) r
  listed = Contains-append_left (o.rels ++ o.jmprels) _ r (Contains-append_right o.rels o.jmprels r (contains_at o.jmprels k r at))

  kind : r.kind ≡ R_ARM_FUNCDESC_VALUE
  kind = all_at (λ (q : Rel). q.kind ≡ R_ARM_FUNCDESC_VALUE) o.jmprels k r stands.sound.slot_kinds at

  lies : LiesIn o.segments es r.site 8
  lies = lies_in o.segments es r.site 8 same (writable_at o r kind (all_at (λ (q : Rel). IsInPlace o.segments (site_of_rel q)) o.jmprels k r (slots_in_place o stands.sound) at))

  -- the slot, and the flags of its module
  abbrev slot : FilledSite
  slot = slot_site k r

  abbrev u : List Bool
  u = unbound_of l.modules.process m

  abbrev f : Option Func
  f = function_or_none (function_at (linkage_of l.modules.process) m o r)

  value_is : site_value (linkage_of l.modules.process) m o r ≡ Ok (Pair f)
  value_is =
      let written' = pair_value (linkage_of l.modules.process) m o r kind in
      let none : result_err (site_value (linkage_of l.modules.process) m o r) ≡ None = no_refusal (linkage_of l.modules.process) m o r _ stands.filled listed refl in
      written' ∙ ap (written Pair) (function_given (function_at (linkage_of l.modules.process) m o r) (ap result_err (sym written') ∙ none))

  -- where it leads now
  abbrev now : Option Func
  now = cond (waits u slot) (Some (stub_of m o r)) f

  words : All (HasWord (image_of (linkage_of l.modules.process) P m o u)) (pair_at r.site (option_map_or (place_of P) now 0) (option_map_or (λ g. got_of P g.module) now 0))
  words =
      subst (All (HasWord (image_of (linkage_of l.modules.process) P m o u))) (pair_now P m o r (waits u slot) f)
      (site_stands (linkage_of l.modules.process) P m o u slot (stub_or (waits u slot) o r (Pair f)) stands.sound (slot_listed o k r at)
      (ap (written (stub_or (waits u slot) o r)) value_is))

  within : (lies.e.addr ≤ placed es r.site) × (placed es r.site + 8 ≤ lies.e.addr + lies.e.memsz)
  within = inside o.segments es same stands.sound.apart r.site 8 (omega arith) lies

  range : Contains (watched_ranges es o) (placed es r.site, 8)
  range =
      contains_later (placed es o.got, 12) (placed es r.site, 8) _
      (map_in (λ (q : Rel). (placed es q.site, 8)) (filter (λ (q : Rel). q.kind == R_ARM_FUNCDESC_VALUE) (site_relocations o)) r
      (to_filter (λ (q : Rel). q.kind == R_ARM_FUNCDESC_VALUE) (site_relocations o) r ((Decides-eqb r.kind R_ARM_FUNCDESC_VALUE).1 kind) listed))

  -- each byte of the slot is that of the image
  byte : (i : ℕ) → i < 8 → byte_at l.memory (placed es r.site + i) ≡ image_of (linkage_of l.modules.process) P m o u (r.site + i)
  byte i lt =
      let from : lies.s.vaddr ≤ r.site = lies.from in
      let vaddr : lies.e.vaddr ≡ lies.s.vaddr = lies.same.vaddr in
      let place : placed es r.site ≡ r.site - lies.e.vaddr + lies.e.addr = placed_there o.segments es same stands.sound.apart r.site 8 (omega arith) lies in
      let low = within.0 in
      let high = within.1 in
      let j : ℕ = r.site - lies.e.vaddr + i in
      let addr : lies.e.addr + (r.site - lies.e.vaddr + i) ≡ placed es r.site + i = omega arith in
      let linked : lies.e.vaddr + (r.site - lies.e.vaddr + i) ≡ r.site + i = omega arith in
      let watched = c.laid_out.watched m (placed es r.site) 8 (placed es r.site + i) (record { object' = o; live = live; listed = range }) (is_inside (placed es r.site) 8 (placed es r.site + i) (omega arith) (omega arith)) in
      sym (ap (byte_at l.memory) addr)
      ∙ c.images.bytes m o live lies.k lies.e lies.entry (r.site - lies.e.vaddr + i) (omega arith) (subst (λ (a : ℕ). is_watched l.memory a ≡ true) (sym addr) watched)
      ∙ ap (image_of (linkage_of l.modules.process) P m o u) linked

  maps_small : (n : ℕ) (v : ℕ) → placed (map_at l.modules.maps n) v < 2 ^ 32
  maps_small n v = placed_small (map_at l.modules.maps n) v (map_ends l.modules.maps (maps_end_lem.old l.modules c.modules' (subst (λ (n : ℕ). n < 2 ^ 32) c.laid_out.size small)) n)

  code_below : (g : Option Func) → option_map_or (place_of P) g 0 < 2 ^ 32
  code_below None = omega arith
  code_below (Some g) = maps_small g.module g.value

  got_at : (n : ℕ) (g : Option ℕ) → option_map_or (placed (map_at l.modules.maps n)) g 0 < 2 ^ 32
  got_at n None = omega arith
  got_at n (Some v) = maps_small n v

  got_below : (g : Option Func) → option_map_or (λ h. got_of P h.module) g 0 < 2 ^ 32
  got_below None = omega arith
  got_below (Some g) = got_at g.module (P.gots g.module)

  slot_filled : IsFilled l.memory (slot_pair_at (linkage_of l.modules.process) (placing_of l.modules.process l.modules.maps empty) m o u slot)
  slot_filled =
      let first : LinkWord = record { addr = r.site; value = option_map_or (place_of P) now 0 } in
      let second : LinkWord = record { addr = r.site + 4; value = option_map_or (λ g. got_of P g.module) now 0 } in
      let memory_end : length l.memory.bytes ≡ l.modules.plan.memory = c.laid_out.size in
      let entry : IsEntryOf l.modules.plan _ lies.e = (zip_at_right (IsEntryOf l.modules.plan) o.segments es lies.k lies.e stands.mapped lies.entry).2 in
      let below : lies.e.addr + lies.e.memsz ≤ high_of l.modules.plan = entry.below in
      let high = within.1 in
      record {
        inside = omega arith;
        code' = λ i lt. byte i (omega arith) ∙ All-head (HasWord (image_of (linkage_of l.modules.process) P m o u)) first (second ∷ []) words i lt;
        got' = λ i lt.
            let at' : placed es r.site + 4 + i ≡ placed es r.site + (4 + i) = omega arith in
            let at'' : r.site + (4 + i) ≡ r.site + 4 + i = omega arith in
            ap (byte_at l.memory) at' ∙ byte (4 + i) (omega arith) ∙ ap (image_of (linkage_of l.modules.process) P m o u) at''
            ∙ All-head (HasWord (image_of (linkage_of l.modules.process) P m o u)) second [] (All-tail (HasWord (image_of (linkage_of l.modules.process) P m o u)) first (second ∷ []) words) i lt;
        code_small = code_below now;
        got_small = got_below now;
      }

-- ---- all slots

-- slot k of module m, whose object is o
abbrev pub pair_in : SymbolicProcess → List (List MapEntry) → ℕ → Object → FilledSite → SlotPair
pair_in p maps m o s = slot_pair_at (linkage_of p) (placing_of p maps empty) m o (unbound_of p m) s

pub pair_told : (p : SymbolicProcess) (maps : List (List MapEntry)) (m k : ℕ) (o : Object) → object_at p m ≡ Some o
    → slot_pair_of p maps m k ≡ option_map (λ r. pair_in p maps m o (slot_site k r)) (slice_get o.jmprels k)
pair_told p maps m k o live =
    let pairs : Object → List SlotPair = λ x. map (pair_in p maps m x) (slot_sites 0 x.jmprels) in
    ap (λ x. slice_get (option_map_or pairs x []) k) live
    ∙ slice_get-map (pair_in p maps m o) (slot_sites 0 o.jmprels) k
    ∙ ap (option_map (pair_in p maps m o)) (slots_numbered o.jmprels k)
    ∙ map-map (slot_site k) (pair_in p maps m o) (slice_get o.jmprels k)

pub none_told : (p : SymbolicProcess) (maps : List (List MapEntry)) (m k : ℕ) → object_at p m ≡ None → slot_pair_of p maps m k ≡ None
none_told p maps m k none = ap (λ x. slice_get (option_map_or (λ o. map (pair_in p maps m o) (slot_sites 0 o.jmprels)) x []) k) none

-- past the last slot there is none
pub past_told : (p : SymbolicProcess) (maps : List (List MapEntry)) (m k : ℕ) (o : Object) → object_at p m ≡ Some o → length o.jmprels ≤ k
    → slot_pair_of p maps m k ≡ None
past_told p maps m k o live past =
    pair_told p maps m k o live ∙ ap (option_map (λ r. pair_in p maps m o (slot_site k r))) (slice_get_past o.jmprels k past)

pub has_slots : (l : Loaded) → IsConsistent l → length l.memory.bytes < 2 ^ 32 → HasSlots l.modules.process l.modules.maps l.memory
has_slots l c small m k s is = by (object_at l.modules.process m) refl
  where
    at : (o : Object) → object_at l.modules.process m ≡ Some o → (x : Option Rel) → slice_get o.jmprels k ≡ x → IsFilled l.memory s
    at o live None none =
        let never : None ≡ Some s = sym (pair_told l.modules.process l.modules.maps m k o live ∙ ap (option_map (λ q. pair_in l.modules.process l.modules.maps m o (slot_site k q))) none) ∙ is in
        absurd cc
    at o live (Some r) there =
        let both : Some (pair_in l.modules.process l.modules.maps m o (slot_site k r)) ≡ Some s =
        sym (pair_told l.modules.process l.modules.maps m k o live ∙ ap (option_map (λ q. pair_in l.modules.process l.modules.maps m o (slot_site k q))) there) ∙ is in
        let same_pair : pair_in l.modules.process l.modules.maps m o (slot_site k r) ≡ s = cc in
        subst (IsFilled l.memory) same_pair (slot_filled l c small m o live k r there)

    by : (x : Option Object) → object_at l.modules.process m ≡ x → IsFilled l.memory s
    by None none = let never : None ≡ Some s = sym (none_told l.modules.process l.modules.maps m k none) ∙ is in absurd cc
    by (Some o) live = at o live (slice_get o.jmprels k) refl

-- ---- one slot

module _ (p : SymbolicProcess) (maps : List (List MapEntry)) (memory : GuestMemory) (m k : ℕ) (o : Object) (r : Rel) (addr : ℕ) (filled : HasSlots p maps memory) (live : object_at p m ≡ Some o) (at : slice_get o.jmprels k ≡ Some r)
    (place : addr ≡ placed (map_at maps m) r.site) where
  this_slot : slot_pair_of p maps m k ≡ Some (pair_in p maps m o (slot_site k r))
  this_slot = pair_told p maps m k o live ∙ ap (option_map (λ q. pair_in p maps m o (slot_site k q))) at

  this_filled : IsFilled memory (pair_in p maps m o (slot_site k r))
  this_filled = filled m k (pair_in p maps m o (slot_site k r)) this_slot

  pub slot_inside : addr + 8 ≤ length memory.bytes
  slot_inside = subst (λ (a : ℕ). a + 8 ≤ length memory.bytes) (sym place) this_filled.inside

  pub slot_is : (pair : SlotPair) → ((s : SlotPair) → s.addr ≡ addr → IsFilled memory s → pair ≡ s) → Some pair ≡ slot_pair_of p maps m k
  slot_is pair told = ap Some (told (pair_in p maps m o (slot_site k r)) (sym place) this_filled) ∙ sym this_slot

-- ---- four bytes

four : (xs : List ℕ) → length xs ≡ 4 → slice_index xs 0 ∷ slice_index xs 1 ∷ slice_index xs 2 ∷ slice_index xs 3 ∷ [] ≡ xs
four (a ∷ b ∷ c ∷ d ∷ []) is = refl
four (a ∷ b ∷ c ∷ d ∷ e ∷ xs) is = absurd (omega arith)
four [] is = absurd (omega arith)
four (a ∷ []) is = absurd (omega arith)
four (a ∷ b ∷ []) is = absurd (omega arith)
four (a ∷ b ∷ c ∷ []) is = absurd (omega arith)

-- the number that the four bytes of a word are read as
pub word_read : (memory : GuestMemory) (at w a b c d : ℕ) → w < 2 ^ 32 → HasWordAt memory at w → a ≡ byte_at memory at → b ≡ byte_at memory (at + 1) → c ≡ byte_at memory (at + 2) → d ≡ byte_at memory (at + 3)
    → from_le_bytes w32 (a ∷ b ∷ c ∷ d ∷ []) ≡ w
word_read memory at w a b c d small has p q r s =
    let first_byte : at ≡ at + 0 = omega arith in
    let first : a ≡ slice_index (to_le_bytes w32 w) 0 = p ∙ ap (byte_at memory) first_byte ∙ has 0 (omega arith) in
    let second : b ≡ slice_index (to_le_bytes w32 w) 1 = q ∙ has 1 (omega arith) in
    let third : c ≡ slice_index (to_le_bytes w32 w) 2 = r ∙ has 2 (omega arith) in
    let fourth : d ≡ slice_index (to_le_bytes w32 w) 3 = s ∙ has 3 (omega arith) in
    rw (first, second, third, fourth) (ap (from_le_bytes w32) (four (to_le_bytes w32 w) refl) ∙ from_le_bytes-to_le_bytes_4 w small)
