-- New modules in memory, one after another.
use Rattle.std.proofs.Common.{◌≡◌, inl, inr, ℕ, ◌+◌, ◌*◌, ◌<◌, ◌≤◌, false, cond, List, [], ◌∷◌, ◌++◌, Some, None, length, refl, ap, sym, subst, ◌∙◌, arith}
use Rattle.std.specs.Prelude.{◌≢◌, ◌==◌, All, slice_index}
use Rattle.std.specs.List.{AllZip}
use Rattle.std.proofs.lemmas.Bool.{cases_lt}
use Rattle.std.proofs.lemmas.Bool.Decides.{nat_tests}
use Rattle.std.proofs.lemmas.List.Elements.{All-head, All-nil, All-push, All-tail, All-weaker}
use Rattle.load_map.specs.declared.entry.MapEntry.{MapEntry}
use Rattle.guest_mem.specs.Memory.{GuestMemory, byte_at, is_watched, kind_at}
use Rattle.load_map.specs.Image.{bytes_of_map}
use Rattle.load_map.specs.Whole.{PlacedApart}
use Rattle.load_memory.specs.parts.Modules.{with_module}
use Rattle.load_map.proofs.Imaged.{length-bytes_of_map}
use Rattle.fd_base.proofs.Lists.{all_back, all_front, zip_push}
use Rattle.fd_base.proofs.Ranges.{is_outside}
use Rattle.symbol_scope.specs.declared.tables.TheConstants.{MAX_MODULES}
use Rattle.load_model.specs.declared.layout.TheConstants.{LOAD_MAP_SIZE}
use Rattle.load_model.specs.declared.module.Joining.{Joining}
use Rattle.load_model.specs.declared.plan.MemPlan.{MemPlan}
use Rattle.load_model.specs.Image.{load_map_at}
use Rattle.load_map.specs.Maps.{map_at}
use Rattle.load_model.specs.Layout.{HasLoadMap, InMemory, IsLaidOut}
use Rattle.fd_base.specs.Ranges.{is_in}
use Rattle.load_state.specs.Committed.{IsSameAt}
use Rattle.load_map.specs.Maps.{map_at}
use Rattle.load_places.specs.parts.Modules.{HasParts, with_modules}
use Rattle.load_places.specs.parts.Placeable.{ModulesApart}
use Rattle.load_places.proofs.ModuleLists.{zip_weaker}

-- an address in none of these ranges, and in no segment of these modules
abbrev pub IsOff : List MapEntry → ℕ → Type 0
IsOff es a = All (λ e. is_in e.addr e.memsz a ≡ false) es

abbrev pub AreOff : List (List MapEntry) → List Joining → ℕ → Type 0
AreOff maps xs a = All (λ j. IsOff (map_at maps j.number) a) xs

abbrev pub AreOffTables : List Joining → ℕ → Type 0
AreOffTables xs a = All (λ j. is_in (load_map_at j.number) LOAD_MAP_SIZE a ≡ false) xs

-- these modules are placed, and all else is as it was
pub record ArePlaced (maps : List (List MapEntry)) (xs : List Joining) (ps : List (List (List ℕ))) (old new : GuestMemory) : Type 0 where
  pub layout : (plan : MemPlan) (mods : InMemory) → All (λ j. mods.objects j.number ≡ None) xs → IsLaidOut plan mods old → IsLaidOut plan (with_modules mods xs maps) new
  pub bytes : AllZip (HasParts new maps) xs ps
  pub load_maps : All (λ j. HasLoadMap new j.number (map_at maps j.number)) xs
  pub stays : (a : ℕ) → AreOff maps xs a → AreOffTables xs a → IsSameAt old new a
  pub kinds : (a : ℕ) → AreOff maps xs a → kind_at new a ≡ kind_at old a
  pub size : length new.bytes ≡ length old.bytes

pub ArePlaced-none : (maps : List (List MapEntry)) (m : GuestMemory) → ArePlaced maps [] [] m m
ArePlaced-none maps m = record {
  layout = λ plan mods none laid_out. laid_out;
  bytes = tt;
  load_maps = All-nil (λ (j : Joining). HasLoadMap m j.number (map_at maps j.number));
  stays = λ a off off'. record { byte = refl; watched = refl };
  kinds = λ a off. refl;
  size = refl;
}

-- one module is placed, with these entries and bytes
pub record IsAdded (j : Joining) (es : List MapEntry) (images : List (List ℕ)) (old new : GuestMemory) : Type 0 where
  pub layout : (plan : MemPlan) (mods : InMemory) → mods.objects j.number ≡ None → IsLaidOut plan mods old → IsLaidOut plan (with_module mods j.number j.object es) new
  pub bytes : AllZip (λ e part. (i : ℕ) → i < e.memsz → byte_at new (e.addr + i) ≡ slice_index part i) es images
  pub load_map : HasLoadMap new j.number es
  pub rest : (a : ℕ) → IsOff es a → is_in (load_map_at j.number) LOAD_MAP_SIZE a ≡ false → byte_at new a ≡ byte_at old a
  pub kinds : (a : ℕ) → IsOff es a → kind_at new a ≡ kind_at old a
  pub watch : (a : ℕ) → IsOff es a → is_watched new a ≡ is_watched old a
  pub size : length new.bytes ≡ length old.bytes

-- a module that was placed before this one lies apart from it
pub record IsBeside (maps : List (List MapEntry)) (j x : Joining) : Type 0 where
  pub number' : j.number ≢ x.number
  pub few : x.number < 64
  pub short : length (map_at maps x.number) ≤ 8
  pub above : All (λ e. load_map_at MAX_MODULES ≤ e.addr) (map_at maps x.number)
  pub apart : ModulesApart maps x j

-- ---- the modules in memory

numbers_differ : (m n : ℕ) → m ≢ n → (m == n) ≡ false
numbers_differ m n h = grind (arith, nat_tests)

pub with_modules-more : (mods : InMemory) (xs : List Joining) (j : Joining) (maps : List (List MapEntry))
    → with_modules mods (xs ++ j ∷ []) maps ≡ with_module (with_modules mods xs maps) j.number j.object (map_at maps j.number)
with_modules-more mods [] j maps = refl
with_modules-more mods (x ∷ xs) j maps = with_modules-more (with_module mods x.number x.object (map_at maps x.number)) xs j maps

free_still : (maps : List (List MapEntry)) (n : ℕ) (xs : List Joining) (mods : InMemory) → All (λ (x : Joining). n ≢ x.number) xs → mods.objects n ≡ None → (with_modules mods xs maps).objects n ≡ None
free_still maps n [] mods others none = none
free_still maps n (x ∷ xs) mods others none =
    free_still maps n xs (with_module mods x.number x.object (map_at maps x.number)) (All-tail (λ (y : Joining). n ≢ y.number) x xs others)
    (ap (λ b. cond b (Some x.object) (mods.objects n)) (numbers_differ n x.number (All-head (λ (y : Joining). n ≢ y.number) x xs others)) ∙ none)

-- ---- what is apart

off_apart : (d e : MapEntry) (i : ℕ) → i < e.memsz → PlacedApart e d → is_in d.addr d.memsz (e.addr + i) ≡ false
off_apart d e i l (inl before) = is_outside d.addr d.memsz (e.addr + i) (inl (omega arith))
off_apart d e i l (inr after) = is_outside d.addr d.memsz (e.addr + i) (inr (omega arith))

off_other_table : (m n a : ℕ) → m ≢ n → load_map_at n ≤ a → a < load_map_at n + LOAD_MAP_SIZE → is_in (load_map_at m) LOAD_MAP_SIZE a ≡ false
off_other_table m n a other low high =
    is_outside (load_map_at m) LOAD_MAP_SIZE a (elim (cases_lt m n) [ inl lt ↦ inr (omega arith) | inr ge ↦ inl (let lt : n < m = omega (arith, other, ge) in omega arith) ])

module _ (maps : List (List MapEntry)) (j : Joining) (images : List (List ℕ)) (mid new : GuestMemory) (few : j.number < 64) (above : All (λ (e : MapEntry). load_map_at MAX_MODULES ≤ e.addr) (map_at maps j.number)) (added : IsAdded j (map_at maps j.number) images mid new) where
  -- what lies below the modules is in no segment
  off_low : (a : ℕ) → a < load_map_at MAX_MODULES → IsOff (map_at maps j.number) a
  off_low a low = All-weaker (λ (e : MapEntry). load_map_at MAX_MODULES ≤ e.addr) (λ (e : MapEntry). is_in e.addr e.memsz a ≡ false) (λ e p. is_outside e.addr e.memsz a (inl (omega arith))) (map_at maps j.number) above

  segment_stays : (e : MapEntry) (i : ℕ) → load_map_at MAX_MODULES ≤ e.addr → All (PlacedApart e) (map_at maps j.number) → i < e.memsz → byte_at new (e.addr + i) ≡ byte_at mid (e.addr + i)
  segment_stays e i high off l =
      added.rest (e.addr + i) (All-weaker (PlacedApart e) (λ (d : MapEntry). is_in d.addr d.memsz (e.addr + i) ≡ false) (λ d p. off_apart d e i l p) (map_at maps j.number) off)
      (is_outside (load_map_at j.number) LOAD_MAP_SIZE (e.addr + i) (inr (omega arith)))

  table_stays : (n a : ℕ) → j.number ≢ n → n < 64 → load_map_at n ≤ a → a < load_map_at n + LOAD_MAP_SIZE → byte_at new a ≡ byte_at mid a
  table_stays n a other below low high = added.rest a (off_low a (omega arith)) (off_other_table j.number n a other low high)

  parts_stay : (x : Joining) (parts : List (List ℕ)) → IsBeside maps j x → HasParts mid maps x parts → HasParts new maps x parts
  parts_stay x parts beside has =
      zip_weaker (λ (e : MapEntry). (load_map_at MAX_MODULES ≤ e.addr) × All (PlacedApart e) (map_at maps j.number)) (λ (e : MapEntry) (part : List ℕ). (i : ℕ) → i < e.memsz → byte_at mid (e.addr + i) ≡ slice_index part i)
      (λ (e : MapEntry) (part : List ℕ). (i : ℕ) → i < e.memsz → byte_at new (e.addr + i) ≡ slice_index part i) (λ e part p had. λ i l. segment_stays e i p.0 p.1 l ∙ had i l) (map_at maps x.number) parts
      (λ k d l. (beside.above k d l, beside.apart k d l)) has

  load_map_stays : (x : Joining) → IsBeside maps j x → HasLoadMap mid x.number (map_at maps x.number) → HasLoadMap new x.number (map_at maps x.number)
  load_map_stays x beside has =
      let es : List MapEntry = map_at maps x.number in
      let long : length (bytes_of_map es) ≡ 4 + 12 * length es = length-bytes_of_map es in
      let short : length es ≤ 8 = beside.short in
      record {
        bytes = λ i l. table_stays x.number (load_map_at x.number + i) beside.number' beside.few (omega arith) (omega arith) ∙ has.bytes i l;
        rest = λ i l. table_stays x.number (load_map_at x.number + length (bytes_of_map es) + i) beside.number' beside.few (omega arith) (omega arith) ∙ has.rest i l;
      }

  module _ (xs : List Joining) (ps : List (List (List ℕ))) (old : GuestMemory) (beside : All (IsBeside maps j) xs) (done : ArePlaced maps xs ps old mid) where
    layout_more : (plan : MemPlan) (mods : InMemory) → All (λ x. mods.objects x.number ≡ None) (xs ++ j ∷ []) → IsLaidOut plan mods old → IsLaidOut plan (with_modules mods (xs ++ j ∷ []) maps) new
    layout_more plan mods none laid_out =
        let last : All (λ (x : Joining). mods.objects x.number ≡ None) (j ∷ []) = all_back (λ (x : Joining). mods.objects x.number ≡ None) xs (j ∷ []) none in
        subst (λ (all : InMemory). IsLaidOut plan all new) (sym (with_modules-more mods xs j maps))
        (added.layout plan (with_modules mods xs maps)
        (free_still maps j.number xs mods (All-weaker (IsBeside maps j) (λ (x : Joining). j.number ≢ x.number) (λ x p. p.number') xs beside) (All-head (λ (x : Joining). mods.objects x.number ≡ None) j [] last))
        (done.layout plan mods (all_front (λ (x : Joining). mods.objects x.number ≡ None) xs (j ∷ []) none) laid_out))

    off_last : (a : ℕ) → AreOff maps (xs ++ j ∷ []) a → IsOff (map_at maps j.number) a
    off_last a off = All-head (λ (x : Joining). IsOff (map_at maps x.number) a) j [] (all_back (λ (x : Joining). IsOff (map_at maps x.number) a) xs (j ∷ []) off)

    off_others : (a : ℕ) → AreOff maps (xs ++ j ∷ []) a → AreOff maps xs a
    off_others a off = all_front (λ (x : Joining). IsOff (map_at maps x.number) a) xs (j ∷ []) off

    same_more : (a : ℕ) → AreOff maps (xs ++ j ∷ []) a → AreOffTables (xs ++ j ∷ []) a → IsSameAt old new a
    same_more a off tables =
        let table : is_in (load_map_at j.number) LOAD_MAP_SIZE a ≡ false =
        All-head (λ (x : Joining). is_in (load_map_at x.number) LOAD_MAP_SIZE a ≡ false) j [] (all_back (λ (x : Joining). is_in (load_map_at x.number) LOAD_MAP_SIZE a ≡ false) xs (j ∷ []) tables) in
        let before : IsSameAt old mid a = done.stays a (off_others a off) (all_front (λ (x : Joining). is_in (load_map_at x.number) LOAD_MAP_SIZE a ≡ false) xs (j ∷ []) tables) in
        record { byte = added.rest a (off_last a off) table ∙ before.byte; watched = added.watch a (off_last a off) ∙ before.watched }

    pub ArePlaced-more : ArePlaced maps (xs ++ j ∷ []) (ps ++ images ∷ []) old new
    ArePlaced-more = record {
      layout = layout_more;
      bytes = zip_push (HasParts new maps) xs ps j images (zip_weaker (IsBeside maps j) (HasParts mid maps) (HasParts new maps) (λ x parts p had. parts_stay x parts p had) xs ps beside done.bytes) added.bytes;
      load_maps = All-push (λ (x : Joining). HasLoadMap new x.number (map_at maps x.number)) xs j (λ k d l. load_map_stays _ (beside k d l) (done.load_maps k d l)) added.load_map;
      stays = same_more;
      kinds = λ a off. added.kinds a (off_last a off) ∙ done.kinds a (off_others a off);
      size = added.size ∙ done.size;
    }
