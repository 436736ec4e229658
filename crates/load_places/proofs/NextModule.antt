-- What the next of the new modules may rely on.
use Rattle.std.proofs.Common.{◌≡◌, ℕ, ◌+◌, ◌<◌, ◌≤◌, false, List, [], ◌∷◌, ◌++◌, Some, None, length, get_or, take, refl, sym, subst, ◌∙◌, arith, inl, inr}
use Rattle.std.specs.Prelude.{◌≢◌, All, AllPairs, slice_get}
use Rattle.std.specs.List.{AllZip}
use Rattle.std.proofs.lemmas.List.{take_all}
use Rattle.std.proofs.lemmas.List.Elements.{All-take, All-weaker, Contains-get_or}
use Rattle.std.proofs.lemmas.Option.{slice_get-get_or, slice_get_read}
use Rattle.std.proofs.lemmas.Slice.Zip.{AllZip-long}
use Rattle.load_map.specs.declared.entry.MapEntry.{MapEntry}
use Rattle.elf_model.specs.Sound.{IsSound}
use Rattle.guest_mem.specs.Memory.{GuestMemory, HaveKind}
use Rattle.load_map.specs.Whole.{PlacedApart}
use Rattle.load_memory.specs.parts.PlacingSteps.{IsPlacedBy, LiesWithin}
use Rattle.fd_base.proofs.Lists.{all_from, all_at}
use Rattle.fd_base.proofs.Ranges.{is_outside}
use Rattle.load_memory.proofs.PlacingSteps.{entries_few}
use Rattle.load_memory.proofs.PairedLists.{zip_at}
use Rattle.symbol_scope.specs.declared.tables.TheConstants.{MAX_MODULES}
use Rattle.load_model.specs.Image.{load_map_at}
use Rattle.load_model.specs.declared.module.Joining.{Joining}
use Rattle.fd_base.specs.Ranges.{is_in}
use Rattle.load_state.specs.Committed.{IsSameAt}
use Rattle.load_map.specs.Maps.{map_at}
use Rattle.load_places.specs.parts.Modules.{IsOffModules}
use Rattle.load_places.specs.parts.Placeable.{ArePlaceable, IsPlaceable, ModulesApart}
use Rattle.load_places.proofs.AddedModules.{ArePlaced, ArePlaced-more, IsAdded, IsBeside, IsOff}
use Rattle.load_places.proofs.ModuleLists.{all_before, own_pairs, take_this, zip_each}

-- one list of bytes for each module
pub parts_count : (old : GuestMemory) (joining : List Joining) (maps : List (List MapEntry)) (parts : List (List (List ℕ))) → ArePlaceable old joining maps parts → length parts ≡ length joining
parts_count old joining maps parts placeable = AllZip-long (IsPlaceable old maps) joining parts placeable.each

-- what holds of a module that can be placed, whatever its bytes are
record IsFit (maps : List (List MapEntry)) (x : Joining) : Type 0 where
  few : x.number < 64
  short : length (map_at maps x.number) ≤ 8
  above : All (λ e. load_map_at MAX_MODULES ≤ e.addr) (map_at maps x.number)

fit : (memory : GuestMemory) (maps : List (List MapEntry)) (x : Joining) (parts : List (List ℕ)) → IsPlaceable memory maps x parts → IsFit maps x
fit memory maps x parts p = record {
  few = p.number';
  short = entries_few x.object (map_at maps x.number) p.sound p.segments;
  above = All-weaker (LiesWithin (load_map_at MAX_MODULES) (length memory.bytes)) (λ (e : MapEntry). load_map_at MAX_MODULES ≤ e.addr) (λ e within. within.0) (map_at maps x.number) p.inside;
}

off_there : (d e : MapEntry) (a : ℕ) → PlacedApart d e → e.addr ≤ a → a < e.addr + e.memsz → is_in d.addr d.memsz a ≡ false
off_there d e a (inl before) l l' = is_outside d.addr d.memsz a (inr (omega arith))
off_there d e a (inr after) l l' = is_outside d.addr d.memsz a (inl (omega arith))

-- what the next module may rely on, with these entries and these bytes
pub record IsNext (now : GuestMemory) (j : Joining) (es : List MapEntry) (parts : List (List ℕ)) : Type 0 where
  pub number' : j.number < 64
  pub sound : IsSound j.object
  pub segments : AllZip IsPlacedBy j.object.segments es
  pub tables : load_map_at MAX_MODULES ≤ length now.bytes
  pub inside : All (LiesWithin (load_map_at MAX_MODULES) (length now.bytes)) es
  pub free : All (λ e. HaveKind now e.addr e.memsz None) es
  pub apart : AllPairs PlacedApart es
  pub sizes : AllZip (λ e part. length part ≡ e.memsz) es parts

module _ (old now : GuestMemory) (joining : List Joining) (maps : List (List MapEntry)) (parts : List (List (List ℕ))) (placeable : ArePlaceable old joining maps parts) (i : ℕ) (j : Joining) (images : List (List ℕ))
    (l : i < length joining) (is : j ≡ get_or joining i j) (is' : images ≡ get_or parts i images) (done : ArePlaced maps (take i joining) (take i parts) old now) where
  at : slice_get joining i ≡ Some j
  at = slice_get_read joining (length joining) i j refl l is

  at' : slice_get parts i ≡ Some images
  at' = let count : length parts ≡ length joining = parts_count old joining maps parts placeable in slice_get_read parts (length parts) i images refl (omega arith) is'

  this : IsPlaceable old maps j images
  this = zip_at (IsPlaceable old maps) joining parts i j images placeable.each at at'

  apart_before : All (λ (x : Joining). ModulesApart maps x j) (take i joining)
  apart_before = all_before (ModulesApart maps) joining i j placeable.apart at

  beside : All (IsBeside maps j) (take i joining)
  beside = λ k d l.
      let fits : IsFit maps (get_or (take i joining) k d) = All-take (IsFit maps) i joining (zip_each (IsFit maps) (IsPlaceable old maps) (fit old maps) joining parts placeable.each) k d l in
      record {
        number' = all_before (λ (x y : Joining). y.number ≢ x.number) joining i j (own_pairs joining placeable.numbers) at k d l;
        few = fits.few;
        short = fits.short;
        above = fits.above;
        apart = apart_before k d l;
      }

  -- earlier modules lie elsewhere
  free_there : (k : ℕ) (e : MapEntry) → slice_get (map_at maps j.number) k ≡ Some e → HaveKind now e.addr e.memsz None
  free_there k e p a l l' =
      done.kinds a
      (All-weaker (λ (x : Joining). ModulesApart maps x j) (λ (x : Joining). IsOff (map_at maps x.number) a)
      (λ x apart. All-weaker (λ (d : MapEntry). All (PlacedApart d) (map_at maps j.number)) (λ (d : MapEntry). is_in d.addr d.memsz a ≡ false)
      (λ d off. off_there d e a (all_at (PlacedApart d) (map_at maps j.number) k e off p) l l') (map_at maps x.number) apart)
      (take i joining) apart_before)
      ∙ all_at (λ (x : MapEntry). HaveKind old x.addr x.memsz None) (map_at maps j.number) k e this.free p a l l'

  module _ (es : List MapEntry) (same : es ≡ map_at maps j.number) (ps : List (List ℕ)) (same' : ps ≡ images) where
    pub next : IsNext now j es ps
    next = subst (λ (xs : List MapEntry). IsNext now j xs ps) (sym same) (subst (IsNext now j (map_at maps j.number)) (sym same') (record {
      number' = this.number';
      sound = this.sound;
      segments = this.segments;
      tables = let size : length now.bytes ≡ length old.bytes = done.size in omega (arith, placeable.tables);
      inside = subst (λ n. All (LiesWithin (load_map_at MAX_MODULES) n) (map_at maps j.number)) (sym done.size) this.inside;
      free = all_from (λ (e : MapEntry). HaveKind now e.addr e.memsz None) (map_at maps j.number) free_there;
      apart = this.apart;
      sizes = this.sizes;
    }))

    pub more : (new : GuestMemory) → IsAdded j es ps now new → ArePlaced maps (take (i + 1) joining) (take (i + 1) parts) old new
    more new added =
        subst (λ (xs : List Joining). ArePlaced maps xs (take (i + 1) parts) old new) (sym (take_this joining i j at))
        (subst (λ (xs : List (List (List ℕ))). ArePlaced maps (take i joining ++ j ∷ []) xs old new) (sym (take_this parts i images at'))
        (ArePlaced-more maps j images now new (fit old maps j images this).few (fit old maps j images this).above
        (subst (λ (xs : List MapEntry). IsAdded j xs images now new) same (subst (λ (xs : List (List ℕ)). IsAdded j es xs now new) same' added)) (take i joining) (take i parts) old beside done))

-- an address that is in no new segment and no new load map
pub same_there : (maps : List (List MapEntry)) (xs : List Joining) (ps : List (List (List ℕ))) (old new : GuestMemory) (a : ℕ) → ArePlaced maps xs ps old new → IsOffModules xs maps a → IsSameAt old new a
same_there maps xs ps old new a done off =
    done.stays a
    (λ k d l k' d' l'. off.segments (get_or xs k d) k' (get_or (map_at maps (get_or xs k d).number) k' d') (Contains-get_or xs k d l) (slice_get-get_or (map_at maps (get_or xs k d).number) k' d' l'))
    (λ k d l. off.load_maps (get_or xs k d) (Contains-get_or xs k d l))

-- all of them are placed in the end
pub all_placed : (old new : GuestMemory) (joining : List Joining) (maps : List (List MapEntry)) (parts : List (List (List ℕ))) → ArePlaceable old joining maps parts → (i : ℕ) → length joining ≤ i
    → ArePlaced maps (take i joining) (take i parts) old new → ArePlaced maps joining parts old new
all_placed old new joining maps parts placeable i l done =
    let count : length parts ≡ length joining = parts_count old joining maps parts placeable in
    subst (λ (xs : List Joining). ArePlaced maps xs parts old new) (take_all i joining l) (subst (λ (ps : List (List (List ℕ))). ArePlaced maps (take i joining) ps old new) (take_all i parts (omega arith)) done)
