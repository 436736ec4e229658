-- A memory in which new modules and descriptors are put.
use Rattle.std.proofs.Common.{◌≡◌, ℕ, zero, suc, ◌+◌, ◌<◌, ◌≤◌, List, [], ◌∷◌, length, get_or, take, Some, refl, sym, subst, arith}
use Rattle.std.specs.Prelude.{All, AllPairs, slice_get}
use Rattle.std.proofs.lemmas.List.{take_all, take_more}
use Rattle.std.proofs.lemmas.List.Elements.{All-contains, All-get_or}
use Rattle.std.proofs.lemmas.Option.{get_or_from_slice_get}
use Rattle.load_map.specs.declared.entry.MapEntry.{MapEntry}
use Rattle.load_map.specs.Maps.{map_at}
use Rattle.elf_model.specs.declared.func.Func.{Func}
use Rattle.guest_mem.specs.Accesses.{with_bytes}
use Rattle.guest_mem.specs.Memory.{GuestMemory, IsMemory}
use Rattle.load_model.specs.declared.module.Joining.{Joining}
use Rattle.load_model.specs.declared.module.SymbolicProcess.{SymbolicProcess}
use Rattle.load_model.specs.declared.plan.TheConstants.{DESCRIPTOR_SIZE}
use Rattle.load_model.specs.Layout.{HasLoadMap, bytes_of_words}
use Rattle.load_places.specs.parts.Descriptors.{DescriptorsApart, HasDescriptorsPut}
use Rattle.load_places.specs.parts.Modules.{HasModulesPut}
use Rattle.load_places.specs.parts.Placeable.{ArePlaceable}
use Rattle.load_places.proofs.AddedModules.{ArePlaced, ArePlaced-none}
use Rattle.load_places.proofs.ModuleLists.{pairs_before}
use Rattle.load_places.proofs.NextModule.{all_placed, more, next, parts_count, same_there}
use Rattle.load_places.proofs.PutDescriptors.{code_of, got_for, put_more, put_none}
use Rattle.load_outcomes.proofs.PutModule.{module_put}

take_none : {X : Type 0} (xs : List X) → take 0 xs ≡ []
take_none [] = refl
take_none (x ∷ xs) = refl

-- what stands at a place of a list
some_at : {X : Type 0} (xs : List X) (i : ℕ) → i < length xs → (x : X) × (slice_get xs i ≡ Some x)
some_at [] i lt = absurd (omega arith)
some_at (x ∷ xs) zero lt = (x, refl)
some_at (x ∷ xs) (suc i) lt = some_at xs i (omega arith)

-- ---- modules

module _ (joining : List Joining) (maps : List (List MapEntry)) (parts : List (List (List ℕ))) (old : GuestMemory) (whole : IsMemory old) (placeable : ArePlaceable old joining maps parts) where
  -- the first n modules are placed in this memory
  record ArePut (n : ℕ) (now : GuestMemory) : Type 0 where
    placed : ArePlaced maps (take n joining) (take n parts) old now
    whole' : IsMemory now

  none_put : ArePut 0 old
  none_put = record {
    placed = subst (λ (xs : List Joining). ArePlaced maps xs (take 0 parts) old old) (sym (take_none joining))
        (subst (λ (ps : List (List (List ℕ))). ArePlaced maps [] ps old old) (sym (take_none parts)) (ArePlaced-none maps old));
    whole' = whole;
  }

  one_put : (n : ℕ) (now : GuestMemory) → n < length joining → ArePut n now → (new : GuestMemory) × ArePut (suc n) new
  one_put n now lt before =
      let count : length parts ≡ length joining = parts_count old joining maps parts placeable in
      let at = some_at joining n lt in
      let at' = some_at parts n (omega arith) in
      let j : Joining = at.0 in
      let images : List (List ℕ) = at'.0 in
      let is : j ≡ get_or joining n j = sym (get_or_from_slice_get joining n j j at.1) in
      let is' : images ≡ get_or parts n images = sym (get_or_from_slice_get parts n images images at'.1) in
      let es : List MapEntry = map_at maps j.number in
      let added = module_put j es images now before.whole' (next old now joining maps parts placeable n j images lt is is' before.placed es refl images refl) in
      let all = more old now joining maps parts placeable n j images lt is is' before.placed es refl images refl added.0 added.1 in
      let step : n + 1 ≡ suc n = omega arith in
      (added.0, record { placed = subst (λ k. ArePlaced maps (take k joining) (take k parts) old added.0) step all; whole' = added.2 })

  each_put : (n : ℕ) → n ≤ length joining → (now : GuestMemory) × ArePut n now
  each_put zero le = (old, none_put)
  each_put (suc n) le = let before = each_put n (omega arith) in one_put n before.0 (omega arith) before.1

  pub modules_put : (now : GuestMemory) × HasModulesPut joining maps parts old now × (length now.bytes ≡ length old.bytes)
  modules_put =
      let last = each_put (length joining) (omega arith) in
      let now : GuestMemory = last.0 in
      let done = all_placed old now joining maps parts placeable (length joining) (omega arith) last.1.placed in (
        now,
        record {
          layout = done.layout;
          bytes = done.bytes;
          load_maps = λ j listed. All-contains (λ (x : Joining). HasLoadMap now x.number (map_at maps x.number)) joining j done.load_maps listed;
          stays = λ a off. same_there maps joining parts old now a done off;
        },
        done.size,
      )

-- ---- descriptors

module _ (p : SymbolicProcess) (maps : List (List MapEntry)) (given : List (Func × ℕ)) (old : GuestMemory)
    (inside : All (λ (e : Func × ℕ). e.1 + DESCRIPTOR_SIZE ≤ length old.bytes) given) (apart : AllPairs DescriptorsApart given) where
  no_function : Func × ℕ
  no_function = (record { «module» = 0; value = 0 }, 0)

  one_given : (n : ℕ) (mid : GuestMemory) → n < length given → HasDescriptorsPut p maps (take n given) old mid → (new : GuestMemory) × HasDescriptorsPut p maps (take (suc n) given) old new
  one_given n mid lt before =
      let e : Func × ℕ = get_or given n no_function in
      let new : GuestMemory = with_bytes mid e.1 (bytes_of_words (code_of p maps e.0 ∷ got_for p maps e.0 ∷ [])) in
      let done =
      put_more p maps (take n given) e.0 e.1 old mid new (λ g b listed. pairs_before DescriptorsApart given n no_function (g, b) apart lt listed)
      (All-get_or (λ (x : Func × ℕ). x.1 + DESCRIPTOR_SIZE ≤ length old.bytes) given n no_function lt inside) refl before in
      let step : n + 1 ≡ suc n = omega arith in (
        new,
        subst (λ k. HasDescriptorsPut p maps (take k given) old new) step
            (subst (λ (es : List (Func × ℕ)). HasDescriptorsPut p maps es old new) (sym (take_more given n no_function lt)) done),
      )

  each_given : (n : ℕ) → n ≤ length given → (new : GuestMemory) × HasDescriptorsPut p maps (take n given) old new
  each_given zero le = (old, subst (λ (es : List (Func × ℕ)). HasDescriptorsPut p maps es old old) (sym (take_none given)) (put_none p maps old))
  each_given (suc n) le = let before = each_given n (omega arith) in one_given n before.0 (omega arith) before.1

  pub descriptors_put : (new : GuestMemory) × HasDescriptorsPut p maps given old new
  descriptors_put =
      let last = each_given (length given) (omega arith) in
      (last.0, subst (λ (es : List (Func × ℕ)). HasDescriptorsPut p maps es old last.0) (take_all (length given) given (omega arith)) last.1)
