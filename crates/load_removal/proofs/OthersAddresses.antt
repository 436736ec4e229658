-- Addresses that no module had which goes.
use Rattle.std.proofs.Common.{◌≡◌, ◌≢◌, ℕ, ◌+◌, ◌<◌, ◌≤◌, ◌⊎◌, inl, inr, true, false, slice_get, Some, refl, sym, ap, ◌∙◌, arith}
use Rattle.std.specs.Prelude.{Contains}
use Rattle.std.specs.FinMap.{get}
use Rattle.std.proofs.lemmas.Bool.{cases_lt, false≢true}
use Rattle.fd_base.proofs.Lists.{zip_at_right}
use Rattle.fd_base.proofs.Members.{contains_at}
use Rattle.fd_base.proofs.Options.{map_some}
use Rattle.fd_base.proofs.Ranges.{is_outside}
use Rattle.fd_base.specs.Ranges.{is_in}
use Rattle.elf_model.specs.declared.func.Func.{Func}
use Rattle.elf_model.specs.declared.object.Object.{Object}
use Rattle.func_desc.specs.Pool.{IsSlot}
use Rattle.load_map.specs.declared.entry.MapEntry.{MapEntry}
use Rattle.load_map.specs.Maps.{map_at}
use Rattle.placement.specs.declared.item.Held.{Held}
use Rattle.load_model.specs.declared.layout.TheConstants.{LOAD_MAP_SIZE}
use Rattle.load_model.specs.declared.module.Live.{Live}
use Rattle.load_model.specs.declared.plan.TheConstants.{DESCRIPTOR_SIZE}
use Rattle.load_model.specs.Image.{load_map_at}
use Rattle.load_model.specs.Plan.{low_of}
use Rattle.load_model.specs.Process.{live_at, object_at}
use Rattle.load_model.proofs.PlanParts.{low_above, own_slots_below}
use Rattle.load_state.specs.Consistent.{IsConsistent, IsEntryOf}
use Rattle.load_state.specs.Loaded.{Loaded, pool_of}
use Rattle.load_laws.proofs.AddressesApart.{apart_two}
use Rattle.load_laws.proofs.TablesAfter.{live_below}
use Rattle.load_removal.specs.Going.{ModuleSet, MayGo}
use Rattle.load_removal.specs.TakenOut.{IsOfOthers}

module _ (l : Loaded) (gone : ModuleSet) (c : IsConsistent l) (may : MayGo l.modules.process gone) where
  -- the place of a segment
  abbrev IsAt : ℕ → ℕ → MapEntry → Type 0
  IsAt m k e = slice_get (map_at l.modules.maps m) k ≡ Some e

  abbrev low : ℕ
  low = low_of l.modules.plan

  -- ---- what goes

  went : (m : ℕ) → gone m ≡ true → (o : Object) × (object_at l.modules.process m ≡ Some o)
  went m goes = map_some (λ (live : Live). live.object) (live_at l.modules.process m) (may.live m goes)

  few : (m : ℕ) → gone m ≡ true → m < 64
  few m goes = let o = went m goes in live_below l.modules.process m o.0 c.valid o.1

  -- segments lie above all tables
  above_tables : (m k : ℕ) (o : Object) (e : MapEntry) → object_at l.modules.process m ≡ Some o → IsAt m k e → low ≤ e.addr
  above_tables m k o e here at =
      (zip_at_right (IsEntryOf l.modules.plan) o.segments (map_at l.modules.maps m) k e (c.modules'.standing m o here).mapped at).2.above

  off_segments : (a : ℕ) → a < low → (m k : ℕ) (e : MapEntry) → gone m ≡ true → IsAt m k e → is_in e.addr e.memsz a ≡ false
  off_segments a below m k e goes at =
      let o = went m goes in
      let above = above_tables m k o.0 e o.1 at in
      is_outside e.addr e.memsz a (inl (omega arith))

  -- ---- what is of others

  -- an address below all load maps
  pub below_maps : (a : ℕ) → a < 0x1400 → IsOfOthers l.modules gone a
  below_maps a lt = record {
    segments = off_segments a (omega (arith, low_above l.modules.plan));
    load_maps = λ m goes. is_outside (load_map_at m) LOAD_MAP_SIZE a (inl (omega arith));
    slots = λ f at goes is slot. is_outside at DESCRIPTOR_SIZE a (inl (omega (arith, slot.2)));
  }

  -- an address in the load map of a number that doesn't go
  pub in_load_map : (m i : ℕ) → m < 64 → gone m ≡ false → i < LOAD_MAP_SIZE → IsOfOthers l.modules gone (load_map_at m + i)
  in_load_map m i small stays lt = record {
    segments = off_segments (load_map_at m + i) (omega (arith, c.fits.some_processes, low_above l.modules.plan));
    load_maps = λ n goes.
        let differ : n ≢ m = λ same. false≢true (sym stays ∙ ap gone (sym same) ∙ goes) in
        is_outside (load_map_at n) LOAD_MAP_SIZE (load_map_at m + i) (off_map n differ);
    slots = λ f at goes is slot. is_outside at DESCRIPTOR_SIZE (load_map_at m + i) (inl (omega (arith, c.fits.some_processes, slot.2)));
  }
    where
      off_map : (n : ℕ) → n ≢ m → (load_map_at m + i < load_map_at n) ⊎ (load_map_at n + LOAD_MAP_SIZE ≤ load_map_at m + i)
      off_map n other =
          elim (cases_lt n m) [
            | inl less ↦ inr (omega arith)
            | inr most ↦ elim (cases_lt m n) [ inl less ↦ inl (omega (arith, lt)) | inr le ↦ absurd (other (omega arith)) ]
          ]

  -- an address in a slot that no function has which goes
  pub in_slot : (a i : ℕ) → IsSlot (pool_of l.modules.plan l.modules.addrs) a → i < DESCRIPTOR_SIZE
      → ((f : Func) → gone f.module ≡ true → get l.modules.addrs f ≢ Some a) → IsOfOthers l.modules gone (a + i)
  in_slot a i slot lt others = record {
    segments = off_segments (a + i) (omega (arith, slot.1, slot.2, own_slots_below l.modules.plan c.fits, low_above l.modules.plan));
    load_maps = λ m goes. is_outside (load_map_at m) LOAD_MAP_SIZE (a + i) (inr (omega (arith, few m goes, c.fits.some_processes, slot.2)));
    slots = λ f at goes is its. is_outside at DESCRIPTOR_SIZE (a + i) (off_slot at its (λ same. others f goes (is ∙ ap Some same)));
  }
    where
      off_slot : (at : ℕ) → IsSlot (pool_of l.modules.plan l.modules.addrs) at → at ≢ a → (a + i < at) ⊎ (at + DESCRIPTOR_SIZE ≤ a + i)
      off_slot at its other =
          elim (cases_lt at a) [
            | inl less ↦ inr (omega (arith, its.2, slot.2))
            | inr most ↦ elim (cases_lt a at) [ inl less ↦ inl (omega (arith, its.2, slot.2, lt)) | inr le ↦ absurd (other (omega arith)) ]
          ]

  -- an address in a segment of a module that stays
  pub in_segment : (m k i : ℕ) (o : Object) (e : MapEntry) → gone m ≡ false → object_at l.modules.process m ≡ Some o → IsAt m k e → i < e.memsz
      → IsOfOthers l.modules gone (e.addr + i)
  in_segment m k i o e stays here at lt = record {
    segments = λ n j e' goes at'.
        let differ : range_of m e ≢ range_of n e' = λ same. false≢true (sym stays ∙ ap (λ (r : Held). gone r.owner) same ∙ goes) in
        off_range (range_of n e') (apart_two l.modules.held (range_of m e) (range_of n e') c.ranges.apart (held m k e at) (held n j e' at') differ);
    load_maps = λ n goes. is_outside (load_map_at n) LOAD_MAP_SIZE (e.addr + i)
        (inr (omega (arith, few n goes, above, c.fits.some_processes, low_above l.modules.plan)));
    slots = λ f at'' goes is slot. is_outside at'' DESCRIPTOR_SIZE (e.addr + i)
        (inr (omega (arith, slot.1, slot.2, above, own_slots_below l.modules.plan c.fits, low_above l.modules.plan)));
  }
    where
      range_of : ℕ → MapEntry → Held
      range_of owner e = record { owner = owner; start = e.addr; len = e.memsz }

      above : low ≤ e.addr
      above = above_tables m k o e here at

      held : (m k : ℕ) (e : MapEntry) → IsAt m k e → Contains l.modules.held (range_of m e)
      held m k e at =
          (c.ranges.held' (range_of m e)).1
          (record { entry = e; listed = contains_at (map_at l.modules.maps m) k e at; start' = refl; len' = refl })

      off_range : (r : Held) → (r.start + r.len ≤ e.addr) ⊎ (e.addr + e.memsz ≤ r.start) → is_in r.start r.len (e.addr + i) ≡ false
      off_range r off = is_outside r.start r.len (e.addr + i) (elim off [ inl h ↦ inr (omega (arith, h)) | inr h ↦ inl (omega (arith, h, lt)) ])
