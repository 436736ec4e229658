-- The new modules of a plan can be placed.
use Rattle.std.proofs.Common.{◌≡◌, ℕ, List, length, get_or, Option, sym, All}
use Rattle.std.specs.Prelude.{Contains}
use Rattle.std.proofs.lemmas.List.Elements.{All-contains, All-contains_itself}
use Rattle.load_map.specs.declared.entry.MapEntry.{MapEntry}
use Rattle.fd_base.specs.Fetched.{Files}
use Rattle.elf_model.specs.declared.object.Segment.{Segment}
use Rattle.elf_model.specs.Sound.{IsSound}
use Rattle.load_map.specs.Whole.{PlacedApart}
use Rattle.load_memory.specs.parts.PlacingSteps.{IsPlacedBy, LiesWithin}
use Rattle.load_memory.proofs.KeptLayout.{room-free, room-inside, room-tables}
use Rattle.load_model.specs.Joined.{Asked}
use Rattle.load_model.specs.declared.module.Joining.{Joining}
use Rattle.load_model.specs.Definition.{Linkage}
use Rattle.load_model.specs.Image.{IsImage, IsPart, Placing}
use Rattle.load_map.specs.Maps.{map_at}
use Rattle.load_model.specs.Layout.{InMemory, LiesAt}
use Rattle.load_model.specs.Plan.{low_of, high_of}
use Rattle.load_model.specs.Unbound.{unbound_at_first}
use Rattle.load_process.specs.parts.TakenObjects.{IsTaken}
use Rattle.load_places.specs.parts.Placeable.{ArePlaceable, IsPlaceable}
use Rattle.load_places.proofs.ModuleLists.{own_pairs, zip_weaker}
use Rattle.load_state.specs.declared.plan.GroupPlan.{GroupPlan}
use Rattle.load_state.specs.Accepted.{IsPlan, linkage_for, placing_by}
use Rattle.load_state.specs.Consistent.{IsConsistent, IsEntryOf}
use Rattle.load_state.specs.Loaded.{Loaded, in_memory}
use Rattle.load_map.specs.Maps.{map_at}
use Rattle.fd_base.proofs.Members.{contains_at}
use Rattle.load_laws.proofs.NewNumbers.{own_numbers, sound_of}
use Rattle.load_places.specs.parts.Laws.{PlansArePlaceable}
use Rattle.load_places.proofs.PairedLists.{second_each, zip_gives}
use Rattle.load_places.proofs.NewSegments.{free_at, new_apart, new_entries, new_modules_apart, old_apart}

module _ (l : Loaded) (files : Option Files) (root : List ℕ) (asked : Asked) (plan : GroupPlan) (consistent : IsConsistent l)
    (planned : IsPlan l.modules files root asked plan) (taken : All (λ j. IsTaken j.object) plan.joining) where
  abbrev mods : InMemory
  mods = in_memory l.modules.process l.modules.maps

  abbrev k : Linkage
  k = linkage_for l.modules plan.joining plan.scope

  abbrev p : Placing
  p = placing_by l.modules.process l.modules.addrs plan.joining plan.maps plan.adopted plan.given

  within : (j : Joining) → Contains plan.joining j → All (LiesWithin (low_of l.modules.plan) (high_of l.modules.plan)) (map_at plan.maps j.number)
  within j there =
      second_each (IsEntryOf l.modules.plan) (LiesWithin (low_of l.modules.plan) (high_of l.modules.plan)) (λ s e entry. (entry.above, entry.below))
      j.object.segments (map_at plan.maps j.number)
      (new_entries l files root asked plan consistent planned taken j there)

  meets_no_old : (j : Joining) → Contains plan.joining j → (m : ℕ) (s : Segment) (d : MapEntry) → LiesAt mods m s d
      → All (PlacedApart d) (map_at plan.maps j.number)
  meets_no_old j there m s d lies =
      old_apart l files root asked plan consistent planned taken m lies.object' d j lies.live (contains_at (map_at l.modules.maps m) lies.k d lies.entry) there

  placeable : (j : Joining) (parts : List (List ℕ)) → Contains plan.joining j → IsImage k p j.number j.object (unbound_at_first plan.lazy j.object) (map_at plan.maps j.number) parts
      → IsPlaceable l.memory plan.maps j parts
  placeable j parts there image =
      let es = map_at plan.maps j.number in
      record {
        number' = (free_at l files root asked plan consistent planned taken j there).0;
        sound = All-contains (λ i. IsSound i.object) plan.joining j (sound_of plan.joining taken) there;
        segments = zip_gives (IsEntryOf l.modules.plan) IsPlacedBy (λ s e entry. record { vaddr = entry.vaddr'; memsz = entry.memsz' }) j.object.segments es
            (new_entries l files root asked plan consistent planned taken j there);
        inside = room-inside l.modules.plan mods l.memory es consistent.fits consistent.laid_out (within j there);
        free = room-free l.modules.plan mods l.memory es consistent.fits consistent.laid_out (within j there) (meets_no_old j there);
        apart = new_apart l files root asked plan consistent planned taken j there;
        sizes = zip_gives (IsPart k p j.number j.object (unbound_at_first plan.lazy j.object)) (λ e part. length part ≡ e.memsz) (λ e part is. is.len) es parts image;
      }

  pub placeable_plan : ArePlaceable l.memory plan.joining plan.maps plan.parts
  placeable_plan = record {
    tables = room-tables l.modules.plan mods l.memory consistent.fits consistent.laid_out;
    each = zip_weaker (Contains plan.joining) (λ j parts. IsImage k p j.number j.object (unbound_at_first plan.lazy j.object) (map_at plan.maps j.number) parts) (IsPlaceable l.memory plan.maps)
        placeable plan.joining plan.parts (All-contains_itself plan.joining) planned.parts';
    numbers = own_numbers l.modules files root asked plan planned;
    apart = λ i n d lt below.
        new_modules_apart l files root asked plan consistent planned taken (get_or plan.joining i d) (get_or plan.joining n d)
        (λ is. own_pairs plan.joining (own_numbers l.modules files root asked plan planned) i n d lt below (sym is));
  }

pub placeable_lem : PlansArePlaceable
placeable_lem l files root asked plan consistent planned taken = placeable_plan l files root asked plan consistent planned taken
