-- Placed segments end below 2^32.
use Rattle.std.proofs.Common.{ℕ, ◌^◌, ◌<◌, inl, inr, List, [], Option, sym, subst, arith, All}
use Rattle.std.specs.List.{AllZip}
use Rattle.std.proofs.lemmas.List.{get_or_default}
use Rattle.std.proofs.lemmas.List.Elements.{All-nil}
use Rattle.load_map.specs.declared.entry.MapEntry.{MapEntry}
use Rattle.fd_base.specs.Fetched.{Files}
use Rattle.elf_model.specs.declared.object.Segment.{Segment}
use Rattle.load_map.specs.parts.IsLoadMap.{EndsBelow}
use Rattle.load_model.specs.Joined.{Asked}
use Rattle.load_model.specs.declared.plan.MemPlan.{MemPlan}
use Rattle.load_model.specs.Plan.{high_of}
use Rattle.load_model.specs.Process.{object_at}
use Rattle.load_process.specs.parts.TakenObjects.{IsTaken}
use Rattle.load_state.specs.declared.plan.GroupPlan.{GroupPlan}
use Rattle.load_state.specs.Accepted.{IsPlan}
use Rattle.load_state.specs.Consistent.{IsConsistent, HasModules, IsEntryOf}
use Rattle.load_state.specs.Loaded.{Loaded, LoadedModules}
use Rattle.load_map.specs.Maps.{map_at}
use Rattle.fd_base.proofs.Options.{none_or}
use Rattle.load_laws.proofs.RangesAfter.{joins_or_not}
use Rattle.load_places.specs.parts.Laws.{MapsEnd}
use Rattle.load_places.proofs.PairedLists.{second_each}
use Rattle.load_places.proofs.NewSegments.{map_left, new_entries}

high_below : (plan : MemPlan) → plan.memory < 2 ^ 32 → high_of plan < 2 ^ 32
high_below plan small = omega arith

ends : (plan : MemPlan) (ss : List Segment) (es : List MapEntry) → plan.memory < 2 ^ 32 → AllZip (IsEntryOf plan) ss es → All EndsBelow es
ends plan ss es small all = second_each (IsEntryOf plan) EndsBelow (λ s e entry. omega (arith, entry.below, high_below plan small)) ss es all

old_ends : (l : LoadedModules) (m : ℕ) → HasModules l → l.plan.memory < 2 ^ 32 → All EndsBelow (map_at l.maps m)
old_ends l m mods small =
    elim (none_or (object_at l.process m)) [
      | inl none ↦ subst (All EndsBelow) (sym (mods.others m none)) (All-nil EndsBelow)
      | inr some ↦ ends l.plan some.0.segments (map_at l.maps m) small (mods.standing m some.0 some.1).mapped
    ]

by_number : (maps : List (List MapEntry)) → ((m : ℕ) → All EndsBelow (map_at maps m)) → All (All EndsBelow) maps
by_number maps each m d lt = subst (All EndsBelow) (get_or_default maps m [] d lt) (each m)

pub maps_end_lem : MapsEnd
maps_end_lem = record {
  old = λ l mods small. by_number l.maps (λ m. old_ends l m mods small);
  new = λ l files root asked plan consistent planned taken small. by_number plan.maps (λ m. new_ends l files root asked plan consistent planned taken small m);
}
  where
    new_ends : (l : Loaded) (files : Option Files) (root : List ℕ) (asked : Asked) (plan : GroupPlan) → IsConsistent l → IsPlan l.modules files root asked plan
        → All (λ j. IsTaken j.object) plan.joining → l.modules.plan.memory < 2 ^ 32 → (m : ℕ) → All EndsBelow (map_at plan.maps m)
    new_ends l files root asked plan consistent planned taken small m =
        elim (joins_or_not plan.joining m) [
          | inl new ↦
              let j = new.0 in
              subst (λ (n : ℕ). All EndsBelow (map_at plan.maps n)) new.2
              (ends l.modules.plan j.object.segments (map_at plan.maps j.number) small (new_entries l files root asked plan consistent planned taken j new.1))
          | inr others ↦
              subst (All EndsBelow) (sym (map_left l files root asked plan consistent planned taken m others)) (old_ends l.modules m consistent.modules' small)
        ]
