-- The modules of a consistent loader are placed.
use Rattle.std.proofs.Common.{◌≡◌, ℕ, ◌+◌, ◌^◌, ◌<◌, List, [], ◌∷◌, Option, Some, None, All, refl, sym, subst, arith}
use Rattle.std.specs.List.{AllZip}
use Rattle.std.proofs.lemmas.List.Elements.{All-cons, All-head, All-nil, All-tail}
use Rattle.load_map.specs.declared.entry.MapEntry.{MapEntry}
use Rattle.elf_model.specs.declared.object.Object.{Object}
use Rattle.elf_model.specs.declared.object.Segment.{Segment}
use Rattle.elf_model.specs.Sound.{IsSized}
use Rattle.load_map.specs.parts.IsLoadMap.{EndsInside}
use Rattle.load_model.specs.declared.plan.MemPlan.{MemPlan}
use Rattle.load_model.specs.Plan.{high_of}
use Rattle.load_model.specs.Process.{object_at}
use Rattle.load_state.specs.Consistent.{HasModules, IsEntryOf}
use Rattle.load_state.specs.Loaded.{Loaded}
use Rattle.load_map.specs.Maps.{map_at}
use Rattle.placed_code.specs.parts.PlacedLaws.{ConsistentArePlaced}

high_below : (plan : MemPlan) → plan.memory < 2 ^ 32 → high_of plan < 2 ^ 32
high_below plan small = omega arith

entry_ends : (plan : MemPlan) (s : Segment) (e : MapEntry) → plan.memory < 2 ^ 32 → IsSized s → IsEntryOf plan s e → EndsInside e
entry_ends plan s e small sized entry =
    let linked : s.vaddr + s.memsz < 2 ^ 32 = sized.end in
    let high : high_of plan < 2 ^ 32 = high_below plan small in
    (omega (arith, entry.vaddr', entry.memsz'), omega (arith, entry.below))

ends : (plan : MemPlan) (ss : List Segment) (es : List MapEntry) → plan.memory < 2 ^ 32 → All IsSized ss → AllZip (IsEntryOf plan) ss es → All EndsInside es
ends plan [] [] small sized all = All-nil EndsInside
ends plan [] (e ∷ es) small sized all = absurd all
ends plan (s ∷ ss) [] small sized all = absurd all
ends plan (s ∷ ss) (e ∷ es) small sized all =
    All-cons EndsInside e es (entry_ends plan s e small (All-head IsSized s ss sized) all.0) (ends plan ss es small (All-tail IsSized s ss sized) all.1)

map_ends : (l : Loaded) (m : ℕ) (o : Option Object) → object_at l.modules.process m ≡ o → HasModules l.modules → l.modules.plan.memory < 2 ^ 32 → All EndsInside (map_at l.modules.maps m)
map_ends l m None none mods small = subst (All EndsInside) (sym (mods.others m none)) (All-nil EndsInside)
map_ends l m (Some o) live mods small =
    let standing = mods.standing m o live in
    ends l.modules.plan o.segments (map_at l.modules.maps m) small standing.sound.sized standing.mapped

pub consistent_are_placed : ConsistentArePlaced
consistent_are_placed l h small = record {
  few = omega (arith, h.valid.modules');
  sound = λ m o live. (h.modules'.standing m o live).sound;
  ends = λ m. map_ends l m (object_at l.modules.process m) refl h.modules' small;
}
