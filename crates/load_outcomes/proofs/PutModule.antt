-- A memory in which one module more is placed.
use Rattle.std.proofs.Common.{◌≡◌, inl, inr, ℕ, ◌+◌, ◌-◌, ◌*◌, ◌<◌, ◌≤◌, ◌⊎◌, false, List, length, get_or, refl, ap, sym, subst, ◌∙◌, arith}
use Rattle.std.specs.Prelude.{All, replicate}
use Rattle.std.proofs.lemmas.Slice.Zip.{AllZip-long}
use Rattle.fd_base.specs.Ranges.{is_in}
use Rattle.fd_base.proofs.Ranges.{outside}
use Rattle.load_map.specs.declared.entry.MapEntry.{MapEntry}
use Rattle.load_map.specs.Image.{bytes_of_map}
use Rattle.load_map.proofs.Imaged.{length-bytes_of_map}
use Rattle.guest_mem.specs.Accesses.{with_bytes}
use Rattle.guest_mem.specs.Memory.{GuestMemory, IsMemory, byte_at}
use Rattle.guest_mem.specs.parts.Kept.{SameMap}
use Rattle.load_model.specs.declared.layout.TheConstants.{LOAD_MAP_SIZE}
use Rattle.load_model.specs.declared.module.Joining.{Joining}
use Rattle.symbol_scope.specs.declared.tables.TheConstants.{MAX_MODULES}
use Rattle.load_model.specs.Image.{load_map_at}
use Rattle.load_model.specs.Layout.{HasLoadMap, watched_ranges}
use Rattle.load_memory.specs.parts.PlacingSteps.{AreFilled, AreMapped}
use Rattle.load_memory.proofs.AddedModule.{laid_out_more}
use Rattle.load_memory.proofs.OtherAddresses.{kind_outside, watch_outside}
use Rattle.load_memory.proofs.PlacingSteps.{entries_below, entries_few, mapped_still, parts_now, rest_now, watchable_got, watchable_rels, watchable_slots}
use Rattle.load_memory.proofs.PutBytes.{put_clear-bytes, put_clear-map, put_clear-rest, put_clear-zeros}
use Rattle.load_places.proofs.AddedModules.{IsAdded}
use Rattle.load_places.proofs.NextModule.{IsNext}
use Rattle.load_outcomes.proofs.MappedSegments.{each_filled, each_mapped}
use Rattle.load_outcomes.proofs.WatchedMemory.{IsWatchedTo, ranges_watched}

pub same_memory : (m n : GuestMemory) → SameMap m n → IsMemory m → IsMemory n
same_memory m n same whole = record {
  kinds = ap length same.kinds ∙ whole.kinds ∙ sym same.size;
  marks = ap length same.marks ∙ whole.marks ∙ sym same.size;
  size = let small = whole.size in let size : length n.bytes ≡ length m.bytes = same.size in omega arith;
}

-- ---- the load map

-- the load map of a module stands in this memory, and all else is as it was
record IsMapPut (number : ℕ) (es : List MapEntry) (old now : GuestMemory) : Type 0 where
  load_map : HasLoadMap now number es
  rest : (a : ℕ) → is_in (load_map_at number) LOAD_MAP_SIZE a ≡ false → byte_at now a ≡ byte_at old a
  map : SameMap old now

map_is_put : (number : ℕ) (es : List MapEntry) (m n w : GuestMemory) → number < 64 → length es ≤ 8 → load_map_at MAX_MODULES ≤ length m.bytes
    → n ≡ with_bytes m (load_map_at number) (bytes_of_map es)
    → w ≡ with_bytes n (load_map_at number + length (bytes_of_map es)) (replicate (LOAD_MAP_SIZE - length (bytes_of_map es)) 0)
    → IsMapPut number es m w
map_is_put number es m n w below few room put clear =
    let at : ℕ = load_map_at number in
    let bytes : List ℕ = bytes_of_map es in
    let long : length bytes ≡ 4 + 12 * length es = length-bytes_of_map es in
    record {
      load_map = record {
        bytes = put_clear-bytes m n w at (at + length bytes) bytes (LOAD_MAP_SIZE - length bytes) put clear refl (omega arith);
        rest = put_clear-zeros m n w at (at + length bytes) bytes (LOAD_MAP_SIZE - length bytes) put clear refl (omega arith);
      };
      rest = λ a off.
          let out : (a < at) ⊎ (at + LOAD_MAP_SIZE ≤ a) = outside at LOAD_MAP_SIZE a off in
          put_clear-rest m n w at (at + length bytes) bytes (LOAD_MAP_SIZE - length bytes) put clear refl a
          (elim out [ inl before ↦ inl before | inr behind ↦ inr (omega arith) ]);
      map = put_clear-map m n w at (at + length bytes) bytes (LOAD_MAP_SIZE - length bytes) put clear refl;
    }

load_map_put : (number : ℕ) (es : List MapEntry) (m : GuestMemory) → number < 64 → length es ≤ 8 → load_map_at MAX_MODULES ≤ length m.bytes → (now : GuestMemory) × IsMapPut number es m now
load_map_put number es m below few room =
    let n : GuestMemory = with_bytes m (load_map_at number) (bytes_of_map es) in
    let w : GuestMemory = with_bytes n (load_map_at number + length (bytes_of_map es)) (replicate (LOAD_MAP_SIZE - length (bytes_of_map es)) 0) in
    (w, map_is_put number es m n w below few room refl refl)

-- what the bytes say of a load map
load_map_same : (number : ℕ) (es : List MapEntry) (m n : GuestMemory) → n.bytes ≡ m.bytes → HasLoadMap m number es → HasLoadMap n number es
load_map_same number es m n same has = record {
  bytes = λ i lt. ap (λ (xs : List ℕ). get_or xs (load_map_at number + i) 0) same ∙ has.bytes i lt;
  rest = λ i lt. ap (λ (xs : List ℕ). get_or xs (load_map_at number + length (bytes_of_map es) + i) 0) same ∙ has.rest i lt;
}

-- ---- the module

module _ (j : Joining) (es : List MapEntry) (parts : List (List ℕ)) (old : GuestMemory) (whole : IsMemory old) (next : IsNext old j es parts) where
  -- with its segments mapped and written, its load map, and what is watched
  module _ (m1 m2 m3 now : GuestMemory) (mapped : AreMapped j.object.segments es (length es) old m1) (bytes : m1.bytes ≡ old.bytes) (filled : AreFilled es parts (length es) m1 m2)
      (told : IsMapPut j.number es m2 m3) where
    still : AreMapped j.object.segments es (length es) old m3
    still = mapped_still j.object es next.sound next.segments old whole next.inside m1 m2 m3 mapped bytes filled.map told.map

    module _ (watch : IsWatchedTo (watched_ranges es j.object) m3 now) where
      added : IsAdded j es parts old now
      added = record {
        layout = λ plan mods new laid_out.
            laid_out_more mods j.number j.object es new plan old m3 now (length es) refl next.segments next.free laid_out still watch.watched
            (ap length watch.watched.bytes ∙ told.map.size ∙ filled.map.size ∙ ap length bytes) watch.whole;
        bytes = parts_now es parts j.number old m1 m2 m3 now next.number' next.inside bytes filled told.rest watch.watched.bytes
            (AllZip-long (λ (e : MapEntry) (part : List ℕ). length part ≡ e.memsz) es parts next.sizes);
        load_map = load_map_same j.number es m3 now watch.watched.bytes told.load_map;
        rest = rest_now es parts j.number old m1 m2 m3 now next.number' next.inside bytes filled told.rest watch.watched.bytes;
        kinds = λ a out. kind_outside j.object es next.sound next.segments a out old m3 now still watch.watched;
        watch = λ a out. watch_outside j.object es next.sound next.segments a out old m3 now still watch.watched;
        size = ap length watch.watched.bytes ∙ told.map.size ∙ filled.map.size ∙ ap length bytes;
      }

  pub module_put : (now : GuestMemory) × IsAdded j es parts old now × IsMemory now
  module_put =
      let o = j.object in
      let below : All (λ (e : MapEntry). e.addr + e.memsz ≤ length old.bytes) es = entries_below o es next.sound next.segments old whole next.inside in
      let first = each_mapped es next.apart old below o.segments next.segments whole (length es) (omega arith) in
      let m1 : GuestMemory = first.0 in
      let below1 : All (λ (e : MapEntry). e.addr + e.memsz ≤ length m1.bytes) es =
      subst (λ (xs : List ℕ). All (λ (e : MapEntry). e.addr + e.memsz ≤ length xs) es) (sym first.1.bytes) below in
      let second = each_filled es next.apart m1 below1 parts next.sizes (length es) (omega arith) in
      let m2 : GuestMemory = second.0 in
      let size : length m2.bytes ≡ length old.bytes = second.1.map.size ∙ ap length first.1.bytes in
      let tables : load_map_at MAX_MODULES ≤ length old.bytes = next.tables in
      let third = load_map_put j.number es m2 next.number' (entries_few o es next.sound next.segments) (omega arith) in
      let m3 : GuestMemory = third.0 in
      let whole2 : IsMemory m2 = same_memory m1 m2 second.1.map first.1.whole in
      let whole3 : IsMemory m3 = same_memory m2 m3 third.1.map whole2 in
      let last = ranges_watched o es m3 whole3
      (watchable_got o es next.sound next.segments old whole next.inside m1 m2 m3 first.1.mapped first.1.bytes second.1.map third.1.map)
      (watchable_rels o es next.sound next.segments old whole next.inside m1 m2 m3 first.1.mapped first.1.bytes second.1.map third.1.map)
      (watchable_slots o es next.sound next.segments old whole next.inside m1 m2 m3 first.1.mapped first.1.bytes second.1.map third.1.map) in
      (last.0, added m1 m2 m3 last.0 first.1.mapped first.1.bytes second.1 third.1 last.1, last.1.whole)
