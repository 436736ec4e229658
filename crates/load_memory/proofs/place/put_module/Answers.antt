use Rattle.std.proofs.Common.{◌≡◌, ℕ, List, length, refl, ap, sym, subst, ◌∙◌}
use Rattle.std.proofs.lemmas.Slice.Zip.{AllZip-long}
use Rattle.load_map.specs.declared.entry.MapEntry.{MapEntry}
use Rattle.elf_model.specs.declared.object.Segment.{Segment}
use Rattle.load_memory.specs.parts.PlacingSteps.{AreMapped}
use Rattle.load_memory.proofs.AddedModule.{laid_out_more}
use Rattle.load_memory.proofs.OtherAddresses.{kind_outside, watch_outside}
use Rattle.load_memory.proofs.PlacingSteps.{entries_count, entries_few, entries_end, mapped_still, watchable_got, watchable_rels, watchable_slots, parts_now, rest_now}
use Rattle.load_memory.proofs.place.put_module.Goals as goal

pub map_segments-requires-clause-count : goal.map_segments-requires-clause-count
map_segments-requires-clause-count c = entries_count c.args.object.now c.args.load_map.now c.requires.sound c.requires.segments ∙ sym (ap length c.as_slice.ensures)

pub put_load_map-requires-clause-few : goal.put_load_map-requires-clause-few
put_load_map-requires-clause-few c = entries_few c.args.object.now c.args.load_map.now c.requires.sound c.requires.segments

pub watch_ranges-requires-clause-ends : goal.watch_ranges-requires-clause-ends
watch_ranges-requires-clause-ends c = entries_end c.args.object.now c.args.load_map.now c.requires.sound c.requires.segments c.args.guest.now c.whole.ensures.whole c.requires.inside

pub watch_ranges-requires-clause-got : goal.watch_ranges-requires-clause-got
watch_ranges-requires-clause-got c =
    watchable_got c.args.object.now c.args.load_map.now c.requires.sound c.requires.segments c.args.guest.now c.whole.ensures.whole c.requires.inside c.map_segments.new.guest c.write_parts.new.guest c.put_load_map.new.guest
    (subst (λ (ss : List Segment). AreMapped ss c.args.load_map.now (length c.args.load_map.now) c.args.guest.now c.map_segments.new.guest) c.as_slice.ensures c.map_segments.ensures.mapped)
    c.map_segments.ensures.bytes c.write_parts.ensures.map c.put_load_map.ensures.map

pub watch_ranges-requires-clause-rels : goal.watch_ranges-requires-clause-rels
watch_ranges-requires-clause-rels c =
    watchable_rels c.args.object.now c.args.load_map.now c.requires.sound c.requires.segments c.args.guest.now c.whole.ensures.whole c.requires.inside c.map_segments.new.guest c.write_parts.new.guest c.put_load_map.new.guest
    (subst (λ (ss : List Segment). AreMapped ss c.args.load_map.now (length c.args.load_map.now) c.args.guest.now c.map_segments.new.guest) c.as_slice.ensures c.map_segments.ensures.mapped)
    c.map_segments.ensures.bytes c.write_parts.ensures.map c.put_load_map.ensures.map

pub watch_ranges-requires-clause-slots : goal.watch_ranges-requires-clause-slots
watch_ranges-requires-clause-slots c =
    watchable_slots c.args.object.now c.args.load_map.now c.requires.sound c.requires.segments c.args.guest.now c.whole.ensures.whole c.requires.inside c.map_segments.new.guest c.write_parts.new.guest c.put_load_map.new.guest
    (subst (λ (ss : List Segment). AreMapped ss c.args.load_map.now (length c.args.load_map.now) c.args.guest.now c.map_segments.new.guest) c.as_slice.ensures c.map_segments.ensures.mapped)
    c.map_segments.ensures.bytes c.write_parts.ensures.map c.put_load_map.ensures.map

pub returns-clause-layout : goal.returns-clause-layout
returns-clause-layout c = λ plan mods new laid_out.
    let mapped =
    mapped_still c.args.object.now c.args.load_map.now c.requires.sound c.requires.segments c.args.guest.now c.whole.ensures.whole c.requires.inside c.map_segments.new.guest c.write_parts.new.guest c.put_load_map.new.guest
    (subst (λ (ss : List Segment). AreMapped ss c.args.load_map.now (length c.args.load_map.now) c.args.guest.now c.map_segments.new.guest) c.as_slice.ensures c.map_segments.ensures.mapped)
    c.map_segments.ensures.bytes c.write_parts.ensures.map c.put_load_map.ensures.map in
    laid_out_more mods c.args.number c.args.object.now c.args.load_map.now new plan c.args.guest.now c.put_load_map.new.guest c.watch_ranges.new.guest (length c.args.load_map.now) refl c.requires.segments c.requires.free laid_out mapped
    c.watch_ranges.ensures (ap length c.watch_ranges.ensures.bytes ∙ c.put_load_map.ensures.map.size ∙ c.write_parts.ensures.map.size ∙ ap length c.map_segments.ensures.bytes) c.whole-2.ensures.whole

pub returns-clause-bytes : goal.returns-clause-bytes
returns-clause-bytes c =
    parts_now c.args.load_map.now c.args.parts.now c.args.number c.args.guest.now c.map_segments.new.guest c.write_parts.new.guest c.put_load_map.new.guest c.watch_ranges.new.guest c.requires.number c.requires.inside
    c.map_segments.ensures.bytes c.write_parts.ensures c.put_load_map.ensures.rest c.watch_ranges.ensures.bytes (AllZip-long (λ (e : MapEntry) (part : List ℕ). length part ≡ e.memsz) c.args.load_map.now c.args.parts.now c.requires.parts)

pub returns-clause-rest : goal.returns-clause-rest
returns-clause-rest c =
    rest_now c.args.load_map.now c.args.parts.now c.args.number c.args.guest.now c.map_segments.new.guest c.write_parts.new.guest c.put_load_map.new.guest c.watch_ranges.new.guest c.requires.number c.requires.inside
    c.map_segments.ensures.bytes c.write_parts.ensures c.put_load_map.ensures.rest c.watch_ranges.ensures.bytes

pub returns-clause-kinds : goal.returns-clause-kinds
returns-clause-kinds c = λ a out.
    let mapped =
    mapped_still c.args.object.now c.args.load_map.now c.requires.sound c.requires.segments c.args.guest.now c.whole.ensures.whole c.requires.inside c.map_segments.new.guest c.write_parts.new.guest c.put_load_map.new.guest
    (subst (λ (ss : List Segment). AreMapped ss c.args.load_map.now (length c.args.load_map.now) c.args.guest.now c.map_segments.new.guest) c.as_slice.ensures c.map_segments.ensures.mapped)
    c.map_segments.ensures.bytes c.write_parts.ensures.map c.put_load_map.ensures.map in
    kind_outside c.args.object.now c.args.load_map.now c.requires.sound c.requires.segments a out c.args.guest.now c.put_load_map.new.guest c.watch_ranges.new.guest mapped c.watch_ranges.ensures

pub returns-clause-watch : goal.returns-clause-watch
returns-clause-watch c = λ a out.
    let mapped =
    mapped_still c.args.object.now c.args.load_map.now c.requires.sound c.requires.segments c.args.guest.now c.whole.ensures.whole c.requires.inside c.map_segments.new.guest c.write_parts.new.guest c.put_load_map.new.guest
    (subst (λ (ss : List Segment). AreMapped ss c.args.load_map.now (length c.args.load_map.now) c.args.guest.now c.map_segments.new.guest) c.as_slice.ensures c.map_segments.ensures.mapped)
    c.map_segments.ensures.bytes c.write_parts.ensures.map c.put_load_map.ensures.map in
    watch_outside c.args.object.now c.args.load_map.now c.requires.sound c.requires.segments a out c.args.guest.now c.put_load_map.new.guest c.watch_ranges.new.guest mapped c.watch_ranges.ensures
