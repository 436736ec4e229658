use Rattle.std.proofs.Common.{◌≡◌, ◌+◌, ◌≤◌, Some, None, length, get_or, ap, sym, subst, ◌∙◌, arith}
use Rattle.std.proofs.lemmas.List.Elements.{All-get_or}
use Rattle.std.proofs.lemmas.Option.{slice_get-get_or, slice_get_read}
use Rattle.load_map.specs.declared.entry.MapEntry.{MapEntry}
use Rattle.guest_mem.specs.Memory.{GuestMemory, IsMemory, HaveKind}
use Rattle.guest_mem.specs.Ranges.{with_kind}
use Rattle.guest_mem.proofs.Ranged.{IsMemory-with_kind}
use Rattle.load_memory.proofs.PlacedSegments.{AreMapped-more, AreMapped-free}
use Rattle.load_memory.proofs.segments.map_segments.Goals as goal

pub map-requires-clause-free : goal.map-requires-clause-free
map-requires-clause-free c =
    AreMapped-free c.args.load_map.now c.requires.apart c.loop-i.i _ (slice_get-get_or c.args.load_map.now c.loop-i.i (record { addr = 0; vaddr = 0; memsz = 0 }) c.loop-i-test.true)
    c.args.segments.now c.args.guest.now c.loop-i.guest c.loop-i.invariant.mapped
    (All-get_or (λ e. HaveKind c.args.guest.now e.addr e.memsz None) c.args.load_map.now c.loop-i.i (record { addr = 0; vaddr = 0; memsz = 0 }) c.loop-i-test.true c.requires.free)

pub loop-i-preserved : goal.loop-i-preserved
loop-i-preserved c =
    let e : MapEntry = get_or c.args.load_map.now c.loop-i.i (record { addr = 0; vaddr = 0; memsz = 0 }) in
    let inside : e.addr + e.memsz ≤ length c.args.guest.now.bytes =
    All-get_or (λ d. d.addr + d.memsz ≤ length c.args.guest.now.bytes) c.args.load_map.now c.loop-i.i (record { addr = 0; vaddr = 0; memsz = 0 }) c.loop-i-test.true c.requires.inside in
    let size : length c.loop-i.guest.bytes ≡ length c.args.guest.now.bytes = ap length c.loop-i.invariant.bytes in
    record {
      mapped = AreMapped-more c.args.load_map.now c.requires.apart c.loop-i.i e (slice_get-get_or c.args.load_map.now c.loop-i.i (record { addr = 0; vaddr = 0; memsz = 0 }) c.loop-i-test.true)
          c.args.segments.now c.args.guest.now c.loop-i.guest c.map.new.self c.index-segments-i.result (slice_get_read c.args.segments.now (length c.args.load_map.now) c.loop-i.i c.index-segments-i.result c.requires.count c.loop-i-test.true c.index-segments-i.is)
          (omega arith) c.loop-i.invariant.whole (c.map.ensures ∙ ap (λ k. with_kind c.loop-i.guest e.addr e.memsz (Some k)) c.kind_of.ensures) c.loop-i.invariant.mapped;
      bytes = ap (λ (m : GuestMemory). m.bytes) c.map.ensures ∙ c.loop-i.invariant.bytes;
      whole = subst IsMemory (sym c.map.ensures) (IsMemory-with_kind c.loop-i.guest e.addr e.memsz (Some c.kind_of.result) c.loop-i.invariant.whole);
    }
