use Rattle.std.proofs.Common.{◌≡◌, ◌+◌, ◌≤◌, List, ℕ, Some, length, get_or, refl, ap, ◌∙◌, arith}
use Rattle.std.specs.Prelude.{slice_get}
use Rattle.std.proofs.lemmas.List.Elements.{All-get_or}
use Rattle.std.proofs.lemmas.Option.{slice_get-get_or, slice_get_read}
use Rattle.std.proofs.lemmas.Slice.Zip.{AllZip-long}
use Rattle.load_map.specs.declared.entry.MapEntry.{MapEntry}
use Rattle.guest_mem.specs.Accesses.{with_bytes}
use Rattle.load_memory.proofs.PlacedSegments.{AreFilled-more}
use Rattle.load_memory.proofs.PairedLists.{zip_at}
use Rattle.load_memory.proofs.segments.write_parts.Goals as goal

pub bounds-parts-k : goal.bounds-parts-k
bounds-parts-k c = omega (arith, AllZip-long (λ (e : MapEntry) (part : List ℕ). length part ≡ e.memsz) c.args.load_map.now c.args.parts.now c.requires.parts)

pub fill_bytes-requires : goal.fill_bytes-requires
fill_bytes-requires c =
    let e : MapEntry = get_or c.args.load_map.now c.loop-k.k (record { addr = 0; vaddr = 0; memsz = 0 }) in
    let count : length c.args.parts.now ≡ length c.args.load_map.now = AllZip-long (λ (d : MapEntry) (part : List ℕ). length part ≡ d.memsz) c.args.load_map.now c.args.parts.now c.requires.parts in
    let inside : e.addr + e.memsz ≤ length c.args.guest.now.bytes =
    All-get_or (λ d. d.addr + d.memsz ≤ length c.args.guest.now.bytes) c.args.load_map.now c.loop-k.k (record { addr = 0; vaddr = 0; memsz = 0 }) c.loop-k-test.true c.requires.inside in
    let long : length c.index-parts-k.result ≡ e.memsz =
    zip_at (λ (d : MapEntry) (part : List ℕ). length part ≡ d.memsz) c.args.load_map.now c.args.parts.now c.loop-k.k e c.index-parts-k.result c.requires.parts
    (slice_get-get_or c.args.load_map.now c.loop-k.k (record { addr = 0; vaddr = 0; memsz = 0 }) c.loop-k-test.true)
    (slice_get_read c.args.parts.now (length c.args.parts.now) c.loop-k.k c.index-parts-k.result refl (omega arith) c.index-parts-k.is) in
    let same : length c.as_slice.result.now ≡ length c.index-parts-k.result = ap length c.as_slice.ensures in
    let size : length c.loop-k.guest.bytes ≡ length c.args.guest.now.bytes = c.loop-k.invariant.map.size in
    omega arith

pub loop-k-preserved : goal.loop-k-preserved
loop-k-preserved c =
    let e : MapEntry = get_or c.args.load_map.now c.loop-k.k (record { addr = 0; vaddr = 0; memsz = 0 }) in
    let count : length c.args.parts.now ≡ length c.args.load_map.now = AllZip-long (λ (d : MapEntry) (part : List ℕ). length part ≡ d.memsz) c.args.load_map.now c.args.parts.now c.requires.parts in
    let inside : e.addr + e.memsz ≤ length c.args.guest.now.bytes =
    All-get_or (λ d. d.addr + d.memsz ≤ length c.args.guest.now.bytes) c.args.load_map.now c.loop-k.k (record { addr = 0; vaddr = 0; memsz = 0 }) c.loop-k-test.true c.requires.inside in
    let at_part : slice_get c.args.parts.now c.loop-k.k ≡ Some c.index-parts-k.result =
    slice_get_read c.args.parts.now (length c.args.parts.now) c.loop-k.k c.index-parts-k.result refl (omega arith) c.index-parts-k.is in
    let at_entry : slice_get c.args.load_map.now c.loop-k.k ≡ Some e = slice_get-get_or c.args.load_map.now c.loop-k.k (record { addr = 0; vaddr = 0; memsz = 0 }) c.loop-k-test.true in
    let size : length c.loop-k.guest.bytes ≡ length c.args.guest.now.bytes = c.loop-k.invariant.map.size in
    AreFilled-more c.args.load_map.now c.requires.apart c.loop-k.k e at_entry c.args.parts.now c.args.guest.now c.loop-k.guest c.fill_bytes.new.guest c.index-parts-k.result at_part
    (zip_at (λ (d : MapEntry) (part : List ℕ). length part ≡ d.memsz) c.args.load_map.now c.args.parts.now c.loop-k.k e c.index-parts-k.result c.requires.parts at_entry at_part)
    (omega arith) (c.fill_bytes.ensures ∙ ap (λ (xs : List ℕ). with_bytes c.loop-k.guest e.addr xs) c.as_slice.ensures) c.loop-k.invariant
