-- A memory in which the segments of a module are mapped and written.
use Rattle.std.proofs.Common.{◌≡◌, ℕ, zero, suc, ◌+◌, ◌<◌, ◌≤◌, List, [], length, get_or, Some, refl, sym, subst, arith}
use Rattle.std.specs.Prelude.{All, AllPairs, slice_get}
use Rattle.std.specs.List.{AllZip}
use Rattle.std.proofs.lemmas.Option.{slice_get-get_or}
use Rattle.std.proofs.lemmas.Slice.Zip.{AllZip-long}
use Rattle.fd_base.proofs.Lists.{all_at}
use Rattle.load_map.specs.declared.entry.MapEntry.{MapEntry}
use Rattle.load_map.specs.Whole.{PlacedApart}
use Rattle.elf_model.specs.declared.object.Segment.{Segment}
use Rattle.guest_mem.specs.Accesses.{with_bytes}
use Rattle.guest_mem.specs.Memory.{GuestMemory, IsMemory}
use Rattle.guest_mem.specs.Ranges.{with_kind}
use Rattle.guest_mem.proofs.Ranged.{IsMemory-with_kind}
use Rattle.load_model.specs.Layout.{kind_of_segment}
use Rattle.load_memory.specs.parts.PlacingSteps.{AreFilled, AreMapped, IsPlacedBy}
use Rattle.load_memory.proofs.PairedLists.{zip_at, zip_right}
use Rattle.load_memory.proofs.PlacedSegments.{AreFilled-more, AreMapped-more}

-- some entry
abbrev no_entry : MapEntry
no_entry = record { addr = 0; vaddr = 0; memsz = 0 }

module _ (es : List MapEntry) (apart : AllPairs PlacedApart es) (old : GuestMemory) (inside : All (λ (e : MapEntry). e.addr + e.memsz ≤ length old.bytes) es) where
  entry_at : (n : ℕ) → n < length es → slice_get es n ≡ Some (get_or es n no_entry)
  entry_at n lt = slice_get-get_or es n no_entry lt

  entry_inside : (n : ℕ) → n < length es → (get_or es n no_entry).addr + (get_or es n no_entry).memsz ≤ length old.bytes
  entry_inside n lt = all_at (λ (e : MapEntry). e.addr + e.memsz ≤ length old.bytes) es n (get_or es n no_entry) inside (entry_at n lt)

  module _ (ss : List Segment) (same : AllZip IsPlacedBy ss es) where
    -- the first n segments are mapped in this memory
    pub record IsMappedTo (n : ℕ) (m : GuestMemory) : Type 0 where
      pub mapped : AreMapped ss es n old m
      pub bytes : m.bytes ≡ old.bytes
      pub whole : IsMemory m

    none_mapped : IsMemory old → IsMappedTo 0 old
    none_mapped whole = record {
      mapped = record {
        kinds = λ k a s e lt segment entry there. absurd (omega arith);
        marks = λ k a e lt entry there. absurd (omega arith);
        other_kinds = λ a out. refl;
        other_marks = λ a out. refl;
      };
      bytes = refl;
      whole = whole;
    }

    one_mapped : (n : ℕ) (m : GuestMemory) → n < length es → IsMappedTo n m → (now : GuestMemory) × IsMappedTo (suc n) now
    one_mapped n m lt before =
        let e : MapEntry = get_or es n no_entry in
        let segment = zip_right IsPlacedBy ss es n e same (entry_at n lt) in
        let kind = Some (kind_of_segment segment.0) in
        let now : GuestMemory = with_kind m e.addr e.memsz kind in
        let within : e.addr + e.memsz ≤ length m.bytes = subst (λ xs. e.addr + e.memsz ≤ length xs) (sym before.bytes) (entry_inside n lt) in
        let next : n + 1 ≡ suc n = omega arith in (
          now,
          record {
            mapped = subst (λ k. AreMapped ss es k old now) next (AreMapped-more es apart n e (entry_at n lt) ss old m now segment.0 segment.1 within before.whole refl before.mapped);
            bytes = before.bytes;
            whole = IsMemory-with_kind m e.addr e.memsz kind before.whole;
          },
        )

    pub each_mapped : IsMemory old → (n : ℕ) → n ≤ length es → (m : GuestMemory) × IsMappedTo n m
    each_mapped whole zero le = (old, none_mapped whole)
    each_mapped whole (suc n) le = let before = each_mapped whole n (omega arith) in one_mapped n before.0 (omega arith) before.1

  module _ (parts : List (List ℕ)) (sizes : AllZip (λ (e : MapEntry) (part : List ℕ). length part ≡ e.memsz) es parts) where
    none_filled : AreFilled es parts 0 old old
    none_filled = record {
      map = record { kinds = refl; marks = refl; size = refl };
      bytes = λ k i e part lt entry at within. absurd (omega arith);
      other_bytes = λ a out. refl;
    }

    one_filled : (n : ℕ) (m : GuestMemory) → n < length es → AreFilled es parts n old m → (now : GuestMemory) × AreFilled es parts (suc n) old now
    one_filled n m lt before =
        let e : MapEntry = get_or es n no_entry in
        let count : length parts ≡ length es = AllZip-long (λ (d : MapEntry) (part : List ℕ). length part ≡ d.memsz) es parts sizes in
        let part : List ℕ = get_or parts n [] in
        let at : slice_get parts n ≡ Some part = slice_get-get_or parts n [] (omega arith) in
        let long : length part ≡ e.memsz = zip_at (λ (d : MapEntry) (bytes : List ℕ). length bytes ≡ d.memsz) es parts n e part sizes (entry_at n lt) at in
        let now : GuestMemory = with_bytes m e.addr part in
        let size : length m.bytes ≡ length old.bytes = before.map.size in
        let fits : e.addr + e.memsz ≤ length old.bytes = entry_inside n lt in
        let within : e.addr + e.memsz ≤ length m.bytes = omega arith in
        let next : n + 1 ≡ suc n = omega arith in
        (now, subst (λ k. AreFilled es parts k old now) next (AreFilled-more es apart n e (entry_at n lt) parts old m now part at long within refl before))

    pub each_filled : (n : ℕ) → n ≤ length es → (m : GuestMemory) × AreFilled es parts n old m
    each_filled zero le = (old, none_filled)
    each_filled (suc n) le = let before = each_filled n (omega arith) in one_filled n before.0 (omega arith) before.1
