-- The steps by which a module is placed: what each may rely on.
use Rattle.std.proofs.Common.{◌≡◌, ℕ, ◌+◌, ◌<◌, ◌≤◌, inr, true, false, List, [], ◌++◌, length, get_or, refl, ap, subst, ◌∙◌, arith}
use Rattle.std.specs.Prelude.{All, slice_index, map, unwrap_or}
use Rattle.std.specs.List.{AllZip}
use Rattle.std.proofs.lemmas.List.Elements.{All-head, All-tail, All-weaker}
use Rattle.std.proofs.lemmas.Option.{slice_get_within}
use Rattle.std.proofs.lemmas.Slice.Zip.{AllZip-long}
use Rattle.load_map.specs.declared.entry.MapEntry.{MapEntry}
use Rattle.elf_model.specs.declared.constants.TheConstants.{R_ARM_FUNCDESC_VALUE}
use Rattle.elf_model.specs.declared.object.Object.{Object}
use Rattle.elf_model.specs.declared.object.Rel.{Rel}
use Rattle.elf_model.specs.Places.{is_writable_in, site_of_rel}
use Rattle.elf_model.specs.Relocations.{site_size, word_site, got_header}
use Rattle.elf_model.specs.Sound.{IsSound, IsInPlace}
use Rattle.guest_mem.specs.Memory.{GuestMemory, IsMemory, byte_at}
use Rattle.guest_mem.specs.parts.Kept.{SameMap}
use Rattle.load_map.specs.parts.IsLoadMap.{EndsBelow}
use Rattle.load_model.specs.declared.layout.TheConstants.{LOAD_MAP_SIZE}
use Rattle.symbol_scope.specs.declared.tables.TheConstants.{MAX_MODULES}
use Rattle.load_model.specs.Image.{load_map_at}
use Rattle.fd_base.specs.Ranges.{is_in}
use Rattle.load_memory.specs.parts.PlacingSteps.{AreMapped, AreFilled, IsPlacedBy, LiesWithin}
use Rattle.load_memory.specs.parts.WatchedRanges.{IsWatchable}
use Rattle.fd_base.proofs.Lists.{all_unmapped, all_back, all_front, all_at}
use Rattle.fd_base.proofs.Ranges.{is_outside}
use Rattle.load_memory.proofs.Watchable.{ends_below, watchable, AreMapped-same}
use Rattle.load_memory.proofs.PairedLists.{zip_from}

SameMap-then : (a b c : GuestMemory) → SameMap a b → SameMap b c → SameMap a c
SameMap-then a b c p q = record { kinds = q.kinds ∙ p.kinds; marks = q.marks ∙ p.marks; size = q.size ∙ p.size }

-- ---- what loading fills lies in writable segments

module _ (o : Object) (sound : IsSound o) where
  pub got_in_place : IsInPlace o.segments (got_header o.got)
  got_in_place = All-head (IsInPlace o.segments) (got_header o.got) (map site_of_rel o.rels ++ map site_of_rel o.jmprels ++ map word_site (unwrap_or o.fixups [])) sound.in_place

  sites_in_place : All (IsInPlace o.segments) (map site_of_rel o.rels ++ map site_of_rel o.jmprels)
  sites_in_place =
      all_front (IsInPlace o.segments) (map site_of_rel o.rels ++ map site_of_rel o.jmprels) (map word_site (unwrap_or o.fixups []))
      (All-tail (IsInPlace o.segments) (got_header o.got) (map site_of_rel o.rels ++ map site_of_rel o.jmprels ++ map word_site (unwrap_or o.fixups [])) sound.in_place)

  pub rels_in_place : All (λ (r : Rel). IsInPlace o.segments (site_of_rel r)) o.rels
  rels_in_place = all_unmapped (IsInPlace o.segments) site_of_rel o.rels (all_front (IsInPlace o.segments) (map site_of_rel o.rels) (map site_of_rel o.jmprels) sites_in_place)

  pub slots_in_place : All (λ (r : Rel). IsInPlace o.segments (site_of_rel r)) o.jmprels
  slots_in_place = all_unmapped (IsInPlace o.segments) site_of_rel o.jmprels (all_back (IsInPlace o.segments) (map site_of_rel o.rels) (map site_of_rel o.jmprels) sites_in_place)

-- ---- the steps

module _ (o : Object) (es : List MapEntry) (sound : IsSound o) (same : AllZip IsPlacedBy o.segments es) where
  pub entries_count : length es ≡ length o.segments
  entries_count = AllZip-long IsPlacedBy o.segments es same

  pub entries_few : length es ≤ 8
  entries_few = let few : length o.segments ≤ 8 = sound.few in let count : length es ≡ length o.segments = entries_count in omega arith

  module _ (old : GuestMemory) (whole : IsMemory old) (inside : All (LiesWithin (load_map_at MAX_MODULES) (length old.bytes)) es) where
    pub entries_below : All (λ (e : MapEntry). e.addr + e.memsz ≤ length old.bytes) es
    entries_below = All-weaker (LiesWithin (load_map_at MAX_MODULES) (length old.bytes)) (λ (e : MapEntry). e.addr + e.memsz ≤ length old.bytes) (λ e p. p.1) es inside

    pub entries_end : All EndsBelow es
    entries_end = ends_below es (length old.bytes) entries_below whole.size

    module _ (m1 m2 m3 : GuestMemory) (mapped : AreMapped o.segments es (length es) old m1) (bytes : m1.bytes ≡ old.bytes) (filled : SameMap m1 m2) (told : SameMap m2 m3) where
      pub mapped_still : AreMapped o.segments es (length es) old m3
      mapped_still = AreMapped-same o.segments es (length es) old m1 m3 mapped (SameMap-then m1 m2 m3 filled told)

      pub size_still : length m3.bytes ≡ length old.bytes
      size_still = told.size ∙ filled.size ∙ ap length bytes

      room_still : All (λ (e : MapEntry). e.addr + e.memsz ≤ length m3.bytes) es
      room_still = let size : length m3.bytes ≡ length old.bytes = size_still in All-weaker (LiesWithin (load_map_at MAX_MODULES) (length old.bytes)) (λ (e : MapEntry). e.addr + e.memsz ≤ length m3.bytes) (λ e p. omega arith) es inside

      pub watchable_at : (v len : ℕ) → 0 < len → is_writable_in o.segments v len ≡ true → IsWatchable o.segments es m3 v len
      watchable_at v len some writable = watchable o.segments es (length es) v len old m3 same sound.apart some writable refl mapped_still room_still

      pub watchable_got : IsWatchable o.segments es m3 o.got 12
      watchable_got = watchable_at o.got 12 (omega arith) (got_in_place o sound).writable

      watchable_pairs : (rels : List Rel) → All (λ (r : Rel). IsInPlace o.segments (site_of_rel r)) rels → All (λ (r : Rel). r.kind ≡ R_ARM_FUNCDESC_VALUE → IsWatchable o.segments es m3 r.site 8) rels
      watchable_pairs rels in_place =
          All-weaker (λ (r : Rel). IsInPlace o.segments (site_of_rel r)) (λ (r : Rel). r.kind ≡ R_ARM_FUNCDESC_VALUE → IsWatchable o.segments es m3 r.site 8)
          (λ r p kind. watchable_at r.site 8 (omega arith) (subst (λ n. is_writable_in o.segments r.site n ≡ true) (ap site_size kind) p.writable)) rels in_place

      pub watchable_rels : All (λ (r : Rel). r.kind ≡ R_ARM_FUNCDESC_VALUE → IsWatchable o.segments es m3 r.site 8) o.rels
      watchable_rels = watchable_pairs o.rels (rels_in_place o sound)

      pub watchable_slots : All (λ (r : Rel). r.kind ≡ R_ARM_FUNCDESC_VALUE → IsWatchable o.segments es m3 r.site 8) o.jmprels
      watchable_slots = watchable_pairs o.jmprels (slots_in_place o sound)

-- ---- bytes

module _ (es : List MapEntry) (parts : List (List ℕ)) (number : ℕ) (old m1 m2 m3 now : GuestMemory) (below : number < 64) (inside : All (LiesWithin (load_map_at MAX_MODULES) (length old.bytes)) es)
    (mapped : m1.bytes ≡ old.bytes) (filled : AreFilled es parts (length es) m1 m2)
    (told : (a : ℕ) → is_in (load_map_at number) LOAD_MAP_SIZE a ≡ false → byte_at m3 a ≡ byte_at m2 a) (watched : now.bytes ≡ m3.bytes) where
  byte_now : (a : ℕ) → is_in (load_map_at number) LOAD_MAP_SIZE a ≡ false → byte_at now a ≡ byte_at m2 a
  byte_now a out = ap (λ (xs : List ℕ). get_or xs a 0) watched ∙ told a out

  -- the load maps lie below the segments
  above_tables : (e : MapEntry) (i : ℕ) → load_map_at MAX_MODULES ≤ e.addr → is_in (load_map_at number) LOAD_MAP_SIZE (e.addr + i) ≡ false
  above_tables e i above = is_outside (load_map_at number) LOAD_MAP_SIZE (e.addr + i) (inr (omega arith))

  pub parts_now : length parts ≡ length es → AllZip (λ (e : MapEntry) (part : List ℕ). (i : ℕ) → i < e.memsz → byte_at now (e.addr + i) ≡ slice_index part i) es parts
  parts_now count =
      zip_from (λ (e : MapEntry) (part : List ℕ). (i : ℕ) → i < e.memsz → byte_at now (e.addr + i) ≡ slice_index part i) es parts count
      (λ k e part p q i l. byte_now (e.addr + i) (above_tables e i (all_at (LiesWithin (load_map_at MAX_MODULES) (length old.bytes)) es k e inside p).0) ∙ filled.bytes k i e part (slice_get_within es k e p) p q l)

  pub rest_now : (a : ℕ) → All (λ (e : MapEntry). is_in e.addr e.memsz a ≡ false) es → is_in (load_map_at number) LOAD_MAP_SIZE a ≡ false → byte_at now a ≡ byte_at old a
  rest_now a outside out =
      byte_now a out ∙ filled.other_bytes a (λ k e l p. all_at (λ (x : MapEntry). is_in x.addr x.memsz a ≡ false) es k e outside p) ∙ ap (λ (xs : List ℕ). get_or xs a 0) mapped
