-- The tests of the program headers of a written object hold.
use Rattle.std.proofs.Common.{◌≡◌, ℕ, ◌+◌, ◌-◌, ◌<◌, ◌≤◌, zero, suc, inl, inr, true, false, not, ◌&&◌, List, [], ◌∷◌, ◌++◌, length, get_or, map, All, AllPairs, None, refl, sym, ap, ◌∙◌, subst, arith, length-append}
use Rattle.std.specs.Prelude.{nat_lt, nat_le, ◌==◌}
use Rattle.std.specs.List.{list_any, range_with_len}
use Rattle.std.proofs.lemmas.Bool.{le-ltb, lt-ltb, le-leb, lt-leb, ne_eqb, and_from, and_left, and_right, false≢true, cases_lt}
use Rattle.std.proofs.lemmas.List.Elements.{All-head, All-tail, All-nil, All-cons, All-append}
use Rattle.std.proofs.lemmas.List.Folds.{list_any_none}
use Rattle.std.proofs.lemmas.List.{get_or_append_left, get_or-append-add}
use Rattle.std.proofs.lemmas.List.FromFn.{length-map-range_with_len}
use Rattle.std.proofs.lemmas.List.Quantifiers.{all_pairs_push}
use Rattle.fd_base.proofs.Members.{all_contained, in_filter, in_map}
use Rattle.elf_model.proofs.RelSoundness.{below}
use Rattle.elf_model.specs.declared.constants.TheConstants.{PT_TLS, PT_LOAD, MAX_SEGMENTS, E_PHNUM}
use Rattle.elf_model.specs.declared.refusal.ElfKind.TheVariants as kind
use Rattle.elf_model.specs.declared.object.Object.{Object}
use Rattle.elf_model.specs.declared.object.Segment.{Segment}
use Rattle.elf_model.specs.declared.table.ProgramHeader.{ProgramHeader}
use Rattle.elf_model.specs.Test.{refuses, only_where, each_below, first_failing}
use Rattle.elf_model.specs.Header.{e_phnum}
use Rattle.elf_model.specs.Object.{all_segment_tests}
use Rattle.elf_model.specs.Segments.{header_offset, program_header, headers_below, loads_below, loads, is_load, is_in_range, memory_meets, program_header_tests, program_header_test, segment_tests, some_segment_tests}
use Rattle.elf_model.specs.Sound.{SegmentsApart}
use Rattle.elf_model.proofs.Passing.{both, passes, below_all, where_true}
use Rattle.elf_write.specs.declared.limits.TheConstants.{MAX_FILE_BYTES}
use Rattle.elf_write.specs.Words.{zeros}
use Rattle.elf_write.specs.TableSegment.{memory_end, table_segment, with_tables}
use Rattle.elf_write.specs.ObjectFile.{offset_of, end_of, contents, load_header, load_headers, headers_end, dynamic_header, program_headers, object_file}
use Rattle.elf_write.specs.WritableObject.{IsWritableObject}
use Rattle.write_laws.specs.ObjectReadBack.{FitsObjectFields}
use Rattle.write_laws.proofs.Holding.{Holds, front, behind, behind_at}
use Rattle.write_laws.proofs.Listing.{lists_at, filter_shorter}
use Rattle.write_laws.proofs.ObjectParts.{program_count, length-loads, padded}
use Rattle.write_laws.proofs.ProgramTests.{part, IsLoadable, loadable, phnum, programs, loads_read, program_at}

-- ---- the headers of segments

record IsLikeIn (h : ProgramHeader) (s : Segment) : Type 0 where
  pub kind : h.kind ≡ PT_LOAD
  pub vaddr : h.vaddr ≡ s.vaddr
  pub memsz : h.memsz ≡ s.memsz

like_at : (at : ℕ) (ss : List Segment) (k : ℕ) (d : ProgramHeader) (e : Segment) → k < length ss → IsLikeIn (get_or (load_headers at ss) k d) (get_or ss k e)
like_at at [] k d e lt = absurd (omega arith)
like_at at (s ∷ ss) zero d e lt = record { kind = refl; vaddr = refl; memsz = refl }
like_at at (s ∷ ss) (suc k) d e lt = like_at (end_of at s) ss k d e (omega (arith, lt))

apart_then : (a b : ProgramHeader) (s t : Segment) → IsLikeIn a s → IsLikeIn b t → SegmentsApart s t → memory_meets b a ≡ false
unfolding memory_meets
apart_then a b s t p q (inl le) =
    let v = p.vaddr in
    let m = p.memsz in
    let v' = q.vaddr in
    and_left (nat_lt b.vaddr (a.vaddr + a.memsz)) (nat_lt a.vaddr (b.vaddr + b.memsz)) (le-ltb b.vaddr (a.vaddr + a.memsz) (omega (arith, le, v, m, v')))
apart_then a b s t p q (inr le) =
    let v = q.vaddr in
    let m = q.memsz in
    let v' = p.vaddr in
    and_right (nat_lt b.vaddr (a.vaddr + a.memsz)) (nat_lt a.vaddr (b.vaddr + b.memsz)) (le-ltb a.vaddr (b.vaddr + b.memsz) (omega (arith, le, v, m, v')))

-- each lies in the file and ends below 2^32
ranges_fit : (bytes : List ℕ) (at : ℕ) (ss : List Segment) → Holds bytes at (contents at ss) → All IsLoadable ss → All (λ h. is_in_range h (length bytes) ≡ true) (load_headers at ss)
unfolding is_in_range
ranges_fit bytes at [] h all = All-nil (λ h. is_in_range h (length bytes) ≡ true)
ranges_fit bytes at (s ∷ ss) h all =
    let rest = contents (end_of at s) ss in
    let here = behind_at bytes at (offset_of at s) (zeros (offset_of at s - at)) (s.filled ++ rest) h (padded s.vaddr s.align at) in
    let filled = front bytes (offset_of at s) s.filled rest here in
    let one = (All-head IsLoadable s ss all).sized in
    All-cons (λ h. is_in_range h (length bytes) ≡ true) (load_header at s) (load_headers (end_of at s) ss)
    (and_from _ _ (le-leb _ _ filled.inside) (and_from _ _ (le-leb _ _ one.filled) (and_from _ _ (lt-ltb _ _ one.end) one.aligned)))
    (ranges_fit bytes (end_of at s) ss (behind bytes (offset_of at s) s.filled rest here) (All-tail IsLoadable s ss all))

below_end : (ss : List Segment) (k : ℕ) (d : Segment) → k < length ss → (get_or ss k d).vaddr + (get_or ss k d).memsz ≤ memory_end ss
below_end [] k d lt = absurd (omega arith)
below_end (s ∷ ss) zero d lt = omega arith
below_end (s ∷ ss) (suc k) d lt = let rest = below_end ss k d (omega (arith, lt)) in omega (arith, rest)

module _ (o : Object) (w : IsWritableObject o) (f : FitsObjectFields o) (short : length (object_file o) ≤ MAX_FILE_BYTES) where
  apart : AllPairs SegmentsApart (with_tables o).segments
  apart = all_pairs_push SegmentsApart o.segments (table_segment o) w.sound.apart (λ k d lt. let end = below_end o.segments k d lt in inl (omega (arith, end)))

  pub count : length (with_tables o).segments ≡ length o.segments + 1
  count = length-append o.segments (table_segment o ∷ [])

  header_is : (i : ℕ) (d : ProgramHeader) → i < e_phnum (object_file o) → program_header (object_file o) i ≡ get_or (program_headers o) i d
  header_is i d lt =
      let n = phnum o w f short in
      let m = program_count o in
      let e : i ≡ 0 + i = omega arith in
      ap (program_header (object_file o)) e ∙ lists_at (program_header (object_file o)) 0 (program_headers o) i d (programs o w f short) (omega (arith, n, m, lt))

  pub last_is : (i : ℕ) → i < e_phnum (object_file o) → i ≡ length (load_headers (headers_end o) (with_tables o).segments) + 0 → program_header (object_file o) i ≡ dynamic_header o
  last_is i lt is =
      header_is i (dynamic_header o) lt ∙ ap (λ k. get_or (program_headers o) k (dynamic_header o)) is
      ∙ get_or-append-add (load_headers (headers_end o) (with_tables o).segments) (dynamic_header o ∷ []) 0 (dynamic_header o)

  -- only the last is of no segment
  is_segment : (i : ℕ) → i < e_phnum (object_file o) → is_load (program_header (object_file o) i) ≡ true → i < length (with_tables o).segments
  is_segment i lt load =
      let n = phnum o w f short in
      let c = count in
      let l = length-loads (headers_end o) (with_tables o).segments in
      elim (cases_lt i (length (with_tables o).segments)) [
        | inl less ↦ less
        | inr ge ↦ absurd (false≢true (sym (ap is_load (last_is i lt (omega (arith, n, c, l, lt, ge)))) ∙ load))
      ]

  like : (i : ℕ) (d : Segment) → i < length (with_tables o).segments → IsLikeIn (program_header (object_file o) i) (get_or (with_tables o).segments i d)
  like i d lt =
      let n = phnum o w f short in
      let c = count in
      let l = length-loads (headers_end o) (with_tables o).segments in
      let within : i < e_phnum (object_file o) = omega (arith, n, c, lt) in
      let h = dynamic_header o in
      let front = get_or_append_left (load_headers (headers_end o) (with_tables o).segments) (dynamic_header o ∷ []) h i (omega (arith, l, lt)) in
      subst (λ (h : ProgramHeader). IsLikeIn h (get_or (with_tables o).segments i d)) (sym (header_is i h within ∙ front)) (like_at (headers_end o) (with_tables o).segments i h d lt)

  meets_none : (i : ℕ) → i < e_phnum (object_file o) → is_load (program_header (object_file o) i) ≡ true
      → list_any (λ e. memory_meets (program_header (object_file o) i) e) (loads_below (object_file o) i) ≡ false
  meets_none i lt load =
      let file = object_file o in
      let header = program_header file in
      let here = is_segment i lt load in
      list_any_none (λ e. memory_meets (header i) e) (loads_below file i) (all_contained (λ e. memory_meets (header i) e ≡ false) (loads_below file i) (λ e there.
      let kept = in_filter is_load (map header (range_with_len 0 i)) e there in
      let from = in_map header (range_with_len 0 i) e kept.0 in
      let before = below i from.0 from.1 in
      let d = table_segment o in
      let less : from.0 < length (with_tables o).segments = omega (arith, before, here) in
      subst (λ (e : ProgramHeader). memory_meets (header i) e ≡ false) from.2
      (apart_then (header from.0) (header i) (get_or (with_tables o).segments from.0 d) (get_or (with_tables o).segments i d) (like from.0 d less) (like i d here) (apart from.0 i d before here))))

  ranges : All (λ h. is_load h ≡ true → is_in_range h (length (object_file o)) ≡ true) (program_headers o)
  ranges =
      All-append (λ h. is_load h ≡ true → is_in_range h (length (object_file o)) ≡ true) (load_headers (headers_end o) (with_tables o).segments) (dynamic_header o ∷ [])
      (λ k d lt load. ranges_fit (object_file o) (headers_end o) (with_tables o).segments (part o w f short).filled (loadable o w f short) k d lt)
      (All-cons (λ h. is_load h ≡ true → is_in_range h (length (object_file o)) ≡ true) (dynamic_header o) [] (λ load. absurd (false≢true load)) (All-nil (λ h. is_load h ≡ true → is_in_range h (length (object_file o)) ≡ true)))

  kinds : (at : ℕ) (ss : List Segment) → All (λ h. (h.kind == PT_TLS) ≡ false) (load_headers at ss)
  kinds at [] = All-nil (λ h. (h.kind == PT_TLS) ≡ false)
  kinds at (s ∷ ss) = All-cons (λ h. (h.kind == PT_TLS) ≡ false) (load_header at s) (load_headers (end_of at s) ss) refl (kinds (end_of at s) ss)

  no_tls : All (λ h. (h.kind == PT_TLS) ≡ false) (program_headers o)
  no_tls =
      All-append (λ h. (h.kind == PT_TLS) ≡ false) (load_headers (headers_end o) (with_tables o).segments) (dynamic_header o ∷ []) (kinds (headers_end o) (with_tables o).segments)
      (All-cons (λ h. (h.kind == PT_TLS) ≡ false) (dynamic_header o) [] refl (All-nil (λ h. (h.kind == PT_TLS) ≡ false)))

  one_passes : (i : ℕ) → i < e_phnum (object_file o) → first_failing (program_header_test (object_file o) i) ≡ None
  unfolding program_header_tests
  one_passes i lt =
      let file = object_file o in
      let h = program_header file i in
      let at = header_offset file i in
      let earlier = loads_below file i in
      let tls : (h.kind == PT_TLS && nat_lt 0 h.memsz) ≡ false = and_left _ _ (program_at o w f short (λ h. (h.kind == PT_TLS) ≡ false) i no_tls lt) in
      passes (refuses kind.Tls at (h.kind == PT_TLS && nat_lt 0 h.memsz))
      (only_where (is_load h) (refuses kind.TooMany at (nat_le MAX_SEGMENTS (length earlier)) ∷ refuses kind.SegmentRange at (not (is_in_range h (length file))) ∷ refuses kind.SegmentOverlap at (list_any (λ e. memory_meets h e) earlier) ∷ []))
      tls
      (where_true (is_load h) (refuses kind.TooMany at (nat_le MAX_SEGMENTS (length earlier)) ∷ refuses kind.SegmentRange at (not (is_in_range h (length file))) ∷ refuses kind.SegmentOverlap at (list_any (λ e. memory_meets h e) earlier) ∷ []) (λ load.
      let room = w.room in
      let c = count in
      let here = is_segment i lt load in
      let fewer = filter_shorter is_load (headers_below file i) in
      let len = length-map-range_with_len (program_header file) 0 i in
      let many : nat_le MAX_SEGMENTS (length earlier) ≡ false = lt-leb _ _ (omega (arith, room, c, here, fewer, len)) in
      let range : is_in_range h (length file) ≡ true = program_at o w f short (λ h. is_load h ≡ true → is_in_range h (length file) ≡ true) i ranges lt load in
      rw (many, range, meets_none i lt load) refl))

  pub segments_pass : first_failing (all_segment_tests (object_file o)) ≡ None
  unfolding all_segment_tests segment_tests some_segment_tests
  segments_pass =
      let file = object_file o in
      let some : (length (loads file) == 0) ≡ false = ne_eqb _ _ (λ e. let r = ap length (loads_read o w f short) in let l = length-loads (headers_end o) (with_tables o).segments in let c = count in omega (arith, e, r, l, c)) in
      both (each_below (e_phnum file) (program_header_test file)) (refuses kind.Header E_PHNUM (length (loads file) == 0) ∷ []) (below_all (program_header_test file) (e_phnum file) one_passes) (rw some refl)
