-- The program headers of a written object: they are read, and their tests hold.
use Rattle.std.proofs.Common.{◌≡◌, ℕ, ◌+◌, ◌-◌, ◌*◌, ◌^◌, ◌<◌, ◌≤◌, true, false, List, [], ◌∷◌, ◌++◌, length, map, All, None, refl, sym, ap, ◌∙◌, subst, arith, append-nil}
use Rattle.std.specs.Prelude.{filter, ◌==◌}
use Rattle.std.proofs.lemmas.Bool.{le-ltb, ne_eqb}
use Rattle.std.proofs.lemmas.List.Elements.{All-head, All-tail, All-nil, All-cons, All-append, filter-append}
use Rattle.elf_model.specs.declared.constants.TheConstants.{EHDR_SIZE, PHDR_SIZE}
use Rattle.elf_model.specs.declared.object.Object.{Object}
use Rattle.elf_model.specs.declared.object.Segment.{Segment}
use Rattle.elf_model.specs.declared.table.ProgramHeader.{ProgramHeader}
use Rattle.elf_model.specs.Test.{first_failing}
use Rattle.elf_model.specs.Header.{e_phnum, e_phoff, passes_end, program_table_tests}
use Rattle.elf_model.specs.Segments.{header_offset, program_header, headers_below, loads, is_load, segment, segments}
use Rattle.elf_model.specs.Sound.{IsSized}
use Rattle.elf_write.specs.declared.limits.TheConstants.{MAX_FILE_BYTES}
use Rattle.elf_write.specs.Words.{program_row, table_bytes, zeros}
use Rattle.elf_write.specs.TableSegment.{table_segment, with_tables}
use Rattle.elf_write.specs.ObjectFile.{offset_of, end_of, contents, load_header, load_headers, header_count, headers_end, dynamic_header, program_headers, file_header, object_file}
use Rattle.elf_write.specs.WritableObject.{IsWritableObject}
use Rattle.write_laws.specs.ObjectReadBack.{FitsObjectFields}
use Rattle.write_laws.proofs.Holding.{Holds, front, behind, behind_at}
use Rattle.write_laws.proofs.Listing.{Lists, lists_map, lists_at, all_kept}
use Rattle.write_laws.proofs.Headers.{phoff_read, phnum_read, phentsize_read}
use Rattle.write_laws.proofs.ObjectParts.{ObjectStands, object_stands, program_count, padded}
use Rattle.write_laws.proofs.Programs.{IsProgramFit, programs_listed, segments_read, loads_pass}
use Rattle.write_laws.proofs.TableParts.{tables_stand, length-tables}

-- ---- loadable segments

-- what the program header of a segment needs to be read
pub record IsLoadable (s : Segment) : Type 0 where
  pub sized : IsSized s
  pub flags : s.flags < 2 ^ 32
  pub align : s.align ≤ 4096

loads_fit : (bytes : List ℕ) (at : ℕ) (ss : List Segment) → Holds bytes at (contents at ss) → length bytes < 2 ^ 32 → All IsLoadable ss → All IsProgramFit (load_headers at ss)
loads_fit bytes at [] h short all = All-nil IsProgramFit
loads_fit bytes at (s ∷ ss) h short all =
    let rest = contents (end_of at s) ss in
    let here = behind_at bytes at (offset_of at s) (zeros (offset_of at s - at)) (s.filled ++ rest) h (padded s.vaddr s.align at) in
    let filled = front bytes (offset_of at s) s.filled rest here in
    let inside = filled.inside in
    let one = All-head IsLoadable s ss all in
    let end = one.sized.end in
    let align = one.align in
    All-cons IsProgramFit (load_header at s) (load_headers (end_of at s) ss) (record {
      kind = omega arith;
      offset = omega (arith, inside, short);
      vaddr = omega (arith, end);
      filesz = omega (arith, inside, short);
      memsz = omega (arith, end);
      flags = one.flags;
      align = omega (arith, align);
    }) (loads_fit bytes (end_of at s) ss (behind bytes (offset_of at s) s.filled rest here) short (All-tail IsLoadable s ss all))

-- ---- those of one object

module _ (o : Object) (w : IsWritableObject o) (f : FitsObjectFields o) (short : length (object_file o) ≤ MAX_FILE_BYTES) where
  pub part : ObjectStands (object_file o) o
  part = object_stands o

  pub table_sized : IsSized (table_segment o)
  unfolding lib.Count.ones
  table_sized =
      let len = length-tables o in
      let below = w.below in
      record { some = omega (arith, len); end = omega (arith, len, below); filled = omega arith; aligned = refl }

  segments_loadable : All IsLoadable o.segments
  segments_loadable = λ k d lt. record { sized = w.sound.sized k d lt; flags = f.flags k d lt; align = (w.alignments k d lt).to }

  pub loadable : All IsLoadable (with_tables o).segments
  loadable = All-append IsLoadable o.segments (table_segment o ∷ []) segments_loadable (All-cons IsLoadable (table_segment o) [] (record { sized = table_sized; flags = omega arith; align = omega arith }) (All-nil IsLoadable))

  programs_fit : All IsProgramFit (program_headers o)
  programs_fit =
      let below = w.below in
      let inside = (tables_stand o).dynamic.inside in
      All-append IsProgramFit (load_headers (headers_end o) (with_tables o).segments) (dynamic_header o ∷ []) (loads_fit (object_file o) (headers_end o) (with_tables o).segments part.filled (omega (arith, short)) loadable)
      (All-cons IsProgramFit (dynamic_header o) [] (record {
        kind = omega arith;
        offset = omega (arith, inside, short);
        vaddr = omega (arith, below);
        filesz = omega (arith, below);
        memsz = omega (arith, below);
        flags = omega arith;
        align = omega arith;
      }) (All-nil IsProgramFit))

  pub phnum : e_phnum (object_file o) ≡ header_count o
  phnum = let room = w.room in phnum_read (object_file o) (file_header o) part.header (omega (arith, room))

  phoff : e_phoff (object_file o) ≡ EHDR_SIZE
  phoff = phoff_read (object_file o) (file_header o) part.header (omega arith)

  pub programs : Lists (program_header (object_file o)) 0 (program_headers o)
  programs =
      let e : EHDR_SIZE ≡ header_offset (object_file o) 0 = let s = phoff in omega (arith, s) in
      programs_listed (object_file o) 0 (program_headers o) programs_fit (subst (λ n. Holds (object_file o) n (table_bytes (map program_row (program_headers o)))) e part.programs)

  pub all_read : headers_below (object_file o) (e_phnum (object_file o)) ≡ program_headers o
  all_read = ap (headers_below (object_file o)) (phnum ∙ sym (program_count o)) ∙ lists_map (program_header (object_file o)) 0 (program_headers o) programs

  all_load : All (λ h. is_load h ≡ true) (load_headers (headers_end o) (with_tables o).segments)
  all_load = loads_pass (headers_end o) (with_tables o).segments (λ k d lt. (loadable k d lt).sized.some)

  pub loads_read : loads (object_file o) ≡ load_headers (headers_end o) (with_tables o).segments
  loads_read =
      ap (filter is_load) all_read
      ∙ filter-append is_load (load_headers (headers_end o) (with_tables o).segments) (dynamic_header o ∷ [])
      ∙ ap (λ hs. hs ++ []) (all_kept is_load (load_headers (headers_end o) (with_tables o).segments) all_load)
      ∙ append-nil (load_headers (headers_end o) (with_tables o).segments)

  pub segments_are : segments (object_file o) ≡ (with_tables o).segments
  segments_are = ap (map (segment (object_file o))) loads_read ∙ segments_read (object_file o) (headers_end o) (with_tables o).segments part.filled

  pub table_passes : first_failing (program_table_tests (object_file o)) ≡ None
  unfolding program_table_tests
  table_passes =
      let file = object_file o in
      let n = phnum in
      let at = phoff in
      let inside = part.filled.inside in
      let some : (e_phnum file == 0) ≡ false = ne_eqb _ _ (λ e. omega (arith, e, n)) in
      let fits : passes_end file (e_phoff file) (PHDR_SIZE * e_phnum file) ≡ false = le-ltb _ _ (omega (arith, n, at, inside)) in
      rw (phentsize_read file (file_header o) part.header, some, fits) refl

  -- ---- each header

  -- what holds of the headers of segments, and of that of the dynamic section
  pub program_at : (P : ProgramHeader → Type 0) (i : ℕ) → All P (program_headers o) → i < e_phnum (object_file o) → P (program_header (object_file o) i)
  program_at P i all lt =
      let n = phnum in
      let m = program_count o in
      let within : i < length (program_headers o) = omega (arith, n, m, lt) in
      let d = dynamic_header o in
      let e : i ≡ 0 + i = omega arith in
      subst P (sym (ap (program_header (object_file o)) e ∙ lists_at (program_header (object_file o)) 0 (program_headers o) i d programs within)) (all i d within)
