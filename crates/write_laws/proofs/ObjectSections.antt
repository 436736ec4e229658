-- The section headers of a written object: their tests hold, and the list of fixups is found and read.
use Rattle.std.proofs.Common.{◌≡◌, ℕ, ◌+◌, ◌-◌, ◌*◌, ◌/◌, ◌%◌, ◌^◌, ◌<◌, ◌≤◌, Bool, true, false, not, cond, ◌||◌, List, [], ◌∷◌, ◌++◌, length, map, All, Option, Some, None, refl, sym, ap, ◌∙◌, subst, arith, inl, inr, length-append}
use Rattle.std.specs.Prelude.{◌==◌, nat_lt, nat_le, position, slice_range, option_map, option_and_then, is_some, codes, IfSome}
use Rattle.std.specs.Option.{option_map_or}
use Rattle.std.specs.List.{range_with_len}
use Rattle.std.proofs.lemmas.Bool.{lt-ltb, le-ltb, lt-leb, eq-eqb, or_from}
use Rattle.std.proofs.lemmas.Grind.{flat_map-append}
use Rattle.std.proofs.lemmas.List.Elements.{All-head, All-tail, All-nil, All-cons}
use Rattle.fd_base.proofs.Options.{none_or}
use Rattle.byteorder.specs.Endian.{little_bytes}
use Rattle.fd_base.specs.Words.{word_in, word_bytes}
use Rattle.elf_model.specs.declared.constants.TheConstants.{SHDR_SIZE}
use Rattle.elf_model.specs.declared.refusal.ElfKind.TheVariants as refusal
use Rattle.elf_model.specs.declared.object.Kind.{Kind}
use Rattle.elf_model.specs.declared.object.Kind.TheVariants.{Exec, Dyn}
use Rattle.elf_model.specs.declared.object.Object.{Object}
use Rattle.elf_model.specs.declared.table.SectionHeader.{SectionHeader}
use Rattle.elf_model.specs.Test.{refuses, of_some, only_where, first_failing}
use Rattle.elf_model.specs.Header.{e_entry, e_shoff, e_shnum, e_shstrndx, e_shentsize, is_one_of, passes_end, file_tests, program_table_tests, present_table_tests, section_table_tests, header_tests, object_abis, object_types, kind}
use Rattle.elf_model.specs.Sections as section
use Rattle.elf_model.specs.Sections.{section_offset, section_header, section_names, is_named, rofixup_place, rofixup, rofixup_tests, rofixup_offset, fixups_of}
use Rattle.elf_model.specs.Strings.{text_at}
use Rattle.elf_model.specs.Fields as field
use Rattle.elf_model.proofs.Passing.{both, where_true}
use Rattle.elf_write.specs.declared.limits.TheConstants.{MAX_FILE_BYTES}
use Rattle.elf_write.specs.Words.{header_row, section_row, table_bytes, zeros}
use Rattle.elf_write.specs.TableSegment.{layout_of}
use Rattle.elf_write.specs.ObjectFile.{table_offset, section_strings, names_offset, names_end, sections_offset, no_header, rofixup_header, names_header, section_headers, sections, type_of, file_header, object_file}
use Rattle.elf_write.specs.WritableObject.{IsWritableObject}
use Rattle.write_laws.specs.ObjectReadBack.{FitsObjectFields, IsWord}
use Rattle.write_laws.proofs.Holding.{Holds, front, behind, behind_at, taken, word_held, length-words}
use Rattle.write_laws.proofs.Listing.{Lists, lists_map}
use Rattle.write_laws.proofs.Headers.{IsFit, headers_listed, entry_read, shoff_read, shnum_read, shstrndx_read, shentsize_read, type_read, file_passes}
use Rattle.write_laws.proofs.Parts.{padded}
use Rattle.write_laws.proofs.TableParts.{tables_stand}
use Rattle.write_laws.proofs.ProgramTests as program
use Rattle.write_laws.proofs.ProgramTests.{part}

-- words one behind the other
words_listed : (bytes : List ℕ) (at k : ℕ) (ws : List ℕ) → All IsWord ws → Holds bytes (at + 4 * k) (word_bytes ws) → Lists (λ k. word_in bytes (at + 4 * k)) k ws
words_listed bytes at k [] fit h = tt
words_listed bytes at k (x ∷ ws) fit h =
    let here = at + 4 * k in
    let next : here + 4 ≡ at + 4 * (k + 1) = omega arith in (
      word_held bytes here x (front bytes here (little_bytes 4 x) (word_bytes ws) h) (All-head IsWord x ws fit),
      words_listed bytes at (k + 1) ws (All-tail IsWord x ws fit) (behind_at bytes here (at + 4 * (k + 1)) (little_bytes 4 x) (word_bytes ws) h next),
    )

-- ---- the name of the list

other_name : is_named section_strings (codes ".rofixup") no_header ≡ false
unfolding is_named text_at
other_name = refl

list_name : (o : Object) (fx : List ℕ) → is_named section_strings (codes ".rofixup") (rofixup_header o fx) ≡ true
unfolding is_named text_at
list_name o fx = refl

second : (p : SectionHeader → Bool) (a b c : SectionHeader) → p a ≡ false → p b ≡ true → position p (a ∷ b ∷ c ∷ []) ≡ Some 1
second p a b c first here = rw (first, here) refl

-- ---- the header

few : (b : Bool) (n m : ℕ) → n < m → cond b n 0 < m
few true n m lt = lt
few false n m lt = omega (arith, lt)

type_small : (k : Kind) → type_of k < 2 ^ 16
type_small Exec = omega arith
type_small Dyn = omega arith

type_known : (k : Kind) → is_one_of object_types (type_of k) ≡ true
type_known Exec = refl
type_known Dyn = refl

kind_known : (k : Kind) → cond (type_of k == 2) Exec Dyn ≡ k
kind_known Exec = refl
kind_known Dyn = refl

module _ (o : Object) (w : IsWritableObject o) (f : FitsObjectFields o) (short : length (object_file o) ≤ MAX_FILE_BYTES) where
  header : Holds (object_file o) 0 (word_bytes (header_row (file_header o)))
  header = (part o w f short).header

  pub entry_is : e_entry (object_file o) ≡ o.entry
  entry_is = entry_read (object_file o) (file_header o) header f.entry

  pub kind_is : kind (object_file o) ≡ o.kind
  kind_is = ap (λ t. cond (t == 2) Exec Dyn) (type_read (object_file o) (file_header o) header (type_small o.kind)) ∙ kind_known o.kind

  shnum_is : e_shnum (object_file o) ≡ cond (is_some o.fixups) 3 0
  shnum_is = shnum_read (object_file o) (file_header o) header (few (is_some o.fixups) 3 (2 ^ 16) (omega arith)) (few (is_some o.fixups) 2 (2 ^ 16) (omega arith))

  shstrndx_is : e_shstrndx (object_file o) ≡ cond (is_some o.fixups) 2 0
  shstrndx_is = shstrndx_read (object_file o) (file_header o) header (few (is_some o.fixups) 3 (2 ^ 16) (omega arith)) (few (is_some o.fixups) 2 (2 ^ 16) (omega arith))

  -- ---- an object without fixups has no section headers

  none_shnum : o.fixups ≡ None → e_shnum (object_file o) ≡ 0
  none_shnum is = shnum_is ∙ ap (λ (p : Option (List ℕ)). cond (is_some p) 3 0) is

  pub none_rofixup : o.fixups ≡ None → rofixup (object_file o) ≡ None
  unfolding rofixup rofixup_place
  none_rofixup is =
      let file = object_file o in
      let read = λ (i : ℕ). cond (nat_lt 0 (section_header file i).size) (Some i) None in
      ap (λ n. option_and_then read (position (is_named (section_names file) (codes ".rofixup")) (map (section_header file) (range_with_len 0 n)))) (none_shnum is)

  -- ---- one with fixups has three

  module _ (fx : List ℕ) (is : o.fixups ≡ Some fx) where
    sections_there : Holds (object_file o) (names_offset o) (sections o fx)
    sections_there = subst (λ p. Holds (object_file o) (names_offset o) (option_map_or (sections o) p [])) is (part o w f short).sections'

    names_there : Holds (object_file o) (names_offset o) section_strings
    names_there =
        front (object_file o) (names_offset o) section_strings (zeros (sections_offset o - names_end o) ++ table_bytes (map section_row (section_headers o fx))) sections_there

    headers_there : Holds (object_file o) (sections_offset o) (table_bytes (map section_row (section_headers o fx)))
    headers_there =
        let file = object_file o in
        let gap = zeros (sections_offset o - names_end o) in
        let table = table_bytes (map section_row (section_headers o fx)) in
        behind_at file (names_end o) (sections_offset o) gap table (behind file (names_offset o) section_strings (gap ++ table) sections_there) (padded 4 (names_end o))

    shnum : e_shnum (object_file o) ≡ 3
    shnum = shnum_is ∙ ap (λ (p : Option (List ℕ)). cond (is_some p) 3 0) is

    shstrndx : e_shstrndx (object_file o) ≡ 2
    shstrndx = shstrndx_is ∙ ap (λ (p : Option (List ℕ)). cond (is_some p) 2 0) is

    shoff : e_shoff (object_file o) ≡ sections_offset o
    shoff =
        let inside = headers_there.inside in
        let fits : cond (is_some o.fixups) (sections_offset o) 0 < 2 ^ 32 = few (is_some o.fixups) (sections_offset o) (2 ^ 32) (omega (arith, inside, short)) in
        shoff_read (object_file o) (file_header o) header fits ∙ ap (λ (p : Option (List ℕ)). cond (is_some p) (sections_offset o) 0) is

    -- ---- the words of the list

    words_there : Holds (object_file o) (table_offset o (layout_of o).fixups) (word_bytes (fx ++ o.got ∷ []))
    words_there = subst (λ p. Holds (object_file o) (table_offset o (layout_of o).fixups) (word_bytes (option_map_or (λ fixups. fixups ++ o.got ∷ []) p []))) is (tables_stand o).fixups

    list_end : table_offset o (layout_of o).fixups + 4 * (length fx + 1) ≤ length (object_file o)
    list_end =
        let inside = words_there.inside in
        let len = length-words (fx ++ o.got ∷ []) in
        let more = length-append fx (o.got ∷ []) in
        omega (arith, inside, len, more)

    fixups_there : Holds (object_file o) (table_offset o (layout_of o).fixups) (word_bytes fx)
    fixups_there =
        front (object_file o) (table_offset o (layout_of o).fixups) (word_bytes fx) (word_bytes (o.got ∷ []))
        (subst (Holds (object_file o) (table_offset o (layout_of o).fixups)) (flat_map-append (little_bytes 4) fx (o.got ∷ [])) words_there)

    -- ---- the headers

    all_fit : All IsFit (section_headers o fx)
    all_fit =
        let end = list_end in
        let below = w.below in
        let inside = names_there.inside in
        let nothing : IsFit no_header = record { name = omega arith; kind = omega arith; flags = omega arith; addr = omega arith; offset = omega arith; size = omega arith; link = omega arith; info = omega arith; align = omega arith } in
        let list : IsFit (rofixup_header o fx) = record { name = omega arith; kind = omega arith; flags = omega arith; addr = omega (arith, below); offset = omega (arith, end, short); size = omega (arith, end, short); link = omega arith; info = omega arith; align = omega arith } in
        let names : IsFit (names_header o) = record { name = omega arith; kind = omega arith; flags = omega arith; addr = omega arith; offset = omega (arith, inside, short); size = omega (arith, inside, short); link = omega arith; info = omega arith; align = omega arith } in
        All-cons IsFit no_header (rofixup_header o fx ∷ names_header o ∷ []) nothing (All-cons IsFit (rofixup_header o fx) (names_header o ∷ []) list (All-cons IsFit (names_header o) [] names (All-nil IsFit)))

    listed : Lists (section_header (object_file o)) 0 (section_headers o fx)
    listed =
        let at : sections_offset o ≡ section_offset (object_file o) 0 = let s = shoff in omega (arith, s) in
        headers_listed (object_file o) 0 (section_headers o fx) all_fit (subst (λ n. Holds (object_file o) n (table_bytes (map section_row (section_headers o fx)))) at headers_there)

    list_at : section_header (object_file o) 1 ≡ rofixup_header o fx
    list_at = listed.1.0

    names_at : section_header (object_file o) 2 ≡ names_header o
    names_at = listed.1.1.0

    headers_read : section.section_headers (object_file o) ≡ section_headers o fx
    headers_read = ap (λ n. map (section_header (object_file o)) (range_with_len 0 n)) shnum ∙ lists_map (section_header (object_file o)) 0 (section_headers o fx) listed

    names_read : section_names (object_file o) ≡ section_strings
    unfolding section_names
    names_read =
        let file = object_file o in
        let read = λ (h : SectionHeader). cond (passes_end file h.offset h.size) [] (slice_range file h.offset (h.offset + h.size)) in
        let fits : passes_end file (names_offset o) (length section_strings) ≡ false = le-ltb _ _ names_there.inside in
        ap (λ i. read (section_header file i)) shstrndx ∙ ap read names_at
        ∙ ap (λ b. cond b [] (slice_range file (names_offset o) (names_offset o + length section_strings))) fits
        ∙ taken file (names_offset o) (length section_strings) section_strings names_there refl

    place : rofixup_place (object_file o) ≡ Some 1
    unfolding rofixup_place
    place =
        let file = object_file o in
        ap (λ names. position (is_named names (codes ".rofixup")) (section.section_headers file)) names_read
        ∙ ap (position (is_named section_strings (codes ".rofixup"))) headers_read
        ∙ second (is_named section_strings (codes ".rofixup")) no_header (rofixup_header o fx) (names_header o) other_name (list_name o fx)

    pub rofixup_is : rofixup (object_file o) ≡ Some 1
    unfolding rofixup
    rofixup_is =
        let file = object_file o in
        ap (option_and_then (λ i. cond (nat_lt 0 (section_header file i).size) (Some i) None)) place
        ∙ ap (λ (h : SectionHeader). cond (nat_lt 0 h.size) (Some 1) None) list_at
        ∙ ap (λ b. cond b (Some 1) None) (lt-ltb 0 (4 * (length fx + 1)) (omega arith))

    pub listed_fixups : fixups_of (object_file o) 1 ≡ fx
    listed_fixups =
        let file = object_file o in
        let off = table_offset o (layout_of o).fixups in
        let count : (4 * (length fx + 1)) / 4 - 1 ≡ length fx = omega arith in
        let words : All IsWord fx = subst (λ p. IfSome p (All IsWord)) is f.fixups in
        let zero_at : off ≡ off + 4 * 0 = omega arith in
        ap (λ (h : SectionHeader). map (λ k. word_in file (h.offset + 4 * k)) (range_with_len 0 (h.size / 4 - 1))) list_at
        ∙ ap (λ n. map (λ k. word_in file (off + 4 * k)) (range_with_len 0 n)) count
        ∙ lists_map (λ k. word_in file (off + 4 * k)) 0 fx (words_listed file off 0 fx words (subst (λ n. Holds file n (word_bytes fx)) zero_at fixups_there))

    list_passes : first_failing (rofixup_tests (object_file o)) ≡ None
    unfolding rofixup_tests
    list_passes =
        let file = object_file o in
        let at = section_offset file 1 in
        let range : (passes_end file (rofixup_header o fx).offset (rofixup_header o fx).size || not ((rofixup_header o fx).size % 4 == 0)) ≡ false
        = or_from _ _ (le-ltb _ _ list_end) (ap not (eq-eqb ((4 * (length fx + 1)) % 4) 0 (omega arith))) in
        ap (λ p. first_failing (of_some p (λ i. refuses refusal.Table (section_offset file i) (passes_end file (section_header file i).offset (section_header file i).size || not ((section_header file i).size % 4 == 0)) ∷ []))) rofixup_is
        ∙ ap (λ (h : SectionHeader). first_failing (refuses refusal.Table at (passes_end file h.offset h.size || not (h.size % 4 == 0)) ∷ [])) list_at
        ∙ ap (λ b. first_failing (refuses refusal.Table at b ∷ [])) range

    present_pass : first_failing (present_table_tests (object_file o)) ≡ None
    present_pass =
        let file = object_file o in
        let room = w.room in
        let n = shnum in
        let i = shstrndx in
        let at = shoff in
        let inside = headers_there.inside in
        let size : e_shentsize file ≡ SHDR_SIZE = shentsize_read file (file_header o) header (omega (arith, room)) in
        let fits : passes_end file (e_shoff file) (SHDR_SIZE * e_shnum file) ≡ false = le-ltb _ _ (omega (arith, at, n, inside)) in
        let known : nat_le (e_shnum file) (e_shstrndx file) ≡ false = lt-leb _ _ (omega (arith, n, i)) in
        rw (size, fits, known) refl

  -- ---- with or without

  sections_pass : first_failing (section_table_tests (object_file o)) ≡ None
  unfolding section_table_tests
  sections_pass =
      let file = object_file o in
      elim (none_or o.fixups) [
        | inl none ↦ ap (λ n. first_failing (only_where (nat_lt 0 n) (present_table_tests file))) (none_shnum none)
        | inr one ↦ where_true (nat_lt 0 (e_shnum file)) (present_table_tests file) (λ some. present_pass one.0 one.1)
      ]

  pub header_passes : first_failing (header_tests (object_file o)) ≡ None
  unfolding header_tests
  header_passes =
      let file = object_file o in
      both (file_tests object_abis object_types file) (program_table_tests file ++ section_table_tests file)
      (file_passes file (file_header o) header object_abis object_types refl (type_small o.kind) (type_known o.kind))
      (both (program_table_tests file) (section_table_tests file) (program.table_passes o w f short) sections_pass)

  pub rofixup_passes : first_failing (rofixup_tests (object_file o)) ≡ None
  unfolding rofixup_tests
  rofixup_passes =
      let file = object_file o in
      elim (none_or o.fixups) [
        | inl none ↦
            ap (λ p. first_failing (of_some p (λ i. refuses refusal.Table (section_offset file i) (passes_end file (section_header file i).offset (section_header file i).size || not ((section_header file i).size % 4 == 0)) ∷ []))) (none_rofixup none)
        | inr one ↦ list_passes one.0 one.1
      ]

  pub fixups_are : field.fixups (object_file o) ≡ o.fixups
  unfolding field.fixups
  fixups_are =
      let file = object_file o in
      elim (none_or o.fixups) [
        | inl none ↦ ap (option_map (fixups_of file)) (none_rofixup none) ∙ sym none
        | inr one ↦ ap (option_map (fixups_of file)) (rofixup_is one.0 one.1) ∙ ap Some (listed_fixups one.0 one.1) ∙ sym one.1
      ]
