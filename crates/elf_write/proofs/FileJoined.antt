-- Parts that were put in their order are the file of an object.
use Rattle.std.proofs.Common.{◌≡◌, ℕ, ◌+◌, ◌-◌, ◌%◌, ◌≤◌, List, [], ◌∷◌, ◌++◌, length, map, drop, refl, sym, ap, ◌∙◌, arith, append_assoc, append-nil}
use Rattle.std.specs.Option.{option_map_or}
use Rattle.std.proofs.lemmas.List.{map-append}
use Rattle.std.proofs.lemmas.Grind.{flat_map-append}
use Rattle.fd_base.specs.Words.{word_bytes}
use Rattle.elf_model.specs.declared.object.Object.{Object}
use Rattle.elf_model.specs.declared.object.Segment.{Segment}
use Rattle.elf_model.specs.declared.table.ProgramHeader.{ProgramHeader}
use Rattle.elf_write.specs.Words.{table_bytes, header_row, program_row, section_row, zeros, offset_like}
use Rattle.elf_write.specs.TableSegment.{tables, tables_vaddr, with_tables, table_segment}
use Rattle.elf_write.specs.ObjectFile.{offset_of, end_of, end_of_all, contents, load_header, load_headers, headers_end, tables_offset, names_offset, names_end, sections_offset, section_strings, no_header, rofixup_header, names_header, sections, program_headers, dynamic_header, file_header, object_file}
use Rattle.elf_write.proofs.Joined.{joined, three_headers}
use Rattle.elf_write.proofs.Putting.{put_more}
use Rattle.elf_write.proofs.ObjectLengths.{offset_from}

-- ---- segments behind others

pub ends_join : (at : ℕ) (ss ts : List Segment) → end_of_all at (ss ++ ts) ≡ end_of_all (end_of_all at ss) ts
ends_join at [] ts = refl
ends_join at (s ∷ ss) ts = ends_join (end_of at s) ss ts

pub loads_join : (at : ℕ) (ss ts : List Segment) → load_headers at (ss ++ ts) ≡ load_headers at ss ++ load_headers (end_of_all at ss) ts
loads_join at [] ts = refl
loads_join at (s ∷ ss) ts = ap (λ hs. load_header at s ∷ hs) (loads_join (end_of at s) ss ts)

pub contents_join : (at : ℕ) (ss ts : List Segment) → contents at (ss ++ ts) ≡ contents at ss ++ contents (end_of_all at ss) ts
contents_join at [] ts = refl
contents_join at (s ∷ ss) ts =
    let z = zeros (offset_of at s - at) in
    let c = contents (end_of at s) ss in
    let d = contents (end_of_all (end_of at s) ss) ts in
    ap (λ bs. z ++ (s.filled ++ bs)) (contents_join (end_of at s) ss ts) ∙ sym (append_assoc z (s.filled ++ c) d ∙ ap (λ bs. z ++ bs) (append_assoc s.filled c d))

programs_join : (xs ys : List ProgramHeader) → table_bytes (map program_row (xs ++ ys)) ≡ table_bytes (map program_row xs) ++ table_bytes (map program_row ys)
programs_join xs ys = ap table_bytes (map-append program_row xs ys) ∙ flat_map-append _ (map program_row xs) (map program_row ys)

-- ---- one more segment

module _ (segments : List Segment) (i : ℕ) (s : Segment) (more : drop i segments ≡ s ∷ drop (i + 1) segments) where
  abbrev rest : List Segment
  rest = drop (i + 1) segments

  pub ends_more : (at next total : ℕ) → next ≡ end_of at s → end_of_all at (drop i segments) ≡ total → end_of_all next rest ≡ total
  ends_more at next total is so_far = ap (λ n. end_of_all n rest) is ∙ sym (ap (end_of_all at) more) ∙ so_far

  pub loads_more : (now after all : List ℕ) (at next : ℕ) → after ≡ now ++ word_bytes (program_row (load_header at s)) → next ≡ end_of at s
      → now ++ table_bytes (map program_row (load_headers at (drop i segments))) ≡ all → after ++ table_bytes (map program_row (load_headers next rest)) ≡ all
  loads_more now after all at next put is so_far =
      ap (λ n. after ++ table_bytes (map program_row (load_headers n rest))) is
      ∙ put_more now after (word_bytes (program_row (load_header at s))) (table_bytes (map program_row (load_headers (end_of at s) rest)))
      (table_bytes (map program_row (load_headers at (drop i segments)))) all put (ap (λ ss. table_bytes (map program_row (load_headers at ss))) more) so_far

-- the end of a segment is within that of all
ends_grow : (at : ℕ) (ss : List Segment) → at ≤ end_of_all at ss
ends_grow at [] = omega arith
ends_grow at (s ∷ ss) =
    let here = offset_from at s in
    let behind = ends_grow (end_of at s) ss in
    omega (arith, here, behind)

pub end_within : (at total : ℕ) (left rest : List Segment) (s : Segment) → left ≡ s ∷ rest → end_of_all at left ≡ total → end_of at s ≤ total
end_within at total left rest s more is =
    let whole = ap (end_of_all at) more in
    let behind = ends_grow (end_of at s) rest in
    omega (arith, is, whole, behind)

-- ---- where the tables stand

pub names_at : (o : Object) → names_offset o ≡ tables_offset o + length (tables o)
names_at o = ends_join (headers_end o) o.segments (table_segment o ∷ [])

-- they begin at a multiple of 16, in memory and in the file
pub tables_at : (o : Object) → tables_offset o ≡ offset_like 0 16 (end_of_all (headers_end o) o.segments)
tables_at o = by_multiple (tables_vaddr o) (end_of_all (headers_end o) o.segments) (omega arith)
  where
    by_multiple : (vaddr at : ℕ) → vaddr % 16 ≡ 0 → offset_like vaddr 16 at ≡ offset_like 0 16 at
    by_multiple vaddr at is = omega (arith, is)

-- ---- parts in their order

pub all_programs : (o : Object) (out a b c : List ℕ) → a ≡ out ++ table_bytes (map program_row (load_headers (headers_end o) o.segments))
    → b ≡ a ++ word_bytes (program_row (load_header (end_of_all (headers_end o) o.segments) (table_segment o)))
    → c ≡ b ++ word_bytes (program_row (dynamic_header o)) → c ≡ out ++ table_bytes (map program_row (program_headers o))
all_programs o out a b c p1 p2 p3 =
    let bytes : List ProgramHeader → List ℕ = λ hs. table_bytes (map program_row hs) in
    let e = end_of_all (headers_end o) o.segments in
    let own = load_headers (headers_end o) o.segments in
    let t = load_header e (table_segment o) in
    let d = dynamic_header o in
    let last : c ≡ out ++ (bytes own ++ (word_bytes (program_row t) ++ word_bytes (program_row d))) =
    joined out a c (bytes own) (word_bytes (program_row t) ++ word_bytes (program_row d)) p1 (joined a b c (word_bytes (program_row t)) (word_bytes (program_row d)) p2 p3) in
    let two : bytes (program_headers o) ≡ bytes (own ++ t ∷ []) ++ bytes (d ∷ []) =
    programs_join (load_headers (headers_end o) (with_tables o).segments) (d ∷ []) ∙ ap (λ hs. bytes hs ++ bytes (d ∷ [])) (loads_join (headers_end o) o.segments (table_segment o ∷ [])) in
    let three : bytes (program_headers o) ≡ bytes own ++ (bytes (t ∷ []) ++ bytes (d ∷ [])) =
    two ∙ ap (λ bs. bs ++ bytes (d ∷ [])) (programs_join own (t ∷ [])) ∙ append_assoc (bytes own) (bytes (t ∷ [])) (bytes (d ∷ [])) in
    last ∙ sym (ap (λ bs. out ++ bs) three)

pub all_segments : (o : Object) (out a b c : List ℕ) → a ≡ out ++ contents (headers_end o) o.segments
    → b ≡ a ++ zeros (tables_offset o - end_of_all (headers_end o) o.segments) → c ≡ b ++ tables o → c ≡ out ++ contents (headers_end o) (with_tables o).segments
all_segments o out a b c p1 p2 p3 =
    let own = contents (headers_end o) o.segments in
    let z = zeros (tables_offset o - end_of_all (headers_end o) o.segments) in
    joined out a c own (z ++ tables o) p1 (joined a b c z (tables o) p2 p3)
    ∙ ap (λ bs. out ++ (own ++ (z ++ bs))) (sym (append-nil (tables o)))
    ∙ ap (λ bs. out ++ bs) (sym (contents_join (headers_end o) o.segments (table_segment o ∷ [])))

pub all_sections : (o : Object) (fixups out a b c d e : List ℕ) → a ≡ out ++ section_strings → b ≡ a ++ zeros (sections_offset o - names_end o)
    → c ≡ b ++ word_bytes (section_row no_header) → d ≡ c ++ word_bytes (section_row (rofixup_header o fixups)) → e ≡ d ++ word_bytes (section_row (names_header o))
    → e ≡ out ++ sections o fixups
all_sections o fixups out a b c d e p1 p2 p3 p4 p5 =
    let z = zeros (sections_offset o - names_end o) in
    let rows = table_bytes (map section_row (no_header ∷ rofixup_header o fixups ∷ names_header o ∷ [])) in
    joined out a e section_strings (z ++ rows) p1 (joined a b e z rows p2 (three_headers b c d e no_header (rofixup_header o fixups) (names_header o) p3 p4 p5))

pub all_file : (o : Object) (out a b c d : List ℕ) → a ≡ out ++ word_bytes (header_row (file_header o))
    → b ≡ a ++ table_bytes (map program_row (program_headers o)) → c ≡ b ++ contents (headers_end o) (with_tables o).segments
    → d ≡ c ++ option_map_or (sections o) o.fixups [] → d ≡ out ++ object_file o
unfolding object_file
all_file o out a b c d p1 p2 p3 p4 =
    let h = word_bytes (header_row (file_header o)) in
    let p = table_bytes (map program_row (program_headers o)) in
    let k = contents (headers_end o) (with_tables o).segments in
    let s = option_map_or (sections o) o.fixups [] in
    joined out a d h (p ++ (k ++ s)) p1 (joined a b d p (k ++ s) p2 (joined b c d k s p3 p4))
