-- Kept sections: what their headers say, and that their names and bytes are read.
use Rattle.std.proofs.Common.{◌≡◌, ℕ, ◌+◌, ◌-◌, ◌^◌, ◌<◌, ◌≤◌, zero, suc, inl, inr, Bool, true, false, not, cond, ◌&&◌, ◌||◌, List, [], ◌∷◌, ◌++◌, length, get_or, All, refl, ap, subst, arith, Option, Some, None, eqb-true}
use Rattle.std.specs.Prelude.{slice_range, nat_lt, nat_le, ◌==◌, is_none}
use Rattle.std.specs.Int.{is_power_of_two}
use Rattle.std.specs.List.{flat_map, sum_by}
use Rattle.std.proofs.lemmas.Bool.{le-ltb, le-leb, leb-true, and_parts, and_from, or_cases, false≢true}
use Rattle.std.proofs.lemmas.List.Elements.{All-head, All-tail, All-nil, All-cons}
use Rattle.std.proofs.lemmas.List.Sums.{sum_by-cons}
use Rattle.elf_model.specs.declared.constants.TheConstants.{SHT_NOBITS, SHF_TLS, MAX_SECTION_ALIGN, MAX_SECTION_BYTES}
use Rattle.elf_model.specs.declared.relocatable.RelSection.{RelSection}
use Rattle.elf_model.specs.declared.table.SectionHeader.{SectionHeader}
use Rattle.elf_model.specs.Header.{is_one_of}
use Rattle.elf_model.specs.Segments.{has_flag}
use Rattle.elf_model.specs.Strings.{string_at, name_at}
use Rattle.elf_model.specs.RelSections.{kept_kinds, is_kept, is_section_align, is_section_range, bytes_in_file, section_bytes}
use Rattle.elf_model.specs.RelSound.{IsSectionSound}
use Rattle.elf_write.specs.declared.limits.TheConstants.{MAX_FILE_BYTES}
use Rattle.elf_write.specs.Words.{zeros, aligned}
use Rattle.elf_write.specs.Strings as string
use Rattle.elf_write.specs.Strings.{name_bytes}
use Rattle.elf_write.specs.RelFile.{end_of, end_of_all, contents, names_of, kept_header, kept_headers}
use Rattle.write_laws.proofs.Holding.{Holds, front, behind, behind_at, taken}
use Rattle.write_laws.proofs.Headers.{IsFit}
use Rattle.write_laws.proofs.Naming.{name_read}
use Rattle.write_laws.proofs.Parts.{not_before, padded}

-- ---- kinds and alignments

-- what holds of each kind that is kept
pub of_kept_kind : (P : ℕ → Type 0) (n : ℕ) → P 1 → P 7 → P 8 → P 14 → P 15 → is_one_of kept_kinds n ≡ true → P n
of_kept_kind P n p1 p7 p8 p14 p15 h =
    elim (or_cases (1 == n) ((7 == n) || ((8 == n) || ((14 == n) || ((15 == n) || false)))) h) [
      | inl e ↦ subst P (eqb-true 1 n e) p1
      | inr h ↦ elim (or_cases (7 == n) ((8 == n) || ((14 == n) || ((15 == n) || false))) h) [
        | inl e ↦ subst P (eqb-true 7 n e) p7
        | inr h ↦ elim (or_cases (8 == n) ((14 == n) || ((15 == n) || false)) h) [
          | inl e ↦ subst P (eqb-true 8 n e) p8
          | inr h ↦ elim (or_cases (14 == n) ((15 == n) || false) h) [
            | inl e ↦ subst P (eqb-true 14 n e) p14
            | inr h ↦ elim (or_cases (15 == n) false h) [
              | inl e ↦ subst P (eqb-true 15 n e) p15
              | inr h ↦ absurd (false≢true h)
            ]
          ]
        ]
      ]
    ]

align_fits : (n : ℕ) → is_section_align n ≡ true → n < 2 ^ 32
align_fits n h =
    elim (or_cases (n == 0) (is_power_of_two n && nat_le n MAX_SECTION_ALIGN) h) [
      | inl e ↦ omega (arith, eqb-true n 0 e)
      | inr h ↦ omega (arith, leb-true n MAX_SECTION_ALIGN (and_parts (is_power_of_two n) (nat_le n MAX_SECTION_ALIGN) h).1)
    ]

range_of : (b : Bool) (len offset size n : ℕ) → n ≡ cond b 0 size → offset + n ≤ len → (b || not (nat_lt len (offset + size))) ≡ true
range_of true len offset size n is fits = refl
range_of false len offset size n is fits = ap not (le-ltb len (offset + size) (omega arith))

none_is : (xs : List ℕ) → length xs ≡ 0 → [] ≡ xs
none_is [] e = refl
none_is (x ∷ xs) e = absurd (omega arith)

filled_of : (b : Bool) (bytes : List ℕ) (offset size : ℕ) (filled : List ℕ) → length filled ≡ cond b 0 size → Holds bytes offset filled → cond b [] (slice_range bytes offset (offset + size)) ≡ filled
filled_of true bytes offset size filled is h = none_is filled is
filled_of false bytes offset size filled is h = taken bytes offset size filled h is

-- ---- the header of a section

-- a header is that of a section which stands in the file, with a name among the names
pub record IsHeaderOf (bytes names : List ℕ) (s : RelSection) (h : SectionHeader) : Type 0 where
  pub fit : IsFit h
  pub kept : is_kept h ≡ true
  pub known_kind : is_one_of kept_kinds h.kind ≡ true
  pub no_tls : has_flag h.flags SHF_TLS ≡ false
  pub placed : (is_section_align h.align && is_section_range bytes h) ≡ true
  pub readable : is_none (string_at names h.name) ≡ false
  pub name_is : name_at names h.name ≡ s.name
  pub kind_is : h.kind ≡ s.kind
  pub flags_is : h.flags ≡ s.flags
  pub align_is : h.align ≡ s.align
  pub size_is : h.size ≡ s.size
  pub filled_is : section_bytes bytes h ≡ s.filled

place_fits : (at n : ℕ) (name : Option (List ℕ)) → at ≤ n → string.place_of at name ≤ n
place_fits at n None le = omega arith
place_fits at n (Some x) le = le

module _ (bytes names : List ℕ) (symbols : ℕ) (short : length bytes ≤ MAX_FILE_BYTES) (fewer : length names ≤ length bytes) (first : Holds names 0 (0 ∷ [])) where
  header_of : (at name : ℕ) (s : RelSection) → Holds bytes (aligned s.align at) s.filled → Holds names name (name_bytes s.name) → IsSectionSound symbols s → s.flags < 2 ^ 32
      → IsHeaderOf bytes names s (kept_header at name s)
  unfolding section_bytes
  header_of at name s held named sound flags =
      let n = name_read names name s.name first named sound.named in
      let inside = held.inside in
      let name_inside : name ≤ length names = let i = named.inside in omega (arith, i) in
      let small = sound.small in
      let nobits = s.kind == SHT_NOBITS in
      record {
        fit = record {
          name = let p = place_fits name (length names) s.name name_inside in omega (arith, p, fewer, short);
          kind = of_kept_kind (λ k. k < 2 ^ 32) s.kind (omega arith) (omega arith) (omega arith) (omega arith) (omega arith) sound.kept;
          flags = flags;
          addr = omega arith;
          offset = omega (arith, inside, short);
          size = omega (arith, small);
          link = omega arith;
          info = omega arith;
          align = align_fits s.align sound.aligned;
        };
        kept = and_from _ _ sound.has_memory sound.kept;
        known_kind = sound.kept;
        no_tls = sound.no_tls;
        placed = and_from _ _ sound.aligned (and_from _ _ (range_of nobits (length bytes) (aligned s.align at) s.size (length s.filled) sound.filled' inside) (le-leb s.size MAX_SECTION_BYTES small));
        readable = n.readable;
        name_is = n.is_name;
        kind_is = refl;
        flags_is = refl;
        align_is = refl;
        size_is = refl;
        filled_is = filled_of nobits bytes (aligned s.align at) s.size s.filled sound.filled' held;
      }

  -- section by section, from a place on, with its header
  pub Written : ℕ → ℕ → List RelSection → Type 0
  Written at name [] = Unit {0}
  Written at name (s ∷ ss) = IsHeaderOf bytes names s (kept_header at name s) × Written (end_of at s) (string.behind name s.name) ss

  pub written : (at name : ℕ) (ss : List RelSection) → Holds bytes at (contents at ss) → Holds names name (flat_map name_bytes (names_of ss)) → All (IsSectionSound symbols) ss → All (λ s. s.flags < 2 ^ 32) ss → Written at name ss
  unfolding Written
  written at name [] held named sound flags = tt
  written at name (s ∷ ss) held named sound flags =
      let rest = contents (end_of at s) ss in
      let more = flat_map name_bytes (names_of ss) in
      let here = behind_at bytes at (aligned s.align at) (zeros (aligned s.align at - at)) (s.filled ++ rest) held (padded s.align at) in (
        header_of at name s (front bytes (aligned s.align at) s.filled rest here) (front names name (name_bytes s.name) more named) (All-head (IsSectionSound symbols) s ss sound) (All-head (λ s. s.flags < 2 ^ 32) s ss flags),
        written (end_of at s) (string.behind name s.name) ss (behind bytes (aligned s.align at) s.filled rest here) (behind names name (name_bytes s.name) more named)
            (All-tail (IsSectionSound symbols) s ss sound) (All-tail (λ s. s.flags < 2 ^ 32) s ss flags),
      )

  -- what holds of the header of each section
  pub all_headers : (P : SectionHeader → Type 0) → ((s : RelSection) (h : SectionHeader) → IsHeaderOf bytes names s h → P h) → (at name : ℕ) (ss : List RelSection) → Written at name ss → All P (kept_headers at name ss)
  unfolding Written
  all_headers P each at name [] w = All-nil P
  all_headers P each at name (s ∷ ss) w =
      All-cons P (kept_header at name s) (kept_headers (end_of at s) (string.behind name s.name) ss) (each s (kept_header at name s) w.0) (all_headers P each (end_of at s) (string.behind name s.name) ss w.1)

  -- the header of one of them
  pub header_in : (at name : ℕ) (ss : List RelSection) (k : ℕ) (d : RelSection) (e : SectionHeader) → Written at name ss → k < length ss → IsHeaderOf bytes names (get_or ss k d) (get_or (kept_headers at name ss) k e)
  unfolding Written
  header_in at name [] k d e w lt = absurd (omega arith)
  header_in at name (s ∷ ss) zero d e w lt = w.0
  header_in at name (s ∷ ss) (suc k) d e w lt = header_in (end_of at s) (string.behind name s.name) ss k d e w.1 (omega (arith, lt))

-- ---- the bytes of all of them

-- they lie in the file one behind the other
pub bytes_of_all : (symbols at name : ℕ) (ss : List RelSection) → All (IsSectionSound symbols) ss → at + sum_by bytes_in_file (kept_headers at name ss) ≤ end_of_all at ss
bytes_of_all symbols at name [] sound = let e : at + 0 ≤ at = omega arith in e
bytes_of_all symbols at name (s ∷ ss) sound =
    let rest = bytes_of_all symbols (end_of at s) (string.behind name s.name) ss (All-tail (IsSectionSound symbols) s ss sound) in
    let sum = sum_by-cons bytes_in_file (kept_header at name s) (kept_headers (end_of at s) (string.behind name s.name) ss) in
    let size : length s.filled ≡ bytes_in_file (kept_header at name s) = (All-head (IsSectionSound symbols) s ss sound).filled' in
    let from = not_before s.align at in
    omega (arith, rest, sum, size, from)
