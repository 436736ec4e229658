-- The sites of a sound object end within the link addresses.
use Rattle.std.proofs.Common.{◌≡◌, ℕ, ◌+◌, ◌^◌, ◌<◌, ◌≤◌, nat_le, Bool, true, false, cond, ◌==◌, ◌&&◌, List, [], ◌∷◌, ◌++◌, map, arith, All, inl, inr}
use Rattle.std.specs.Prelude.{unwrap_or}
use Rattle.std.proofs.lemmas.Bool.{false≢true, and_parts, or_cases, leb-true}
use Rattle.std.proofs.lemmas.List.Elements.{All-append, All-map, All-weaker, All-head, All-tail}
use Rattle.fd_base.proofs.Lists.{all_front, all_back, all_unmapped}
use Rattle.elf_model.specs.declared.constants.TheConstants.{PF_W, R_ARM_FUNCDESC_VALUE}
use Rattle.elf_model.specs.declared.object.Object.{Object}
use Rattle.elf_model.specs.declared.object.Rel.{Rel}
use Rattle.elf_model.specs.declared.object.Segment.{Segment}
use Rattle.elf_model.specs.declared.table.Site.{Site}
use Rattle.elf_model.specs.Places.{is_writable_in, spans, site_of_rel}
use Rattle.elf_model.specs.Relocations.{site_size, word_site, got_header}
use Rattle.elf_model.specs.Segments.{has_flag}
use Rattle.elf_model.specs.Sound.{IsSound, IsSized, IsInPlace}
use Rattle.elf_model.specs.Filled.{site_relocations, fixup_at}

-- what is written in a segment ends below its end
pub ends_in : (ss : List Segment) (v n : ℕ) → All IsSized ss → is_writable_in ss v n ≡ true → v + n < 2 ^ 32
ends_in [] v n sized is = absurd (false≢true is)
ends_in (s ∷ ss) v n sized is =
    let here = All-head IsSized s ss sized in
    elim (or_cases (has_flag s.flags PF_W && spans s v n) (is_writable_in ss v n) is) [
      | inl holds ↦ inside s v n here.end (and_parts (has_flag s.flags PF_W) (spans s v n) holds).1
      | inr later ↦ ends_in ss v n (All-tail IsSized s ss sized) later
    ]
  where
    inside : (s : Segment) (v n : ℕ) → s.vaddr + s.memsz < 2 ^ 32 → spans s v n ≡ true → v + n < 2 ^ 32
    inside s v n end is =
        let below : v + n ≤ s.vaddr + s.memsz = leb-true (v + n) (s.vaddr + s.memsz) (and_parts (nat_le s.vaddr v) (nat_le (v + n) (s.vaddr + s.memsz)) is).1 in
        omega arith

four_or_more : (b : Bool) → 4 ≤ cond b 8 4
four_or_more true = omega arith
four_or_more false = omega arith

abbrev pub EndsInside : Rel → Type 0
EndsInside r = r.site + 4 ≤ 2 ^ 32

rel_ends : (ss : List Segment) → All IsSized ss → (r : Rel) → IsInPlace ss (site_of_rel r) → EndsInside r
rel_ends ss sized r in_place =
    let more : 4 ≤ site_size r.kind = four_or_more (r.kind == R_ARM_FUNCDESC_VALUE) in
    let end : r.site + site_size r.kind < 2 ^ 32 = ends_in ss r.site (site_size r.kind) sized in_place.writable in
    omega arith

fixup_ends : (ss : List Segment) → All IsSized ss → (v : ℕ) → IsInPlace ss (word_site v) → EndsInside (fixup_at v)
fixup_ends ss sized v in_place =
    let end : v + 4 < 2 ^ 32 = ends_in ss v 4 sized in_place.writable in
    omega arith

-- each site of a sound object has its word within the link addresses
pub sites_end : (o : Object) → IsSound o → All (λ r. r.site + 4 ≤ 2 ^ 32) (site_relocations o)
sites_end o sound =
    let ss = o.segments in
    let fixups : List ℕ = unwrap_or o.fixups [] in
    let P : Site → Type 0 = IsInPlace ss in
    let slots : List Site = map site_of_rel o.jmprels in
    let words : List Site = map word_site fixups in
    let ahead : All P (got_header o.got ∷ map site_of_rel o.rels ++ slots) = all_front P (got_header o.got ∷ map site_of_rel o.rels ++ slots) words sound.in_place in
    let rels : All P (map site_of_rel o.rels) = All-tail P (got_header o.got) (map site_of_rel o.rels) (all_front P (got_header o.got ∷ map site_of_rel o.rels) slots ahead) in
    All-append EndsInside (o.rels ++ o.jmprels) (map fixup_at fixups)
    (All-append EndsInside o.rels o.jmprels
    (All-weaker (λ r. P (site_of_rel r)) EndsInside (rel_ends ss sound.sized) o.rels (all_unmapped P site_of_rel o.rels rels))
    (All-weaker (λ r. P (site_of_rel r)) EndsInside (rel_ends ss sound.sized) o.jmprels
    (all_unmapped P site_of_rel o.jmprels (all_back P (got_header o.got ∷ map site_of_rel o.rels) slots ahead))))
    (All-map EndsInside fixup_at fixups
    (All-weaker (λ v. P (word_site v)) (λ v. EndsInside (fixup_at v)) (fixup_ends ss sound.sized) fixups
    (all_unmapped P word_site fixups (all_back P (got_header o.got ∷ map site_of_rel o.rels ++ slots) words sound.in_place))))
