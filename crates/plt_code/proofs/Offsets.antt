-- The sites of slots, and their offsets from the GOT.
use Rattle.std.proofs.Common.{◌≡◌, ℕ, ◌+◌, ◌^◌, ◌<◌, ◌&&◌, [], ◌∷◌, ◌++◌, length, map, get_or, Some, All, AllPairs, sym, ap, ◌∙◌, subst, inl, inr, arith}
use Rattle.std.specs.Prelude.{nat_le, unwrap_or}
use Rattle.std.proofs.lemmas.Bool.{and_parts, leb-true, cases_lt}
use Rattle.std.proofs.lemmas.List.{length-map, get_or-map}
use Rattle.std.proofs.lemmas.Option.{slice_get_within, get_or_from_slice_get}
use Rattle.elf_model.specs.declared.constants.TheConstants.{PF_W, R_ARM_FUNCDESC_VALUE}
use Rattle.elf_model.specs.declared.object.Object.{Object}
use Rattle.elf_model.specs.declared.object.Rel.{Rel}
use Rattle.elf_model.specs.declared.table.Site.{Site}
use Rattle.elf_model.specs.Segments.{has_flag}
use Rattle.elf_model.specs.Relocations.{got_header, word_site, site_size}
use Rattle.elf_model.specs.Places.{site_of_rel, filled_ranges, spans, slot_of}
use Rattle.elf_model.specs.Sound.{IsSound, IsSized, IsInPlace, RangesApart}
use Rattle.fd_base.specs.Sums.{minus}
use Rattle.fd_base.proofs.Finding.{any_at}
use Rattle.fd_base.proofs.Lists.{all_at, all_back, all_front, pairs_back, pairs_front}

-- ---- sites of slots

-- what holds of all filled ranges holds of the slots' sites, and of the header of the GOT
slot_sites : (P : Site → Type 0) (o : Object) → All P (filled_ranges o) → All P (map site_of_rel o.jmprels)
slot_sites P o all =
    all_back P (got_header o.got ∷ map site_of_rel o.rels) (map site_of_rel o.jmprels)
    (all_front P (got_header o.got ∷ map site_of_rel o.rels ++ map site_of_rel o.jmprels) (map word_site (unwrap_or o.fixups [])) all)

slot_pairs : (R : Site → Site → Type 0) (o : Object) → AllPairs R (filled_ranges o) → AllPairs R (map site_of_rel o.jmprels)
slot_pairs R o all =
    pairs_back R (got_header o.got ∷ map site_of_rel o.rels) (map site_of_rel o.jmprels)
    (pairs_front R (got_header o.got ∷ map site_of_rel o.rels ++ map site_of_rel o.jmprels) (map word_site (unwrap_or o.fixups [])) all)

site_at : (o : Object) (k : ℕ) (r : Rel) (d : Site) → slot_of o k ≡ Some r → (k < length (map site_of_rel o.jmprels)) × (get_or (map site_of_rel o.jmprels) k d ≡ site_of_rel r)
site_at o k r d is =
    let within : k < length o.jmprels = slice_get_within o.jmprels k r is in (
      simp length-map within,
      get_or-map site_of_rel o.jmprels k r d within ∙ ap site_of_rel (get_or_from_slice_get o.jmprels k r r is),
    )

-- a range in place ends below 2^32
ends_below : (o : Object) (s : Site) → IsSound o → IsInPlace o.segments s → s.addr + s.size < 2 ^ 32
ends_below o s sound in_place =
    let one = any_at (λ t. has_flag t.flags PF_W && spans t s.addr s.size) o.segments in_place.writable in
    let parts = and_parts (has_flag (one.1).flags PF_W) (spans one.1 s.addr s.size) one.2.1 in
    let ends = and_parts (nat_le (one.1).vaddr s.addr) (nat_le (s.addr + s.size) ((one.1).vaddr + (one.1).memsz)) parts.1 in
    let size = all_at IsSized o.segments one.0 one.1 sound.sized one.2.0 in
    omega (arith, leb-true (s.addr + s.size) ((one.1).vaddr + (one.1).memsz) ends.1, size.end)

pub got_small : (o : Object) → IsSound o → o.got + 12 < 2 ^ 32
got_small o sound = ends_below o (got_header o.got) sound (sound.in_place 0 (got_header o.got) (omega arith))

slot_size : (o : Object) (k : ℕ) (r : Rel) → IsSound o → slot_of o k ≡ Some r → site_size r.kind ≡ 8
slot_size o k r sound is =
    let kind : r.kind ≡ R_ARM_FUNCDESC_VALUE = subst (λ (x : Rel). x.kind ≡ R_ARM_FUNCDESC_VALUE) (get_or_from_slice_get o.jmprels k r r is) (sound.slot_kinds k r (slice_get_within o.jmprels k r is)) in
    ap site_size kind

pub site_small : (o : Object) (k : ℕ) (r : Rel) → IsSound o → slot_of o k ≡ Some r → r.site + 8 < 2 ^ 32
site_small o k r sound is =
    let at = site_at o k r (site_of_rel r) is in
    let in_place : IsInPlace o.segments (site_of_rel r) = subst (IsInPlace o.segments) at.1 (slot_sites (IsInPlace o.segments) o sound.in_place k (site_of_rel r) at.0) in
    omega (arith, ends_below o (site_of_rel r) sound in_place, slot_size o k r sound is)

-- ---- offsets

pub one_site : (a b got : ℕ) → a < 2 ^ 32 → b < 2 ^ 32 → got < 2 ^ 32 → minus a got ≡ minus b got → a ≡ b
one_site a b got p q r e = omega arith

-- slots at one offset are one
pub one_offset : (o : Object) (j k : ℕ) (r s : Rel) → IsSound o → slot_of o j ≡ Some r → slot_of o k ≡ Some s → minus r.site o.got ≡ minus s.site o.got → j ≡ k
one_offset o j k r s sound p q e =
    let small_r = site_small o j r sound p in
    let small_s = site_small o k s sound q in
    let small_got = got_small o sound in
    let same : r.site ≡ s.site = one_site r.site s.site o.got (omega arith) (omega arith) (omega arith) e in
    elim (cases_lt j k) [
      | inl lt ↦ absurd (never j k r s p q lt same)
      | inr le ↦ elim (cases_lt k j) [
        | inl lt ↦ absurd (never k j s r q p lt (sym same))
        | inr ge ↦ omega arith
      ]
    ]
  where
    apart : (r s : Rel) → site_size r.kind ≡ 8 → site_size s.kind ≡ 8 → RangesApart (site_of_rel r) (site_of_rel s) → r.site ≡ s.site → ⊥
    apart r s x y (inl h) same = omega arith
    apart r s x y (inr h) same = omega arith

    never : (j k : ℕ) (r s : Rel) → slot_of o j ≡ Some r → slot_of o k ≡ Some s → j < k → r.site ≡ s.site → ⊥
    never j k r s p q lt same =
        let at_j = site_at o j r (site_of_rel r) p in
        let at_k = site_at o k s (site_of_rel r) q in
        let pair = slot_pairs RangesApart o sound.distinct j k (site_of_rel r) lt at_k.0 in
        let ranges : RangesApart (site_of_rel r) (site_of_rel s)
        = subst (λ x. RangesApart x (site_of_rel s)) at_j.1 (subst (RangesApart (get_or (map site_of_rel o.jmprels) j (site_of_rel r))) at_k.1 pair) in
        apart r s (slot_size o j r sound p) (slot_size o k s sound q) ranges same
