-- The words of a clear entry where it is placed.
use Rattle.std.proofs.Common.{◌≡◌, ℕ, ◌+◌, ◌%◌, ◌^◌, ◌<◌, ◌≤◌, inl, inr, true, cond, Option, Some, Ok, ap, ◌∙◌, arith}
use Rattle.std.proofs.lemmas.List.Elements.{All-weaker}
use Rattle.fd_base.proofs.Lists.{all_at}
use Rattle.elf_model.specs.declared.constants.TheConstants.{PF_W}
use Rattle.elf_model.specs.declared.object.Object.{Object}
use Rattle.elf_model.specs.declared.table.Site.{Site}
use Rattle.elf_model.specs.Places.{file_byte, file_word, filled_ranges}
use Rattle.elf_model.specs.Segments.{has_flag}
use Rattle.elf_model.specs.Sound.{IsSized, RangesApart}
use Rattle.guest_mem.specs.declared.kind.MemKind.{MemKind}
use Rattle.guest_mem.specs.declared.kind.MemKind.TheVariants.{Code, Data, Fixed}
use Rattle.guest_mem.specs.Accesses.{fetch_of, read32_of}
use Rattle.guest_mem.specs.Memory.{byte_at, kind_at, is_marked, is_watched, is_watched_as}
use Rattle.load_image.specs.parts.Laws.{IsOffSite}
use Rattle.load_image.proofs.StandingWords.{others_stay}
use Rattle.load_map.specs.Maps.{map_at}
use Rattle.load_map.specs.Translation.{placed}
use Rattle.load_model.specs.Linkage.{linkage_of}
use Rattle.load_model.specs.Process.{object_at}
use Rattle.load_model.specs.Unbound.{unbound_of}
use Rattle.load_state.specs.Consistent.{IsConsistent}
use Rattle.load_state.specs.Loaded.{Loaded, placing_of}
use Rattle.plt_code.specs.Entries.{IsPltEntry, IsClear, entry_range}
use Rattle.plt_code.proofs.Within.{InCode, in_code}
use Rattle.call_laws.proofs.PlacedCode.{kind_there, byte_there, ends_there, aligned_there}
use Rattle.call_laws.proofs.ReadWords.{file_word_stands, fetched_there, read_there}

off_entry : (v i : ℕ) (q : Site) → i < 20 → RangesApart (entry_range v) q → IsOffSite (v + i) q
off_entry v i q lt (inl before) = inl (omega arith)
off_entry v i q lt (inr after) = inr (omega arith)

module _ (l : Loaded) (h : IsConsistent l) (m v k : ℕ) (o : Object) (live : object_at l.modules.process m ≡ Some o) (entry : IsPltEntry o v k) (clear : IsClear o v k) where
  c : InCode o.segments v 20
  c = in_code o.segments v 20 entry.code

  abbrev p : ℕ
  p = placed (map_at l.modules.maps m) v

  from : c.segment.vaddr ≤ v
  from = c.begin

  to : v + 20 ≤ c.segment.vaddr + c.segment.memsz
  to =
      let size = all_at IsSized o.segments c.place c.segment (h.modules'.standing m o live).sound.sized c.held in
      omega (arith, c.end, size.filled)

  code_there : (i : ℕ) → i < 20 → kind_at l.memory (p + i) ≡ Some Code
  code_there i lt =
      kind_there l h m c.place o c.segment live c.held v i from (omega (arith, to))
      ∙ ap (λ b. Some (cond b Code (cond (has_flag c.segment.flags PF_W) Data Fixed))) c.executable

  pub entry_watched : (i : ℕ) → i < 20 → is_watched l.memory (p + i) ≡ true
  entry_watched i lt = ap (λ (kind : Option MemKind). is_watched_as kind (is_marked l.memory (p + i))) (code_there i lt)

  file_there : (i : ℕ) → i < 20 → byte_at l.memory (p + i) ≡ file_byte o.segments (v + i)
  file_there i lt =
      byte_there l h m c.place o c.segment live c.held v i from (omega (arith, to)) (entry_watched i lt)
      ∙ others_stay (linkage_of l.modules.process) (placing_of l.modules.process l.modules.maps l.modules.addrs) m o (unbound_of l.modules.process m) (v + i)
      (h.modules'.standing m o live).sound (All-weaker (RangesApart (entry_range v)) (IsOffSite (v + i)) (λ q apart. off_entry v i q lt apart) (filled_ranges o) clear.entry)

  place_aligned : p % 4 ≡ 0
  place_aligned = aligned_there l h m c.place o c.segment live c.held v from (omega (arith, to)) entry.aligned

  pub entry_below : l.modules.plan.memory < 2 ^ 32 → p + 20 < 2 ^ 32
  entry_below small = ends_there l h m c.place o c.segment live c.held v 20 from (omega (arith, to)) to small

  word_bytes : (j i : ℕ) → j + 4 ≤ 20 → i < 4 → byte_at l.memory (p + j + i) ≡ file_byte o.segments (v + j + i)
  word_bytes j i room lt =
      let at : p + j + i ≡ p + (j + i) = omega arith in
      let link : v + (j + i) ≡ v + j + i = omega arith in
      ap (byte_at l.memory) at ∙ file_there (j + i) (omega arith) ∙ ap (file_byte o.segments) link

  word_kinds : (j i : ℕ) → j + 4 ≤ 20 → i < 4 → kind_at l.memory (p + j + i) ≡ Some Code
  word_kinds j i room lt =
      let at : p + j + i ≡ p + (j + i) = omega arith in
      ap (kind_at l.memory) at ∙ code_there (j + i) (omega arith)

  pub word_fetched : (j w : ℕ) → j % 4 ≡ 0 → j + 4 ≤ 20 → file_word o.segments (v + j) ≡ w → fetch_of l.memory (p + j) ≡ Ok w
  word_fetched j w four room is =
      let aligned = place_aligned in
      fetched_there l.memory (p + j) w (omega arith) (λ i lt. word_kinds j i room lt)
      (file_word_stands l.memory (p + j) o.segments (v + j) (λ i lt. word_bytes j i room lt) ∙ is)

  pub word_read : (j w : ℕ) → j % 4 ≡ 0 → j + 4 ≤ 20 → file_word o.segments (v + j) ≡ w → read32_of l.memory (p + j) ≡ Ok w
  word_read j w four room is =
      let aligned = place_aligned in
      read_there l.memory (p + j) w Code (omega arith) (λ i lt. word_kinds j i room lt)
      (file_word_stands l.memory (p + j) o.segments (v + j) (λ i lt. word_bytes j i room lt) ∙ is)
