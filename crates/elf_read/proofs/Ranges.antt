-- The tables of relocations.
use Rattle.std.proofs.Common.{◌≡◌, ℕ, ◌+◌, ◌*◌, ◌/◌, Bool, true, false, ltb, List, [], ◌∷◌, ◌++◌, Option, Some, None, refl, sym, ap, ◌∙◌}
use Rattle.std.specs.Prelude.{unwrap_or, option_map, filter, not, nat_le, ◌&&◌}
use Rattle.std.specs.Option.{option_map_or}
use Rattle.std.proofs.lemmas.List.{map-append, append-nil}
use Rattle.std.proofs.lemmas.List.Elements.{filter-append}
use Rattle.std.specs.List.{range_with_len}
use Rattle.fd_base.proofs.Lists.{range_more}
use Rattle.elf_model.specs.declared.constants.TheConstants.{DT_REL, DT_RELSZ, DT_JMPREL, DT_PLTRELSZ}
use Rattle.elf_model.specs.declared.table.ProgramHeader.{ProgramHeader}
use Rattle.elf_model.specs.declared.table.DynEntry.{DynEntry}
use Rattle.elf_model.specs.declared.table.RelTable.{RelTable}
use Rattle.elf_model.specs.declared.table.RelTable.TheVariants.{Rel as InRel, JmpRel as InJmpRel}
use Rattle.elf_model.specs.declared.table.RelEntry.{RelEntry}
use Rattle.elf_model.specs.Test.{first_failing}
use Rattle.elf_model.specs.Segments.{held_at}
use Rattle.elf_model.specs.Dynamic.{first_of, value_of}
use Rattle.elf_model.specs.Relocations.{rel_table_at, rel_table_tests, rel_entry, entries_at, own_places, is_slot_entry, rel_entries, jmprel_entries}
use Rattle.elf_read.specs.parts.Tables.{range_of, slot_range, is_inside, entries_of}

-- the tests of a table hold, and it stands there
pub range_found : (loads : List ProgramHeader) (entries : List DynEntry) (tag size_tag : ℕ) (e : DynEntry) (size : Option ℕ) (n at : ℕ)
    → Some e ≡ first_of tag entries → size ≡ value_of size_tag entries → n ≡ unwrap_or size 0 → Some at ≡ rel_table_at loads e.value size → held_at loads e.value (unwrap_or size 0) ≡ Some at → ltb 65536 (n / 8) ≡ false
    → (first_failing (rel_table_tests loads entries tag size_tag) ≡ None) × (Some (record { addr = e.value; size = n; offset = at }) ≡ range_of loads entries tag size_tag)
unfolding rel_table_tests range_of
range_found loads entries tag size_tag e size n at first sized count placed held few =
    rw (← first, ← sized, ← count, ← placed, few) (refl, rw (count, held) refl)

-- ---- entries

all_kept : (xs : List ℕ) → filter (λ _. true) xs ≡ xs
all_kept [] = refl
all_kept (x ∷ xs) = ap (λ ys. x ∷ ys) (all_kept xs)

same_places : (o : Option ℕ) (n addr m : ℕ) → filter (λ k. not (option_map_or (λ first. nat_le first (addr + 8 * k) && nat_le (addr + 8 * k + 8) (first + n)) o false)) (range_with_len 0 m)
    ≡ filter (λ k. not (is_inside (option_map (λ first. record { addr = first; size = n }) o) (addr + 8 * k))) (range_with_len 0 m)
same_places None n addr m = refl
same_places (Some first) n addr m = refl

own_in : (bytes : List ℕ) (loads : List ProgramHeader) (entries : List DynEntry) (o : Option ℕ) (n : ℕ)
    → option_map_or (λ addr. entries_at bytes InRel (unwrap_or (held_at loads addr n) 0) (own_places entries addr n)) o []
    ≡ option_map_or (entries_of bytes InRel (slot_range entries)) (option_map (λ addr. record { addr = addr; size = n; offset = unwrap_or (held_at loads addr n) 0 }) o) []
unfolding slot_range is_slot_entry
own_in bytes loads entries None n = refl
own_in bytes loads entries (Some addr) n =
    ap (entries_at bytes InRel (unwrap_or (held_at loads addr n) 0)) (same_places (value_of DT_JMPREL entries) (unwrap_or (value_of DT_PLTRELSZ entries) 0) addr (n / 8))

-- the entries of DT_REL by where its table stands
pub own_entries : (bytes : List ℕ) (loads : List ProgramHeader) (entries : List DynEntry)
    → rel_entries bytes loads entries ≡ option_map_or (entries_of bytes InRel (slot_range entries)) (range_of loads entries DT_REL DT_RELSZ) []
unfolding rel_entries range_of
own_entries bytes loads entries = own_in bytes loads entries (value_of DT_REL entries) (unwrap_or (value_of DT_RELSZ entries) 0)

slots_in : (bytes : List ℕ) (loads : List ProgramHeader) (o : Option ℕ) (n : ℕ)
    → option_map_or (λ addr. entries_at bytes InJmpRel (unwrap_or (held_at loads addr n) 0) (range_with_len 0 (n / 8))) o []
    ≡ option_map_or (entries_of bytes InJmpRel None) (option_map (λ addr. record { addr = addr; size = n; offset = unwrap_or (held_at loads addr n) 0 }) o) []
slots_in bytes loads None n = refl
slots_in bytes loads (Some addr) n = ap (entries_at bytes InJmpRel (unwrap_or (held_at loads addr n) 0)) (sym (all_kept (range_with_len 0 (n / 8))))

-- those of DT_JMPREL
pub slot_entries : (bytes : List ℕ) (loads : List ProgramHeader) (entries : List DynEntry)
    → jmprel_entries bytes loads entries ≡ option_map_or (entries_of bytes InJmpRel None) (range_of loads entries DT_JMPREL DT_PLTRELSZ) []
unfolding jmprel_entries range_of
slot_entries bytes loads entries = slots_in bytes loads (value_of DT_JMPREL entries) (unwrap_or (value_of DT_PLTRELSZ entries) 0)

-- ---- one more place of a table

entries_push : (bytes : List ℕ) (table : RelTable) (offset k : ℕ) (p : ℕ → Bool) → entries_at bytes table offset (filter p (range_with_len 0 (k + 1)))
    ≡ entries_at bytes table offset (filter p (range_with_len 0 k)) ++ entries_at bytes table offset (filter p (k ∷ []))
entries_push bytes table offset k p =
    ap (λ ns. entries_at bytes table offset (filter p ns)) (range_more k)
    ∙ ap (λ ns. entries_at bytes table offset ns) (filter-append p (range_with_len 0 k) (k ∷ []))
    ∙ map-append (λ k. rel_entry bytes table (offset + 8 * k)) (filter p (range_with_len 0 k)) (filter p (k ∷ []))

-- it is read
pub entries_more : (bytes : List ℕ) (table : RelTable) (offset k : ℕ) (p : ℕ → Bool) (entries : List RelEntry) → entries ≡ entries_at bytes table offset (filter p (range_with_len 0 k)) → p k ≡ true
    → entries ++ rel_entry bytes table (offset + 8 * k) ∷ [] ≡ entries_at bytes table offset (filter p (range_with_len 0 (k + 1)))
entries_more bytes table offset k p entries so_far kept = rw (entries_push bytes table offset k p, kept, ← so_far) refl

-- it is left out
pub entries_same : (bytes : List ℕ) (table : RelTable) (offset k : ℕ) (p : ℕ → Bool) (entries : List RelEntry) → entries ≡ entries_at bytes table offset (filter p (range_with_len 0 k)) → p k ≡ false
    → entries ≡ entries_at bytes table offset (filter p (range_with_len 0 (k + 1)))
entries_same bytes table offset k p entries so_far out = rw (entries_push bytes table offset k p, out) (so_far ∙ sym (append-nil _))
