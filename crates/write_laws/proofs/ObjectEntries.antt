-- The entries of the dynamic section of a written object: each can be read, and passes its tests.
use Rattle.std.proofs.Common.{◌≡◌, ℕ, ◌+◌, ◌-◌, ◌*◌, ◌^◌, ◌<◌, Bool, true, false, not, cond, ◌&&◌, ◌||◌, List, [], ◌∷◌, ◌++◌, length, map, All, Option, Some, None, refl, ap, arith, length-append}
use Rattle.std.specs.Prelude.{◌==◌, IfSome}
use Rattle.std.specs.Option.{option_map_or}
use Rattle.std.specs.List.{flat_map}
use Rattle.std.proofs.lemmas.Bool.{or_parts, or_from, and_left}
use Rattle.std.proofs.lemmas.Grind.{flat_map-append}
use Rattle.std.proofs.lemmas.List.Elements.{All-nil, All-cons, All-append}
use Rattle.elf_model.specs.declared.constants.TheConstants.{REL_SIZE, SYM_SIZE, DT_NULL, DT_RELA, DT_REL, DT_PLTREL, DT_TEXTREL, DT_FLAGS, DT_SYMENT, DT_RELENT, DF_TEXTREL}
use Rattle.elf_model.specs.declared.object.Extent.{Extent}
use Rattle.elf_model.specs.declared.object.Object.{Object}
use Rattle.elf_model.specs.Segments.{has_flag}
use Rattle.elf_write.specs.declared.entries.Entry.{Entry}
use Rattle.elf_write.specs.Words.{zeros, aligned}
use Rattle.elf_write.specs.Strings.{name_bytes, behind}
use Rattle.elf_write.specs.TableSegment.{entry, entry_if, flag_if, needed_entries, name_entries, needed_place, soname_place, symbol_names, name_strings, rel_entries, slot_entries, table_entries, array_entries, init_entries, other_entries, entries, layout_of}
use Rattle.elf_write.specs.WritableObject.{IsWritableObject}
use Rattle.write_laws.specs.ObjectReadBack.{FitsObjectFields, IsWord, IsExtentFit}
use Rattle.write_laws.proofs.EntryList.{IsEntryFit}

-- an entry that can be read, isn't the last, and passes its tests
pub record IsGoodEntry (e : Entry) : Type 0 where
  pub fit : IsEntryFit e
  pub not_null : (e.tag == DT_NULL) ≡ false
  pub no_rela : (e.tag == DT_RELA || (e.tag == DT_PLTREL && not (e.value == DT_REL))) ≡ false
  pub no_text : (e.tag == DT_TEXTREL || (e.tag == DT_FLAGS && has_flag e.value DF_TEXTREL)) ≡ false
  pub sized : ((e.tag == DT_SYMENT && not (e.value == SYM_SIZE)) || (e.tag == DT_RELENT && not (e.value == REL_SIZE))) ≡ false

-- a tag of which no value is refused
abbrev is_special : ℕ → Bool
is_special tag = tag == DT_NULL || (tag == DT_RELA || (tag == DT_PLTREL || (tag == DT_TEXTREL || (tag == DT_FLAGS || (tag == DT_SYMENT || tag == DT_RELENT)))))

plain : (tag value : ℕ) → tag < 2 ^ 32 → value < 2 ^ 32 → is_special tag ≡ false → IsGoodEntry (entry tag value)
plain tag value t v h =
    let a = or_parts (tag == DT_NULL) (tag == DT_RELA || (tag == DT_PLTREL || (tag == DT_TEXTREL || (tag == DT_FLAGS || (tag == DT_SYMENT || tag == DT_RELENT))))) h in
    let b = or_parts (tag == DT_RELA) (tag == DT_PLTREL || (tag == DT_TEXTREL || (tag == DT_FLAGS || (tag == DT_SYMENT || tag == DT_RELENT)))) a.1 in
    let c = or_parts (tag == DT_PLTREL) (tag == DT_TEXTREL || (tag == DT_FLAGS || (tag == DT_SYMENT || tag == DT_RELENT))) b.1 in
    let d = or_parts (tag == DT_TEXTREL) (tag == DT_FLAGS || (tag == DT_SYMENT || tag == DT_RELENT)) c.1 in
    let e = or_parts (tag == DT_FLAGS) (tag == DT_SYMENT || tag == DT_RELENT) d.1 in
    let f = or_parts (tag == DT_SYMENT) (tag == DT_RELENT) e.1 in
    record {
      fit = record { tag = t; value = v };
      not_null = a.0;
      no_rela = or_from _ _ b.0 (and_left (tag == DT_PLTREL) (not (value == DT_REL)) c.0);
      no_text = or_from _ _ d.0 (and_left (tag == DT_FLAGS) (has_flag value DF_TEXTREL) e.0);
      sized = or_from _ _ (and_left (tag == DT_SYMENT) (not (value == SYM_SIZE)) f.0) (and_left (tag == DT_RELENT) (not (value == REL_SIZE)) f.1);
    }

fixed : (tag value : ℕ) → tag < 2 ^ 32 → value < 2 ^ 32 → (tag == DT_NULL) ≡ false → (tag == DT_RELA || (tag == DT_PLTREL && not (value == DT_REL))) ≡ false → (tag == DT_TEXTREL || (tag == DT_FLAGS && has_flag value DF_TEXTREL)) ≡ false
    → ((tag == DT_SYMENT && not (value == SYM_SIZE)) || (tag == DT_RELENT && not (value == REL_SIZE))) ≡ false → IsGoodEntry (entry tag value)
fixed tag value t v a b c d = record { fit = record { tag = t; value = v }; not_null = a; no_rela = b; no_text = c; sized = d }

-- ---- part by part

one : (e : Entry) → IsGoodEntry e → All IsGoodEntry (e ∷ [])
one e g = All-cons IsGoodEntry e [] g (All-nil IsGoodEntry)

three : (a b c : Entry) → IsGoodEntry a → IsGoodEntry b → IsGoodEntry c → All IsGoodEntry (a ∷ b ∷ c ∷ [])
three a b c p q r = All-cons IsGoodEntry a (b ∷ c ∷ []) p (All-cons IsGoodEntry b (c ∷ []) q (one c r))

needed_good : (at : ℕ) (names : List (List ℕ)) → at + length (flat_map name_bytes (map Some names)) < 2 ^ 32 → All IsGoodEntry (needed_entries at names)
needed_good at [] fits = All-nil IsGoodEntry
needed_good at (name ∷ names) fits =
    let len = length-append (name_bytes (Some name)) (flat_map name_bytes (map Some names)) in
    All-cons IsGoodEntry (entry 1 at) (needed_entries (behind at (Some name)) names) (plain 1 at (omega arith) (omega (arith, fits)) refl) (needed_good (behind at (Some name)) names (omega (arith, fits, len)))

soname_good : (place : ℕ) (o : Option (List ℕ)) → place < 2 ^ 32 → All IsGoodEntry (option_map_or (λ name. entry 14 place ∷ []) o [])
soname_good place None fits = All-nil IsGoodEntry
soname_good place (Some name) fits = one (entry 14 place) (plain 14 place (omega arith) fits refl)

rels_good : (b : Bool) (at n : ℕ) → at < 2 ^ 32 → n < 2 ^ 32 → All IsGoodEntry (cond b [] (entry 17 at ∷ entry 18 n ∷ entry 19 8 ∷ []))
rels_good true at n fits few = All-nil IsGoodEntry
rels_good false at n fits few =
    three (entry 17 at) (entry 18 n) (entry 19 8) (plain 17 at (omega arith) fits refl) (plain 18 n (omega arith) few refl) (fixed 19 8 (omega arith) (omega arith) refl refl refl refl)

slots_good : (b : Bool) (at n : ℕ) → at < 2 ^ 32 → n < 2 ^ 32 → All IsGoodEntry (cond b [] (entry 23 at ∷ entry 2 n ∷ entry 20 17 ∷ []))
slots_good true at n fits few = All-nil IsGoodEntry
slots_good false at n fits few =
    three (entry 23 at) (entry 2 n) (entry 20 17) (plain 23 at (omega arith) fits refl) (plain 2 n (omega arith) few refl) (fixed 20 17 (omega arith) (omega arith) refl refl refl refl)

flag_good : (tag : ℕ) (b : Bool) → IsGoodEntry (entry tag 0) → All IsGoodEntry (flag_if tag b)
flag_good tag true g = one (entry tag 0) g
flag_good tag false g = All-nil IsGoodEntry

value_good : (tag : ℕ) (o : Option ℕ) → ((v : ℕ) → v < 2 ^ 32 → IsGoodEntry (entry tag v)) → IfSome o IsWord → All IsGoodEntry (entry_if tag o)
value_good tag None each fits = All-nil IsGoodEntry
value_good tag (Some v) each fits = one (entry tag v) (each v fits)

array_good : (a b : ℕ) (o : Option Extent) → ((v : ℕ) → v < 2 ^ 32 → IsGoodEntry (entry a v)) → ((v : ℕ) → v < 2 ^ 32 → IsGoodEntry (entry b v)) → IfSome o IsExtentFit → All IsGoodEntry (array_entries a b o)
array_good a b None p q fits = All-nil IsGoodEntry
array_good a b (Some e) p q fits = All-cons IsGoodEntry (entry a e.addr) (entry b e.size ∷ []) (p e.addr fits.0) (one (entry b e.size) (q e.size fits.1))

module _ (o : Object) (w : IsWritableObject o) (f : FitsObjectFields o) where
  names_end : needed_place o + length (flat_map name_bytes (map Some o.needed)) ≡ length (name_strings o)
  names_end =
      let a = ap length (flat_map-append name_bytes (symbol_names o) (o.soname ∷ map Some o.needed)) in
      let b = length-append (flat_map name_bytes (symbol_names o)) (flat_map name_bytes (o.soname ∷ map Some o.needed)) in
      let c = length-append (name_bytes o.soname) (flat_map name_bytes (map Some o.needed)) in
      omega (arith, a, b, c)

  names_fit : length (name_strings o) < 2 ^ 32
  names_fit =
      let below = w.below in
      let p = length-append (name_strings o) (zeros (aligned 4 (length (name_strings o)) - length (name_strings o))) in
      omega (arith, below, p)

  pub all_good : All IsGoodEntry (entries o)
  all_good =
      let l = layout_of o in
      let below = w.below in
      let end = names_end in
      let fits = names_fit in
      let inits = o.inits in
      All-append IsGoodEntry (name_entries o) (table_entries l o ++ other_entries o)
      (All-append IsGoodEntry (needed_entries (needed_place o) o.needed) (option_map_or (λ name. entry 14 (soname_place o) ∷ []) o.soname []) (needed_good (needed_place o) o.needed (omega (arith, end, fits)))
      (soname_good (soname_place o) o.soname (omega (arith, end, fits))))
      (All-append IsGoodEntry (table_entries l o) (other_entries o)
      (All-append IsGoodEntry (entry 4 l.hash ∷ entry 5 l.strings ∷ entry 10 (length (name_strings o)) ∷ entry 6 l.symbols ∷ entry 11 16 ∷ []) (rel_entries l.rels o.rels ++ slot_entries l.jmprels o.jmprels)
      (All-cons IsGoodEntry (entry 4 l.hash) (entry 5 l.strings ∷ entry 10 (length (name_strings o)) ∷ entry 6 l.symbols ∷ entry 11 16 ∷ []) (plain 4 l.hash (omega arith) (omega (arith, below)) refl)
      (All-cons IsGoodEntry (entry 5 l.strings) (entry 10 (length (name_strings o)) ∷ entry 6 l.symbols ∷ entry 11 16 ∷ []) (plain 5 l.strings (omega arith) (omega (arith, below)) refl)
      (three (entry 10 (length (name_strings o))) (entry 6 l.symbols) (entry 11 16) (plain 10 (length (name_strings o)) (omega arith) fits refl) (plain 6 l.symbols (omega arith) (omega (arith, below)) refl)
      (fixed 11 16 (omega arith) (omega arith) refl refl refl refl))))
      (All-append IsGoodEntry (rel_entries l.rels o.rels) (slot_entries l.jmprels o.jmprels) (rels_good (length o.rels == 0) l.rels (REL_SIZE * length o.rels) (omega (arith, below)) (omega (arith, below)))
      (slots_good (length o.jmprels == 0) l.jmprels (REL_SIZE * length o.jmprels) (omega (arith, below)) (omega (arith, below)))))
      (All-cons IsGoodEntry (entry 3 o.got) (flag_if 16 o.symbolic ++ (flag_if 24 o.now ++ init_entries inits)) (plain 3 o.got (omega arith) f.got refl)
      (All-append IsGoodEntry (flag_if 16 o.symbolic) (flag_if 24 o.now ++ init_entries inits) (flag_good 16 o.symbolic (plain 16 0 (omega arith) (omega arith) refl))
      (All-append IsGoodEntry (flag_if 24 o.now) (init_entries inits) (flag_good 24 o.now (plain 24 0 (omega arith) (omega arith) refl))
      (All-append IsGoodEntry (entry_if 12 inits.init) (entry_if 13 inits.fini ++ (array_entries 25 27 inits.init_array ++ array_entries 26 28 inits.fini_array))
      (value_good 12 inits.init (λ v fit. plain 12 v (omega arith) fit refl) f.init)
      (All-append IsGoodEntry (entry_if 13 inits.fini) (array_entries 25 27 inits.init_array ++ array_entries 26 28 inits.fini_array) (value_good 13 inits.fini (λ v fit. plain 13 v (omega arith) fit refl) f.fini)
      (All-append IsGoodEntry (array_entries 25 27 inits.init_array) (array_entries 26 28 inits.fini_array)
      (array_good 25 27 inits.init_array (λ v fit. plain 25 v (omega arith) fit refl) (λ v fit. plain 27 v (omega arith) fit refl) f.starts)
      (array_good 26 28 inits.fini_array (λ v fit. plain 26 v (omega arith) fit refl) (λ v fit. plain 28 v (omega arith) fit refl) f.ends))))))))
