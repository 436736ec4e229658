-- Headers by where the parts of a file stand, which are those of the definition, and that these places are near enough.
use Rattle.std.proofs.Common.{◌≡◌, ℕ, ◌+◌, ◌-◌, ◌*◌, ◌^◌, ◌<◌, ◌≤◌, List, length, Option, Some, None, refl, sym, ap, subst, ◌∙◌, arith, length-append}
use Rattle.std.specs.Prelude.{◌++◌, ◌∷◌, []}
use Rattle.std.specs.Option.{option_map_or}
use Rattle.elf_model.specs.declared.object.Object.{Object}
use Rattle.elf_write.specs.declared.object_layout.ObjectLayout.{ObjectLayout}
use Rattle.elf_write.specs.declared.table_layout.TableLayout.{TableLayout}
use Rattle.elf_write.specs.Words.{aligned}
use Rattle.elf_write.specs.TableSegment.{tables, layout_of, table_segment, table_end, tables_vaddr, fixup_words, dynamic_size}
use Rattle.elf_write.specs.ObjectFile.{load_header, end_of_all, headers_end, tables_offset, names_offset, names_end, sections_offset, dynamic_header, rofixup_header, names_header}
use Rattle.elf_write.specs.parts.ObjectSizes.{IsTableOrder, IsFileLayout, IsPlaced, size_from, tables_load, dynamic_load, rofixup_place, names_place}
use Rattle.elf_write.proofs.Putting.{aligned_from, offset_like_from}
use Rattle.elf_write.proofs.ObjectLengths.{tables_length, file_length}
use Rattle.elf_write.proofs.FileJoined.{names_at}

-- ---- numbers

at_least : (low high other : ℕ) → low ≤ high → other ≡ high → low ≤ other
at_least low high other from is = omega arith

all_behind : (from dynamic hash size end long : ℕ) → hash ≡ from → dynamic + size ≡ end → hash ≤ dynamic → long ≡ end - from → dynamic - hash + size ≡ long
all_behind from dynamic hash size end long begins ends order is = omega arith

below_end : (place size end : ℕ) → place + size ≡ end → end < 2 ^ 32 → place < 2 ^ 32
below_end place size end is below = omega arith

sections_behind : (names names_at sections sections_at : ℕ) → names ≡ names_at → names_at + 20 ≤ sections_at → sections ≡ sections_at → names + 20 ≤ sections
sections_behind names names_at sections sections_at is from is' = omega arith

-- ---- the tables

fixups_first : (t : TableLayout) → IsTableOrder t → t.hash ≤ t.fixups
fixups_first t order = omega (arith, order.symbols', order.strings', order.rels', order.jmprels', order.fixups')

dynamic_behind : (t : TableLayout) → IsTableOrder t → t.hash ≤ t.dynamic
dynamic_behind t order = let first = fixups_first t order in omega (arith, first, order.dynamic')

-- how many bytes they have
pub tables_size : (o : Object) (t : TableLayout) → t ≡ layout_of o → IsTableOrder t → t.dynamic - t.hash + dynamic_size o ≡ length (tables o)
tables_size o t is order =
    all_behind (tables_vaddr o) t.dynamic t.hash (dynamic_size o) (table_end o) (length (tables o))
    (ap (λ x. x.hash) is) (ap (λ x. x.dynamic + dynamic_size o) is) (dynamic_behind t order) (tables_length o)

-- ---- places

-- how far the parts of a file are from each other
pub record IsReached (o : Object) (t : TableLayout) (l : ObjectLayout) : Type 0 where
  pub tables_from : end_of_all (headers_end o) o.segments ≤ l.tables
  pub hash_first : t.hash ≤ t.fixups
  pub dynamic_last : t.fixups ≤ t.dynamic
  pub dynamic_near : t.dynamic < 2 ^ 32
  pub dynamic_within : l.tables + (t.dynamic - t.hash) ≤ l.names
  pub sections_from : l.names + 20 ≤ l.sections
  pub sections_near : l.sections < 2 ^ 32

module _ (o : Object) (t : TableLayout) (l : ObjectLayout) (p : IsPlaced o t l) where
  names_follow : l.names ≡ l.tables + length (tables o)
  names_follow = p.names' ∙ names_at o ∙ ap (λ n. n + length (tables o)) (sym p.tables')

  within : (behind size long : ℕ) → behind + size ≡ long → l.names ≡ l.tables + long → l.tables + behind ≤ l.names
  within behind size long is follows = omega (arith, is, follows)

  pub reached : IsReached o t l
  reached =
      let e = end_of_all (headers_end o) o.segments in
      record {
        tables_from = at_least e (tables_offset o) l.tables (offset_like_from (tables_vaddr o) 16 e) p.tables';
        hash_first = fixups_first t p.order;
        dynamic_last = (p.order).dynamic';
        dynamic_near = below_end t.dynamic (dynamic_size o) (table_end o) (ap (λ x. x.dynamic + dynamic_size o) p.layout) p.below;
        dynamic_within = within (t.dynamic - t.hash) (dynamic_size o) (length (tables o)) (tables_size o t p.layout p.order) names_follow;
        sections_from = sections_behind l.names (names_offset o) l.sections (sections_offset o) p.names' (aligned_from 4 (names_end o)) p.sections';
        sections_near = p.fits;
      }

  left : (long : ℕ) → l.names ≡ l.tables + long → l.names - l.tables ≡ long
  left long follows = omega (arith, follows)

  pub tables_load_is : tables_load t l ≡ load_header (end_of_all (headers_end o) o.segments) (table_segment o)
  tables_load_is =
      let size : l.names - l.tables ≡ length (tables o) = left (length (tables o)) names_follow in
      rw (ap (λ (x : TableLayout). x.hash) p.layout, size, p.tables')

  pub dynamic_load_is : dynamic_load o t l ≡ dynamic_header o
  dynamic_load_is = rw (p.layout, p.tables')

  pub rofixup_place_is : (fixups : List ℕ) → rofixup_place fixups t l ≡ rofixup_header o fixups
  rofixup_place_is fixups = rw (p.layout, p.tables')

  pub names_place_is : names_place l ≡ names_header o
  names_place_is = rw p.names'

-- the fixups and the GOT are below the dynamic section
pub fixups_below : (o : Object) (t : TableLayout) (fixups : List ℕ) → t ≡ layout_of o → o.fixups ≡ Some fixups → t.fixups + 4 * (length fixups + 1) ≡ t.dynamic
fixups_below o t fixups is listed =
    let words : length (fixup_words o) ≡ length (fixups ++ o.got ∷ []) = ap (λ f. length (option_map_or (λ fs. fs ++ o.got ∷ []) f [])) listed in
    let dy : t.dynamic ≡ t.fixups + 4 * length (fixup_words o) = ap (λ x. x.dynamic) is ∙ ap (λ x. x.fixups + 4 * length (fixup_words o)) (sym is) in
    let one = length-append fixups (o.got ∷ []) in
    omega (arith, words, dy, one)

-- ---- the whole

sections_near : (names sections : ℕ) (fixups : Option (List ℕ)) → sections ≡ aligned 4 (names + 20) → size_from names sections fixups ≤ 4194304 → sections < 2 ^ 32
sections_near names sections None is few = omega (arith, is, few)
sections_near names sections (Some fixups) is few = omega (arith, is, few)

-- the parts of a file that is not too long are near
pub sections_fit : (o : Object) (l : ObjectLayout) → IsFileLayout o l → l.size ≤ 4194304 → l.sections < 2 ^ 32
sections_fit o l is few =
    let size : size_from (names_offset o) (sections_offset o) o.fixups ≤ 4194304 = subst (λ n. n ≤ 4194304) (is.size' ∙ file_length o) few in
    subst (λ n. n < 2 ^ 32) (sym is.sections') (sections_near (names_offset o) (sections_offset o) o.fixups refl size)
