-- The relocatable object of a text, from what its lines have made and put.
use Rattle.std.specs.Prelude.{ℕ, ◌+◌, Bool, false, ◌&&◌, ◌||◌, ◌==◌, nat_lt, is_none, is_some, List, [], ◌∷◌, ◌++◌, length, get_or, map, filter, Option, Some, None, if◌then◌else◌}
use Rattle.std.specs.Option.{option_map_or}
use Rattle.std.specs.List.{list_any, range_with_len, position_or_len}
use Rattle.std.specs.Str.{bytes_eq}
use Rattle.elf_model.specs.Symbols.{null_symbol}
use Rattle.elf_model.specs.declared.constants.TheConstants.{STB_LOCAL, STB_GLOBAL, STB_WEAK}
use Rattle.elf_model.specs.declared.object.Symbol.{Symbol}
use Rattle.elf_model.specs.declared.object.Rel.{Rel}
use Rattle.elf_model.specs.declared.object.Place.{Place as SymbolPlace}
use Rattle.elf_model.specs.declared.object.Place.TheVariants as at
use Rattle.elf_model.specs.declared.relocatable.RelSection.{RelSection}
use Rattle.elf_model.specs.declared.relocatable.RelObject.{RelObject}
use Rattle.a32_asm.specs.declared.said.Place.{Place}
use Rattle.a32_asm.specs.declared.said.Facts.{Facts}
use Rattle.a32_asm.specs.declared.section.TheConstants.{SECTIONS}
use Rattle.a32_asm.specs.Section.{section_name, section_kind, section_flags}
use Rattle.a32_asm.specs.Known.{no_facts, place_of}
use Rattle.a32_asm.specs.Layout.{Layout}
use Rattle.a32_asm.specs.SecondPass.{RelTo, Contents}

abbrev pub facts_at : Layout → ℕ → Facts
facts_at all k = get_or all.known.facts k no_facts

-- ---- sections

abbrev pub has_label : ℕ → Facts → Bool
has_label k facts = option_map_or (λ (place : Place). place.section == k) facts.label false

-- sections of a size above 0 or with a label
unfoldable pub kept : Layout → List ℕ
kept all = filter (λ k. nat_lt 0 (get_or all.sizes k 0) || list_any (has_label k) all.known.facts) (range_with_len 0 SECTIONS)

-- ---- symbols, as places in the names

abbrev pub names_it : List ℕ → List RelTo → Bool
names_it name rels = list_any (λ (rel : RelTo). bytes_eq name rel.name) rels

-- labels that are neither global nor weak and that a relocation names, by definition
unfoldable pub locals : Layout → Contents → List ℕ
locals all contents = filter (λ k. is_none (facts_at all k).weak && list_any (names_it (get_or all.known.names k [])) contents.rels) all.labels

-- names that are global, weak or not defined, by first appearance
unfoldable pub others : Layout → List ℕ
others all = filter (λ k. is_some (facts_at all k).weak || is_none (facts_at all k).label) (range_with_len 0 (length all.known.names))

abbrev pub binding_of : Facts → ℕ
binding_of facts = option_map_or (λ weak. if weak then STB_WEAK else STB_GLOBAL) facts.weak (if is_some facts.label then STB_LOCAL else STB_GLOBAL)

abbrev pub symbol_place : Layout → Option Place → SymbolPlace
symbol_place all None = at.Undefined
symbol_place all (Some place) = at.Section (position_or_len (λ k. k == place.section) (kept all))

abbrev pub symbol_of : Layout → ℕ → Symbol
symbol_of all k =
    let facts = facts_at all k in
    record { name = Some (get_or all.known.names k []); value = option_map_or (λ (place : Place). place.offset) facts.label 0; size = 0; binding = binding_of facts; kind = facts.kind; visibility = facts.visibility; place = symbol_place all facts.label }

-- ---- the object

abbrev pub rel_of : Layout → List ℕ → RelTo → Rel
rel_of all numbered rel = record { site = rel.site; kind = rel.kind; symbol = 1 + position_or_len (λ k. k == place_of rel.name all.known.names) numbered }

abbrev pub section_of : Layout → Contents → List ℕ → ℕ → RelSection
section_of all contents numbered k = record {
  name = Some (section_name k);
  kind = section_kind k;
  flags = section_flags k;
  align = get_or all.aligns k 0;
  size = get_or all.sizes k 0;
  filled = get_or contents.filled k [];
  rels = map (rel_of all numbered) (get_or contents.rels k []);
}

unfoldable pub object_of : Layout → Contents → RelObject
object_of all contents =
    let numbered = locals all contents ++ others all in
    record { sections = map (section_of all contents numbered) (kept all); symbols = null_symbol ∷ map (symbol_of all) numbered }
