-- The linked object.
use Rattle.std.specs.Prelude.{ℕ, ◌+◌, ◌-◌, false, ◌==◌, nat_lt, List, [], ◌∷◌, ◌++◌, map, filter, find, codes, Option, Some, None, option_map, unwrap_or, if◌then◌else◌}
use Rattle.std.specs.Option.{option_map_or}
use Rattle.std.specs.List.{last_or}
use Rattle.std.specs.Str.{bytes_eq}
use Rattle.elf_model.specs.declared.constants.TheConstants.{SHT_INIT_ARRAY, SHT_FINI_ARRAY}
use Rattle.elf_model.specs.declared.object.Extent.{Extent}
use Rattle.elf_model.specs.declared.object.Inits.{Inits}
use Rattle.elf_model.specs.declared.object.Kind.TheVariants.{Exec, Dyn}
use Rattle.elf_model.specs.declared.object.Object.{Object}
use Rattle.elf_model.specs.declared.relocatable.RelObject.{RelObject}
use Rattle.link_model.specs.declared.input.Lib.{Lib}
use Rattle.link_model.specs.declared.input.Mode.{Mode}
use Rattle.link_model.specs.declared.target.Target.{Target}
use Rattle.link_model.specs.DynamicSymbols.{symbols_for}
use Rattle.link_model.specs.DynamicRels.{rels_for, jmprels_for, fixups_for}
use Rattle.link_model.specs.Inputs.{InputSection}
use Rattle.link_model.specs.Joined.{names_of}
use Rattle.link_model.specs.Places.{data_place, section_place, address_of}
use Rattle.link_model.specs.Sections.{text_sections, data_sections}
use Rattle.link_model.specs.Segments.{segments_of}
use Rattle.link_model.specs.Targets.{is_shared, is_static, target_of_name}

-- where a program begins
abbrev pub start_target : Mode → List RelObject → Option Target
start_target mode inputs = option_map (target_of_name mode inputs) (find (bytes_eq (codes "_start")) (names_of inputs))

-- a library is needed by the name that it gives itself, or by that of its file
abbrev pub needed_of : List Lib → List (List ℕ)
needed_of libs = map (λ l. unwrap_or (l.object).soname l.name) libs

-- the sections of a kind, by rising link address
abbrev pub sections_of_kind : List RelObject → ℕ → List InputSection
sections_of_kind inputs kind = filter (λ x. (x.section).kind == kind) (text_sections inputs ++ data_sections inputs)

-- from the first of these sections to the end of the last, where that has bytes (gABI, "Dynamic Section", DT_INIT_ARRAY)
abbrev pub extent_of : Mode → List RelObject → List InputSection → Option Extent
extent_of mode inputs [] = None
extent_of mode inputs (x ∷ xs) =
    let low = section_place mode inputs x.index in
    let high = option_map_or (λ y. section_place mode inputs y.index + (y.section).size) (last_or (Some x) xs) 0 in
    if nat_lt low high then Some (record { addr = low; size = high - low }) else None

-- nothing is called at the start but what the arrays name
abbrev pub inits_for : Mode → List RelObject → Inits
inits_for mode inputs = record {
  init = None;
  fini = None;
  init_array = extent_of mode inputs (sections_of_kind inputs SHT_INIT_ARRAY);
  fini_array = extent_of mode inputs (sections_of_kind inputs SHT_FINI_ARRAY);
}

unfoldable pub object_of : Mode → List ℕ → List RelObject → List Lib → Object
object_of mode soname inputs libs = record {
  kind = if is_shared mode then Dyn else Exec;
  entry = if is_shared mode then 0 else option_map_or (λ t. address_of mode inputs t.spot) (start_target mode inputs) 0;
  segments = segments_of mode inputs;
  got = data_place mode inputs;
  needed = if is_static mode then [] else needed_of libs;
  soname = if is_shared mode then Some soname else None;
  symbols = symbols_for mode inputs;
  rels = rels_for mode inputs;
  jmprels = jmprels_for mode inputs;
  fixups = fixups_for mode inputs;
  symbolic = false;
  now = false;
  inits = inits_for mode inputs;
}
