-- Which objects can be written.
use Rattle.std.specs.Prelude.{◌≡◌, ◌≢◌, ℕ, ◌%◌, ◌^◌, ◌<◌, ◌≤◌, Bool, true, false, ◌==◌, nat_lt, ◌||◌, ◌&&◌, List, length, take, All, IfSome}
use Rattle.std.specs.Int.{is_power_of_two}
use Rattle.elf_model.specs.declared.constants.TheConstants.{MAX_ENTRIES, MAX_NEEDED, STT_FUNC, STT_TLS}
use Rattle.elf_model.specs.declared.object.Extent.{Extent}
use Rattle.elf_model.specs.declared.object.Object.{Object}
use Rattle.elf_model.specs.declared.object.Place.{Place}
use Rattle.elf_model.specs.declared.object.Place.TheVariants.{Undefined, Absolute, Here, Common, Section, Dropped}
use Rattle.elf_model.specs.declared.object.Rel.{Rel}
use Rattle.elf_model.specs.declared.object.Segment.{Segment}
use Rattle.elf_model.specs.declared.object.Symbol.{Symbol}
use Rattle.elf_model.specs.declared.table.RelTable.TheVariants.{Rel as InRel}
use Rattle.elf_model.specs.Places.{is_executable_in}
use Rattle.elf_model.specs.Relocations.{is_kind_of}
use Rattle.elf_model.specs.RelSound.{IsNameText}
use Rattle.elf_model.specs.Sound.{IsSound}
use Rattle.elf_model.specs.Symbols.{null_symbol}
use Rattle.elf_write.specs.TableSegment.{table_end}

-- a segment whose alignment can be kept in the file
pub record IsAligned (s : Segment) : Type 0 where
  pub power : is_power_of_two s.align ≡ true
  pub from : 16 ≤ s.align
  pub to : s.align ≤ 4096

-- whether an object's symbol may have this place
abbrev pub is_object_place : Place → Bool
is_object_place Undefined = true
is_object_place Absolute = true
is_object_place Here = true
is_object_place Common = false
is_object_place (Section i) = false
is_object_place Dropped = false

-- a function that the object defines stands at a multiple of 4 in the memory of an executable segment
abbrev pub is_function_placed : List Segment → Symbol → Place → Bool
is_function_placed ss s Undefined = true
is_function_placed ss s Absolute = false
is_function_placed ss s Here = s.value % 4 == 0 && is_executable_in ss s.value
is_function_placed ss s Common = false
is_function_placed ss s (Section i) = false
is_function_placed ss s Dropped = false

-- a symbol of an object of these segments, with numbers that have room in a table
pub record IsSymbolWritable (ss : List Segment) (s : Symbol) : Type 0 where
  pub named : IfSome s.name IsNameText
  pub small_binding : s.binding < 16
  pub small_kind : s.kind < 16
  pub small_visibility : s.visibility < 4
  pub no_tls : s.kind ≢ STT_TLS
  pub placed : is_object_place s.place ≡ true
  pub function : s.kind ≡ STT_FUNC → is_function_placed ss s s.place ≡ true

-- a relocation that fills something, on no symbol or on one of so many
pub record IsRelWritable (symbols : ℕ) (r : Rel) : Type 0 where
  pub fills : r.kind ≢ 0
  pub known_kind : is_kind_of InRel r.kind ≡ true
  pub known_symbol : (r.symbol == 0 || nat_lt r.symbol symbols) ≡ true

-- The object is such as readers accept, with room for one segment more, in which everything has a place in memory.
pub record IsWritableObject (o : Object) : Type 0 where
  pub sound : IsSound o
  pub some_segment : 0 < length o.segments
  pub room : length o.segments ≤ 7
  pub alignments : All IsAligned o.segments
  pub null_first : All (λ s. s ≡ null_symbol) (take 1 o.symbols)
  pub few_symbols : length o.symbols ≤ MAX_ENTRIES
  pub writable_symbols : All (IsSymbolWritable o.segments) o.symbols
  pub few_needed : length o.needed ≤ MAX_NEEDED
  pub needed_named : All IsNameText o.needed
  pub soname_named : IfSome o.soname IsNameText
  pub writable_rels : All (IsRelWritable (length o.symbols)) o.rels
  pub writable_slots : All (IsRelWritable (length o.symbols)) o.jmprels
  pub some_starts : IfSome (o.inits).init_array (λ (e : Extent). 0 < e.size)
  pub some_ends : IfSome (o.inits).fini_array (λ (e : Extent). 0 < e.size)
  pub below : table_end o < 2 ^ 32
