-- What the slots of modules hold.
use Rattle.std.specs.Prelude.{ℕ, Bool, List, [], map, slice_get, Option, Some, None, option_and_then, Result, Ok, Err, if◌then◌else◌}
use Rattle.std.specs.FinMap.{empty}
use Rattle.load_map.specs.declared.entry.MapEntry.{MapEntry}
use Rattle.load_model.specs.declared.module.SymbolicProcess.{SymbolicProcess}
use Rattle.std.specs.Option.{option_map_or}
use Rattle.elf_model.specs.declared.filled.FilledSite.{FilledSite}
use Rattle.elf_model.specs.declared.func.Func.{Func}
use Rattle.elf_model.specs.declared.object.Object.{Object}
use Rattle.elf_model.specs.declared.object.Rel.{Rel}
use Rattle.load_model.specs.declared.error.LoadRefusal.{LoadRefusal}
use Rattle.load_model.specs.declared.words.SlotPair.{SlotPair}
use Rattle.load_model.specs.Definition.{Linkage}
use Rattle.load_model.specs.Image.{Placing, place_of, got_of}
use Rattle.load_map.specs.Translation.{placed}
use Rattle.load_model.specs.Linkage.{linkage_of}
use Rattle.load_model.specs.Process.{object_at}
use Rattle.load_model.specs.Sites.{function_at}
use Rattle.load_model.specs.Unbound.{stub_of, unbound_of, waits}
use Rattle.elf_model.specs.Filled.{slot_sites}
use Rattle.load_state.specs.Loaded.{placing_of}

-- the function that a slot leads to; none for a weak symbol without a definition
abbrev pub function_or_none : Result (Option Func) LoadRefusal → Option Func
function_or_none (Ok f) = f
function_or_none (Err r) = None

abbrev pub slot_function : Linkage → ℕ → Object → Rel → Option Func
slot_function l m o r = function_or_none (function_at l m o r)

-- those of all slots of a module, in order
abbrev pub targets_of : Linkage → ℕ → Object → List (Option Func)
targets_of l m o = map (slot_function l m o) o.jmprels

-- the function to which slot k of module m leads when it is bound, both counted from 0; none where there is no such slot,
-- too
abbrev pub slot_def : SymbolicProcess → ℕ → ℕ → Option Func
slot_def p m k = option_and_then (λ o. option_and_then (slot_function (linkage_of p) m o) (slice_get o.jmprels k)) (object_at p m)

-- where a slot leads now: to its function, or while it is unbound to its call of the resolver
abbrev pub function_now : Linkage → ℕ → Object → List Bool → FilledSite → Option Func
function_now l m o unbound s = if waits unbound s then Some (stub_of m o s.rel) else slot_function l m o s.rel

-- where a slot lies, and its two words: the placed address to which it leads and the GOT of that module, or zeros
abbrev pub slot_pair_at : Linkage → Placing → ℕ → Object → List Bool → FilledSite → SlotPair
slot_pair_at l p m o unbound s = record {
  addr = placed (p.maps m) s.rel.site;
  code = option_map_or (place_of p) (function_now l m o unbound s) 0;
  got = option_map_or (λ f. got_of p f.module) (function_now l m o unbound s) 0;
}

-- the slots of a module in order
abbrev pub slot_pairs : Linkage → Placing → ℕ → Object → List Bool → List SlotPair
slot_pairs l p m o unbound = map (slot_pair_at l p m o unbound) (slot_sites 0 o.jmprels)

-- those of module m of a process, whose load maps are these; which address a descriptor has doesn't matter
abbrev pub slots_of_module : SymbolicProcess → List (List MapEntry) → ℕ → List SlotPair
slots_of_module p maps m =
    option_map_or (λ o. slot_pairs (linkage_of p) (placing_of p maps empty) m o (unbound_of p m)) (object_at p m) []

-- slot k of module m, both counted from 0
abbrev pub slot_pair_of : SymbolicProcess → List (List MapEntry) → ℕ → ℕ → Option SlotPair
slot_pair_of p maps m k = slice_get (slots_of_module p maps m) k
