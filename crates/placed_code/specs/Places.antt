-- What lies at a placed address: the code of a module, and an entry of its procedure linkage table (Arm FDPIC ABI,
-- "Procedure Linkage Table"). And where the entry point and the GOT of a module are placed.
use Rattle.std.specs.Prelude.{ℕ, suc, ◌+◌, ◌-◌, ◌%◌, Bool, ◌&&◌, ◌==◌, List, [], ◌∷◌, find, Option, Some, None, option_map, option_and_then, unwrap_or, if◌then◌else◌}
use Rattle.std.specs.Option.{option_or}
use Rattle.std.specs.List.{zip}
use Rattle.fd_base.specs.Ranges.{is_in}
use Rattle.elf_model.specs.declared.constants.TheConstants.{PF_X}
use Rattle.elf_model.specs.declared.func.Func.{Func}
use Rattle.elf_model.specs.declared.object.Object.{Object}
use Rattle.elf_model.specs.declared.object.Segment.{Segment}
use Rattle.elf_model.specs.Places.{is_executable_in}
use Rattle.elf_model.specs.Segments.{has_flag}
use Rattle.load_map.specs.declared.entry.MapEntry.{MapEntry}
use Rattle.load_map.specs.Maps.{map_at}
use Rattle.load_map.specs.Translation.{placed}
use Rattle.plt_code.specs.Entries.{slot_entered}
use Rattle.load_model.specs.declared.module.Live.{Live}
use Rattle.load_model.specs.declared.module.SlotOf.{SlotOf}
use Rattle.load_model.specs.declared.module.SymbolicProcess.{SymbolicProcess}
use Rattle.load_model.specs.Process.{object_at}
use Rattle.load_model.specs.Unbound.{slot_of}
use Rattle.load_state.specs.Loaded.{got_at}

-- ---- code

-- whether an address lies in an executable segment, as it is placed
abbrev pub is_code_of : ℕ → Segment × MapEntry → Bool
is_code_of a s = has_flag s.0.flags PF_X && is_in s.1.addr s.1.memsz a

-- the link address in module m of what is placed at an address
abbrev pub link_of : ℕ → ℕ → Segment × MapEntry → Func
link_of a m s = record { «module» = m; value = s.1.vaddr + (a - s.1.addr) }

abbrev pub code_in : ℕ → ℕ → Object → List MapEntry → Option Func
code_in a m o load_map = option_map (link_of a m) (find (is_code_of a) (zip o.segments load_map))

-- of some modules, numbered from m on
abbrev pub code_among : List (List MapEntry) → ℕ → ℕ → List (Option Live) → Option Func
code_among maps a m [] = None
code_among maps a m (place ∷ places) =
    option_or (option_and_then (λ live. code_in a m live.object (map_at maps m)) place) (code_among maps a (suc m) places)

-- the live module and the link address whose placed code lies at an address
abbrev pub code_at : SymbolicProcess → List (List MapEntry) → ℕ → Option Func
code_at p maps a = code_among maps a 0 p.modules

-- ---- entries of procedure linkage tables

-- the slot whose entry stands at a link address of a module
abbrev pub slot_at : SymbolicProcess → Func → Option SlotOf
slot_at p f = option_map (slot_of f.module) (option_and_then (λ o. slot_entered o f.value) (object_at p f.module))

-- the slot whose entry is placed at an address
abbrev pub entry_at : SymbolicProcess → List (List MapEntry) → ℕ → Option SlotOf
entry_at p maps a = option_and_then (slot_at p) (code_at p maps a)

-- ---- where modules begin, and their GOTs

-- the placed address of the entry point of a module, where an instruction may stand there
abbrev pub entry_point_in : List MapEntry → Object → Option ℕ
entry_point_in load_map o =
    if o.entry % 4 == 0 && is_executable_in o.segments o.entry then Some (placed load_map o.entry) else None

abbrev pub entry_point : SymbolicProcess → List (List MapEntry) → ℕ → Option ℕ
entry_point p maps m = option_and_then (entry_point_in (map_at maps m)) (object_at p m)

-- the word that r9 holds in a module: its placed GOT, and 0 where none is live
abbrev pub got_word : SymbolicProcess → List (List MapEntry) → ℕ → ℕ
got_word p maps m = unwrap_or (got_at p maps m) 0
