-- The beginning of a run: the program is loaded, and thread 0 stands at its entry point.
use Rattle.std.specs.Prelude.{ℕ, suc, false, List, [], ◌∷◌, ◌++◌, map, replicate, set, Option, Some, None, if◌then◌else◌}
use Rattle.std.specs.Option.{option_map_or, option_to_list}
use Rattle.elf_model.specs.Inits.{has_inits}
use Rattle.a32_machine.specs.declared.cpu.Cpu.{Cpu}
use Rattle.load_model.specs.declared.layout.TheConstants.{PROCESS_END}
use Rattle.load_model.specs.declared.module.Live.{Live}
use Rattle.load_model.specs.declared.module.SymbolicProcess.{SymbolicProcess}
use Rattle.load_state.specs.Loaded.{Loaded}
use Rattle.run_model.specs.declared.event.Event.{Event}
use Rattle.run_model.specs.declared.event.Event.TheVariants.{Load, Skipped}
use Rattle.run_model.specs.declared.thread.Thread.{Thread}
use Rattle.run_model.specs.Courses.{Course, before, course_of}
use Rattle.placed_code.specs.Places.{got_word}
use Rattle.run_model.specs.Calls.{call_begun}
use Rattle.run_model.specs.State.{State}
use Rattle.run_model.specs.Turns.{entering}

-- ---- the modules

-- functions that should be called first are passed over
abbrev pub load_events_of : ℕ → Live → List Event
load_events_of m live = Load m live.name ∷ (if has_inits live.object.inits then Skipped m ∷ [] else [])

-- those of some modules, numbered from m on
abbrev pub load_events_from : ℕ → List (Option Live) → List Event
load_events_from m [] = []
load_events_from m (place ∷ places) = option_map_or (load_events_of m) place [] ++ load_events_from (suc m) places

abbrev pub load_events : SymbolicProcess → List Event
load_events p = load_events_from 0 p.modules

-- ---- thread 0

-- r9 is the GOT, sp the end of the stack, lr the end of the process, and pc the entry point
abbrev pub first_registers : ℕ → ℕ → ℕ → List ℕ
first_registers got stack_end entry = set (set (set (set (replicate 16 0) 9 got) 13 stack_end) 14 PROCESS_END) 15 entry

abbrev pub first_cpu : Loaded → ℕ → Cpu
first_cpu l entry = record { r = first_registers (got_word l.modules.process l.modules.maps 0) l.modules.plan.memory entry; n = false; z = false; c = false; v = false }

abbrev pub first_thread : Loaded → Cpu → Thread
first_thread l cpu = record { cpu = cpu; refusal = 0; calls = option_to_list (call_begun l.modules.process l.modules.maps cpu) }

abbrev pub state_with : Loaded → Thread → State
state_with l thread = record { loaded = l; threads = set (replicate l.modules.plan.threads None) 0 (Some thread); steps = 0 }

-- ---- the run

-- the events before the first step
abbrev pub first_events : Loaded → Thread → List Event
first_events l thread = load_events l.modules.process ++ map (entering 0 0) thread.calls

-- the run of what is loaded, by a schedule, up to a number of steps
abbrev pub run_of : Loaded → ℕ → List (ℕ × ℕ) → ℕ → Course
run_of l limit schedule entry =
    let thread = first_thread l (first_cpu l entry) in
    before (first_events l thread) (course_of limit schedule (state_with l thread))
