-- Where the parts of a memory lie, and which addresses are listed for modules. The parts are this loader's own: the load maps
-- and then the descriptors of all processes, then the modules, then the stacks.
use Rattle.std.specs.Prelude.{ℕ, ◌+◌, ◌-◌, ◌*◌, ◌/◌, ◌<◌, ◌≤◌, List, [], find}
use Rattle.std.specs.Option.{option_map_or}
use Rattle.std.specs.Str.{bytes_eq}
use Rattle.load_model.specs.declared.layout.TheConstants.{LOAD_MAPS, LOAD_MAPS_SIZE}
use Rattle.load_model.specs.declared.plan.MemPlan.{MemPlan}
use Rattle.load_model.specs.declared.plan.PlaceLine.{PlaceLine}
use Rattle.load_model.specs.declared.plan.TheConstants.{DESCRIPTOR_SIZE}

-- the address of the first descriptor of the first process: that behind the load maps of all processes
abbrev pub descriptors_at : MemPlan → ℕ
descriptors_at plan = LOAD_MAPS + LOAD_MAPS_SIZE * plan.processes

-- the address behind the descriptors of all processes
abbrev pub slots_end : MemPlan → ℕ
slots_end plan = descriptors_at plan + DESCRIPTOR_SIZE * (plan.descriptors * plan.processes)

-- the lowest address of modules: the end of the descriptors, rounded up to a multiple of 16
abbrev pub low_of : MemPlan → ℕ
low_of plan = (slots_end plan + 15) / 16 * 16

-- the address behind the last byte of modules: that of the first stack
abbrev pub high_of : MemPlan → ℕ
high_of plan = plan.memory - plan.threads * plan.stack

-- there are threads and processes, and the parts of the memory fit, in whole numbers
pub record Fits (plan : MemPlan) : Type 0 where
  pub some_threads : 0 < plan.threads
  pub some_processes : 0 < plan.processes
  pub stacks : plan.threads * plan.stack ≤ plan.memory
  pub modules : low_of plan ≤ high_of plan

-- the addresses that are listed for a name: those of its first line
abbrev pub listed_for : List PlaceLine → List ℕ → List ℕ
listed_for lines name = option_map_or (λ line. line.addrs) (find (λ line. bytes_eq line.name name) lines) []
