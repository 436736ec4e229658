-- Steps of a thread of which nothing is told, and the instruction behind them.
use Rattle.std.specs.Prelude.{◌≡◌, ℕ, zero, suc, ◌<◌, List, Option, Some, None}
use Rattle.guest_mem.specs.Memory.{GuestMemory}
use Rattle.load_map.specs.declared.entry.MapEntry.{MapEntry}
use Rattle.load_model.specs.declared.module.SymbolicProcess.{SymbolicProcess}
use Rattle.a32_machine.specs.declared.cpu.Cpu.{Cpu}
use Rattle.a32_machine.specs.declared.cpu.StepEnd.{StepEnd}
use Rattle.a32_machine.specs.declared.cpu.StepEnd.TheVariants as end
use Rattle.a32_machine.specs.Registers.{moved_on, pc_of}
use Rattle.a32_machine.specs.Step.{step_of}
use Rattle.a32_machine.specs.Stepped.{stopped, went_on}
use Rattle.placed_code.specs.Places.{entry_at}
use Rattle.run_model.specs.declared.service.Served.{Served}
use Rattle.run_model.specs.declared.thread.Thread.{Thread}
use Rattle.run_model.specs.Instructions.{obeyed_by}
use Rattle.run_turn.specs.parts.QuietCalls.{NoneComplete, calls_after}
use Rattle.run_turn.specs.declared.quiet.Walk.{Walk}
use Rattle.run_turn.specs.declared.quiet.Passed.{Passed}

-- a cpu over a memory
pub record Machine : Type 0 where
  pub cpu : Cpu
  pub memory : GuestMemory

abbrev pub machine_of : Cpu → GuestMemory → Machine
machine_of cpu memory = record { cpu = cpu; memory = memory }

-- ---- quiet steps

-- one step goes on, to an address at which no entry is placed
pub record GoesQuietly (p : SymbolicProcess) (maps : List (List MapEntry)) (old new : Machine) : Type 0 where
  pub step : step_of old.cpu old.memory ≡ went_on new.cpu new.memory
  pub clear : entry_at p maps (pc_of new.cpu) ≡ None

-- so many of them, one after another
abbrev pub GoQuietly : SymbolicProcess → List (List MapEntry) → ℕ → Machine → Machine → Type 0
GoQuietly p maps zero old new = new ≡ old
GoQuietly p maps (suc n) old new = (mid : Machine) × GoQuietly p maps n old mid × GoesQuietly p maps mid new

-- ---- a walk: quiet steps, up to a number

-- the machine stands behind the quiet ones, or one more instruction has ended so; it has gone on, or leaves the machine as it was
abbrev pub WalksOn : Option StepEnd → Machine → Machine → Type 0
WalksOn None mid new = new ≡ mid
WalksOn (Some end.Next) mid new = step_of mid.cpu mid.memory ≡ went_on new.cpu new.memory
WalksOn (Some (end.Service number)) mid new =
    (new ≡ mid) × (step_of mid.cpu mid.memory ≡ record { end_ = end.Service number; cpu = moved_on mid.cpu; memory = mid.memory })
WalksOn (Some (end.Stop why)) mid new = (new ≡ mid) × (step_of mid.cpu mid.memory ≡ stopped mid.cpu mid.memory why)

-- how many they are: all that were asked for, or there is room for the one more
abbrev pub IsWithin : Option StepEnd → ℕ → ℕ → Type 0
IsWithin None most n = n ≡ most
IsWithin (Some e) most n = n < most

pub record HasWalked (p : SymbolicProcess) (maps : List (List MapEntry)) (most : ℕ) (old new : Machine) (walk : Walk) : Type 0 where
  pub mid : Machine
  pub quiet' : GoQuietly p maps walk.quiet old mid
  pub last' : WalksOn walk.last mid new
  pub within : IsWithin walk.last most walk.quiet

-- ---- turns of a thread

-- the thread behind so many steps that complete no call, with this cpu
abbrev pub thread_on : ℕ → Thread → Cpu → Thread
thread_on n thread cpu = record { cpu = cpu; refusal = thread.refusal; calls = calls_after n thread.calls }

-- what the instruction behind the quiet steps came to, if there is one: without it they are all that were asked for
abbrev pub EndsBy : Option Served → ℕ → ℕ → Thread → Machine → Thread → GuestMemory → Type 0
EndsBy None most n thread mid later memory = (n ≡ most) × (later ≡ thread_on n thread mid.cpu) × (memory ≡ mid.memory)
EndsBy (Some served) most n thread mid later memory =
    (n < most) × (record { served = served; cpu = later.cpu; refusal = later.refusal; memory = memory } ≡ obeyed_by mid.cpu thread.refusal mid.memory)

pub record HasObeyedOn (p : SymbolicProcess) (maps : List (List MapEntry)) (most : ℕ) (thread : Thread) (m : GuestMemory) (passed : Passed) (later : Thread) (memory : GuestMemory) : Type 0 where
  pub mid : Machine
  pub quiet' : GoQuietly p maps passed.quiet (machine_of thread.cpu m) mid
  pub stay : NoneComplete passed.quiet thread.calls
  pub counted : later.calls ≡ calls_after passed.quiet thread.calls
  pub last' : EndsBy passed.last most passed.quiet thread mid later memory
