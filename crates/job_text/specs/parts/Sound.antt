-- What holds of every job.
use Rattle.std.specs.Prelude.{◌≡◌, ◌≢◌, ℕ, ◌%◌, ◌≤◌, List, length, All}
use Rattle.std.specs.List.{AllPairs}
use Rattle.fd_base.specs.parts.IsName.{IsName}
use Rattle.load_model.specs.declared.plan.PlaceLine.{PlaceLine}
use Rattle.load_model.specs.Plan.{Fits}
use Rattle.run_model.specs.declared.job.Job.{Job}
use Rattle.run_model.specs.declared.job.Turn.{Turn}
use Rattle.job_text.specs.declared.limits.Bounds.{Bounds}
use Rattle.job_text.specs.declared.limits.Limits.{Limits}

-- the number lies within the bounds
pub record IsWithin (bounds : Bounds) (n : ℕ) : Type 0 where
  pub low : bounds.least ≤ n
  pub high : n ≤ bounds.most
  pub multiple : n % bounds.multiple ≡ 0

-- a name, and as many addresses as a place line may have
pub record IsPlaceLine (limits : Limits) (line : PlaceLine) : Type 0 where
  pub name : IsName line.name
  pub some : 1 ≤ length line.addrs
  pub few : length line.addrs ≤ limits.addresses

pub record IsTurn (limits : Limits) (turn : Turn) : Type 0 where
  pub thread : IsWithin limits.thread turn.thread
  pub count : IsWithin limits.count turn.count

-- the place lines have names of their own, and they and the turns are as many as there may be
pub record AreFew (limits : Limits) (places : List PlaceLine) (turns : List Turn) : Type 0 where
  pub few_places : length places ≤ limits.places
  pub own_names : AllPairs (λ (a b : PlaceLine). a.name ≢ b.name) places
  pub few_turns : length turns ≤ limits.turns

pub record IsSound (limits : Limits) (job : Job) : Type 0 where
  pub fits : Fits job.plan
  pub memory : IsWithin limits.memory.bounds job.plan.memory
  pub descriptors : IsWithin limits.descriptors.bounds job.plan.descriptors
  pub stack : IsWithin limits.stack.bounds job.plan.stack
  pub steps : IsWithin limits.steps.bounds job.steps
  pub program : IsName job.program
  pub places : All (IsPlaceLine limits) job.plan.places
  pub turns : All (IsTurn limits) job.turns
  pub few : AreFew limits job.plan.places job.turns
