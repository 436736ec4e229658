-- A file that a command has made is put.
use Rattle.std.proofs.Common.{◌≡◌, ℕ, ◌≤◌, List, Option, Some, None, Result, Ok, Err, IfSome, ap, ◌∙◌}
use Rattle.std.specs.Option.{option_map}
use Rattle.fd_base.specs.Fetched.{Files, with_file}
use Rattle.fd_base.proofs.Changing.{rose_earlier}
use Rattle.fdpic_cmd.specs.declared.status.Failure.{Failure}
use Rattle.fdpic_cmd.specs.declared.status.Failure.TheVariants.{Refused, StoreFault, Memory}
use Rattle.fdpic_cmd.specs.Ended.{Puts, PutsFile}
use Rattle.fdpic_cmd.specs.Files.{PutsBytes}
use Rattle.fdpic_cmd.specs.Outcome.{Outcome, puts}

module _ (means : Files → Outcome → Type 0) (out : List ℕ) where
  put_file : (files mid later : Option Files) (bytes : List ℕ) → mid ≡ files → IfSome files (λ told. means told (puts out bytes))
      → later ≡ option_map (with_file out bytes) mid → IfSome files (PutsFile means out later)
  put_file None mid later bytes same meant put' = tt
  put_file (Some told) mid later bytes same meant put' = record { bytes = bytes; meant = meant; put = put' ∙ ap (option_map (with_file out bytes)) same }

  -- the put of a file that the command means
  pub put_answers : (files mid later : Option Files) (old between new : ℕ) (bytes : List ℕ) (result : Result (Unit {0}) Failure)
      → mid ≡ files → old ≤ between → between ≤ new → IfSome files (λ told. means told (puts out bytes)) → PutsBytes mid later out bytes between new result
      → Puts means out files later old new result
  put_answers files mid later old between new bytes (Ok done) same low high meant put' = put_file files mid later bytes same meant put'
  put_answers files mid later old between new bytes (Err (Refused r)) same low high meant put' = absurd put'
  put_answers files mid later old between new bytes (Err StoreFault) same low high meant put' = rose_earlier old between new low high put'.0
  put_answers files mid later old between new bytes (Err Memory) same low high meant put' = put' ∙ same
