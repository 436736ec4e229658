-- Where a text is refused, line by line.
use Rattle.std.specs.Prelude.{◌≡◌, ℕ, ◌+◌, ◌<◌, true, false, List, [], length, take, drop, slice_index_or, Option, Some, None, Err}
use Rattle.job_text.specs.declared.limits.Limits.{Limits}
use Rattle.job_text.specs.declared.refusal.JobKind.{JobKind}
use Rattle.job_text.specs.declared.refusal.JobKind.TheVariants.{First}
use Rattle.job_text.specs.declared.refusal.JobRefusal.{JobRefusal}
use Rattle.job_text.specs.Given.{job_by}
use Rattle.job_text.specs.Job.{is_headed, given_behind, line_refusal, refused_at}

-- what refuses line k of these by the lines before it, where the first of them is line 0
abbrev pub refusal_of_line : Limits → List (List ℕ) → ℕ → Option JobKind
refusal_of_line limits lines k = line_refusal limits (given_behind limits (take k lines)) (slice_index_or lines k [])

-- no line before line k is refused
abbrev pub NoneBefore : Limits → List (List ℕ) → ℕ → Type 0
NoneBefore limits lines k = (j : ℕ) → j < k → refusal_of_line limits lines j ≡ None

-- line k is the first that is refused
pub record IsFirstRefused (limits : Limits) (lines : List (List ℕ)) (k : ℕ) (kind : JobKind) : Type 0 where
  pub within : k < length lines
  pub before : NoneBefore limits lines k
  pub here : refusal_of_line limits lines k ≡ Some kind

-- The three places of a refusal. The lines behind the first one begin with line 2.
pub data RefusedWhere (limits : Limits) (lines : List (List ℕ)) (refusal : JobRefusal) : Type 0 where
  first_line : is_headed lines ≡ false → refusal ≡ refused_at 1 First → RefusedWhere limits lines refusal
  other_line : (k : ℕ) → is_headed lines ≡ true → IsFirstRefused limits (drop 1 lines) k refusal.kind → refusal.line ≡ k + 2
      → RefusedWhere limits lines refusal
  behind_all : is_headed lines ≡ true → NoneBefore limits (drop 1 lines) (length (drop 1 lines))
      → job_by limits (given_behind limits (drop 1 lines)) ≡ Err refusal.kind → refusal.line ≡ length (drop 1 lines) + 2
      → RefusedWhere limits lines refusal
