-- Lists of registers: by rising number, each alone or as a range.
use Rattle.std.specs.Prelude.{ℕ, ◌<◌, ◌≤◌, ◌+◌, ◌-◌, ◌^◌, ◌&&◌, ◌||◌, ◌==◌, nat_lt, is_none, IfSome, List, [], ◌∷◌, Option, Some, None, option_and_then, unwrap_or, if◌then◌else◌}
use Rattle.a32_text.specs.declared.list.OpenList.{OpenList}
use Rattle.a32_text.specs.declared.list.ListStep.{ListStep}
use Rattle.a32_text.specs.declared.list.ListStep.TheVariants.{On, Closed, Wrong}
use Rattle.a32_text.specs.Token.{Token, Word, Mark, Gap, COMMA}
use Rattle.a32_text.specs.Word.{register_of}
use Rattle.a32_text.specs.Taking.{Taken, behind_mark}

-- the bits from one place up to another
unfoldable pub bits_from : ℕ → ℕ → ℕ
bits_from first last = 2 ^ (last + 1) - 2 ^ first

abbrev pub opened : OpenList
opened = record { list = 0; low = 0; first = None; last = None }

-- a register: at least `low`, and where a range has begun, at least its first
abbrev pub with_register : OpenList → ℕ → ListStep
with_register so_far r =
    if nat_lt (unwrap_or so_far.first r) so_far.low || nat_lt r (unwrap_or so_far.first r) then Wrong
    else On (record { list = so_far.list; low = so_far.low; first = so_far.first; last = Some r })

-- the mark behind a register: a range begins, or the register or range is in the list
abbrev pub with_mark : OpenList → ℕ → ℕ → ListStep
with_mark so_far r mark =
    if mark == 0x2d && is_none so_far.first then On (record { list = so_far.list; low = so_far.low; first = Some r; last = None })
    else if mark == COMMA then On (record { list = so_far.list + bits_from (unwrap_or so_far.first r) r; low = r + 1; first = None; last = None })
    else if mark == 0x7d then Closed (so_far.list + bits_from (unwrap_or so_far.first r) r)
    else Wrong

abbrev pub of_register : (ℕ → ListStep) → Option ℕ → ListStep
of_register step None = Wrong
of_register step (Some r) = step r

-- what the next token does, where this register waits for its mark
abbrev pub step_by : OpenList → Option ℕ → Token → ListStep
step_by so_far None (Word word) = of_register (with_register so_far) (register_of word)
step_by so_far None (Mark mark) = Wrong
step_by so_far None Gap = Wrong
step_by so_far (Some r) (Word word) = Wrong
step_by so_far (Some r) (Mark mark) = with_mark so_far r mark
step_by so_far (Some r) Gap = Wrong

abbrev pub list_step : OpenList → Token → ListStep
list_step so_far token = step_by so_far so_far.last token

-- the registers of a list that is open, token by token
abbrev pub after_step : ListStep → List Token → (OpenList → Taken ℕ) → Taken ℕ
after_step (On so_far) tokens next = next so_far
after_step (Closed list) tokens next = Some (list, tokens)
after_step Wrong tokens next = None

abbrev pub listing : OpenList → List Token → Taken ℕ
listing so_far [] = None
listing so_far (token ∷ tokens) = after_step (list_step so_far token) tokens (λ next. listing next tokens)

-- what holds of a list that is open
pub record IsOpen (so_far : OpenList) : Type 0 where
  pub low : so_far.low ≤ 16
  pub list : so_far.list < 2 ^ so_far.low
  pub first : IfSome so_far.first (λ f. (so_far.low ≤ f) × (f < 16))
  pub last : IfSome so_far.last (λ r. (so_far.low ≤ unwrap_or so_far.first r) × (unwrap_or so_far.first r ≤ r) × (r < 16))

abbrev pub StaysOpen : ListStep → Type 0
StaysOpen (On so_far) = IsOpen so_far
StaysOpen (Closed list) = Unit {0}
StaysOpen Wrong = Unit {0}

unfoldable pub take_list : List Token → Taken ℕ
take_list tokens = option_and_then (listing opened) (behind_mark 0x7b tokens)
