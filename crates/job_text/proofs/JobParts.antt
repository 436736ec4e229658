-- The job of a text, by its first line, the lines behind it and what they give.
use Rattle.std.proofs.Common.{◌≡◌, ℕ, ◌+◌, ◌-◌, ◌^◌, ◌<◌, ◌≤◌, Bool, true, false, List, [], ◌∷◌, length, None, Ok, Err, refl, sym, ap, ◌∙◌, subst, arith}
use Rattle.std.specs.Prelude.{drop, ◌==◌, if◌then◌else◌}
use Rattle.fd_base.specs.Lines.{lines_of, with_byte}
use Rattle.run_model.specs.declared.job.Job.{Job}
use Rattle.job_text.specs.declared.given.Given.{Given}
use Rattle.job_text.specs.declared.limits.Limits.{Limits}
use Rattle.job_text.specs.declared.refusal.JobKind.{JobKind}
use Rattle.job_text.specs.declared.refusal.JobKind.TheVariants.{First}
use Rattle.job_text.specs.declared.refusal.JobErr.{JobErr}
use Rattle.job_text.specs.declared.refusal.JobErr.TheVariants.{Refused, Memory}
use Rattle.job_text.specs.parts.Answers.{IsRefusal, Answers}
use Rattle.job_text.specs.Given.{job_by}
use Rattle.job_text.specs.Job.{is_headed, given_behind, refused_at, first_refusal, job_behind, job_of}

with_byte_longer : (byte : ℕ) (lines : List (List ℕ)) → length (with_byte byte lines) ≤ length lines + 1
with_byte_longer byte [] = omega arith
with_byte_longer byte (line ∷ lines) = omega arith

one_longer : (b : Bool) (byte : ℕ) (lines : List (List ℕ)) → length (if b then [] ∷ lines else with_byte byte lines) ≤ length lines + 1
one_longer true byte lines = omega arith
one_longer false byte lines = with_byte_longer byte lines

-- a text has no more lines than bytes
pub length-lines_of : (bytes : List ℕ) → length (lines_of bytes) ≤ length bytes
length-lines_of [] = omega arith
length-lines_of (byte ∷ bytes) = omega (arith, one_longer (byte == 0x0a) byte (lines_of bytes), length-lines_of bytes)

pub not_headed : (limits : Limits) (lines : List (List ℕ)) → is_headed lines ≡ false → job_of limits lines ≡ Err (refused_at 1 First)
unfolding job_of
not_headed limits lines e = rw e refl

headed : (limits : Limits) (lines left : List (List ℕ)) → is_headed lines ≡ true → left ≡ drop 1 lines → job_of limits lines ≡ job_behind limits left
unfolding job_of
headed limits lines left e is = rw (e, is) refl

refused_behind : (limits : Limits) (left : List (List ℕ)) (e : JobErr) → IsRefusal e (first_refusal limits [] left) → Answers {X = Job} (Err e) (job_behind limits left)
unfolding job_behind
refused_behind limits left (Refused r) why = rw why refl
refused_behind limits left Memory why = tt

pub line_refused : (limits : Limits) (lines left : List (List ℕ)) (e : JobErr) → is_headed lines ≡ true → left ≡ drop 1 lines
    → IsRefusal e (first_refusal limits [] left) → Answers {X = Job} (Err e) (job_of limits lines)
line_refused limits lines left e head is why = subst (Answers {X = Job} (Err e)) (sym (headed limits lines left head is)) (refused_behind limits left e why)

made_behind : (limits : Limits) (left : List (List ℕ)) (job : Job) → first_refusal limits [] left ≡ None → job_by limits (given_behind limits left) ≡ Ok job → job_behind limits left ≡ Ok job
unfolding job_behind
made_behind limits left job passes made = rw (passes, made) refl

pub job_made : (limits : Limits) (lines left : List (List ℕ)) (given : Given) (job : Job) → is_headed lines ≡ true → left ≡ drop 1 lines
    → first_refusal limits [] left ≡ None → given ≡ given_behind limits left → Ok job ≡ job_by limits given → job_of limits lines ≡ Ok job
job_made limits lines left given job head is passes given_is made =
    headed limits lines left head is ∙ made_behind limits left job passes (ap (job_by limits) (sym given_is) ∙ sym made)

unmade_behind : (limits : Limits) (left : List (List ℕ)) (kind : JobKind) → first_refusal limits [] left ≡ None → job_by limits (given_behind limits left) ≡ Err kind
    → job_behind limits left ≡ Err (refused_at (length left + 2) kind)
unfolding job_behind
unmade_behind limits left kind passes unmade = rw (passes, unmade) refl

pub job_unmade : (limits : Limits) (lines left : List (List ℕ)) (given : Given) (kind : JobKind) (number : ℕ) → is_headed lines ≡ true → left ≡ drop 1 lines
    → first_refusal limits [] left ≡ None → given ≡ given_behind limits left → Err kind ≡ job_by limits given → number ≡ length left + 2
    → job_of limits lines ≡ Err (refused_at number kind)
job_unmade limits lines left given kind number head is passes given_is unmade at =
    headed limits lines left head is
    ∙ unmade_behind limits left kind passes (ap (job_by limits) (sym given_is) ∙ sym unmade)
    ∙ ap (λ n. Err (refused_at n kind)) (sym at)

pub ruleset composing = (not_headed, line_refused, job_made, job_unmade)

-- how many lines stand behind the first one
pub lines_left : (bytes text : List ℕ) (left : List (List ℕ)) → lines_of bytes ≡ text ∷ left → length bytes < 2 ^ 32 - 1 → length left + 2 < 2 ^ 32
lines_left bytes text left is few =
    let e : length (lines_of bytes) ≡ length (text ∷ left) = ap length is in omega (arith, length-lines_of bytes)
