-- Answers of one line that another answer is made of.
use Rattle.std.proofs.Common.{Result, Err, ap}
use Rattle.job_text.specs.declared.refusal.JobKind.{JobKind}
use Rattle.job_text.specs.declared.refusal.LineErr.{LineErr}
use Rattle.job_text.specs.declared.refusal.LineErr.TheVariants.{Refused, Memory}
use Rattle.job_text.specs.parts.Answers.{Says}
use Rattle.job_text.specs.Statement.{said}

-- a refusal is passed on
pub says_as : {X Y : Type 0} (f : X → Y) (e : LineErr) (r : Result X JobKind) → Says (Err e) r → Says {X = Y} (Err e) (said f r)
says_as f (Refused kind) r is = ap (said f) is
says_as f Memory r is = tt
