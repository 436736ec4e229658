-- Bytes are one job or refused in one way.
use Rattle.std.proofs.Common.{◌≡◌, ℕ, List, Result, Ok, Err, refl, inl, inr}
use Rattle.std.specs.Prelude.{◌⊎◌}
use Rattle.fd_base.specs.Lines.{lines_of}
use Rattle.run_model.specs.declared.job.Job.{Job}
use Rattle.job_text.specs.Format.{first_format}
use Rattle.job_text.specs.declared.refusal.JobRefusal.{JobRefusal}
use Rattle.job_text.specs.Job.{job_of, IsJob, IsRefused}

one_ok : (answer : Result Job JobRefusal) (x y : Job) → answer ≡ Ok x → answer ≡ Ok y → x ≡ y
one_ok answer x y p q = cc

one_err : (answer : Result Job JobRefusal) (r s : JobRefusal) → answer ≡ Err r → answer ≡ Err s → r ≡ s
one_err answer r s p q = cc

ok_or_err : (answer : Result Job JobRefusal) (x : Job) (r : JobRefusal) → answer ≡ Ok x → answer ≡ Err r → ⊥
ok_or_err answer x r p q = cc

pub same : (bytes : List ℕ) (a b : Job) → IsJob bytes a → IsJob bytes b → a ≡ b
same bytes a b p q = one_ok (job_of first_format (lines_of bytes)) a b p q

pub first : (bytes : List ℕ) (r s : JobRefusal) → IsRefused bytes r → IsRefused bytes s → r ≡ s
first bytes r s p q = one_err (job_of first_format (lines_of bytes)) r s p q

pub exclusive : (bytes : List ℕ) (job : Job) (r : JobRefusal) → IsJob bytes job → IsRefused bytes r → ⊥
exclusive bytes job r p q = ok_or_err (job_of first_format (lines_of bytes)) job r p q

answered : (bytes : List ℕ) (answer : Result Job JobRefusal) → job_of first_format (lines_of bytes) ≡ answer → ((job : Job) × IsJob bytes job) ⊎ ((r : JobRefusal) × IsRefused bytes r)
answered bytes (Ok job) e = inl (job, e)
answered bytes (Err r) e = inr (r, e)

pub either : (bytes : List ℕ) → ((job : Job) × IsJob bytes job) ⊎ ((r : JobRefusal) × IsRefused bytes r)
either bytes = answered bytes (job_of first_format (lines_of bytes)) refl
