-- The file of a text, and what putting it answers.
use Rattle.std.proofs.Common.{◌≡◌, ℕ, ◌≤◌, ◌<◌, List, length, Option, Some, None, Result, Ok, Err, IfSome, Bool, true, nat_lt, if◌then◌else◌, sym, ap, ◌∙◌, arith}
use Rattle.std.specs.Option.{option_map}
use Rattle.fd_base.specs.Fetched.{Files, with_file}
use Rattle.elf_write.specs.declared.error.WriteErr.TheVariants.{TooLong}
use Rattle.elf_write.specs.RelFile.{rel_file}
use Rattle.a32_asm.specs.declared.refusal.AsmRefusal.{AsmRefusal}
use Rattle.a32_asm.specs.Text.{assembled}
use Rattle.a32_asm.specs.Assembles.{IsWritten}
use Rattle.fdpic_cmd.specs.declared.status.Failure.{Failure}
use Rattle.fdpic_cmd.specs.declared.status.Failure.TheVariants.{Refused, StoreFault, Memory}
use Rattle.fdpic_cmd.specs.declared.status.Refusal.{Refusal}
use Rattle.fdpic_cmd.specs.declared.status.Refusal.TheVariants.{Asm, OutTooLong}
use Rattle.fdpic_cmd.specs.Assemble.{short_file, file_of, AsMeans}
use Rattle.fdpic_cmd.specs.Ended.{Makes, Puts}
use Rattle.fdpic_cmd.specs.Files.{IsFile, Fetched, PutsBytes}
use Rattle.fdpic_cmd.specs.Outcome.{Outcome, puts, refuses, put_as}
use Rattle.fdpic_cmd.proofs.FoundFiles.{found, before_where, not_long}
use Rattle.fdpic_cmd.proofs.PutFiles.{put_answers}

-- ---- the file of a text

abbrev short_if : Bool → List ℕ → Result (List ℕ) Refusal
short_if long bytes = if long then Err (OutTooLong (length bytes)) else Ok bytes

is_long : (n : ℕ) → 4194304 < n → nat_lt 4194304 n ≡ true
is_long n lt = grind arith

short : (bytes : List ℕ) → length bytes ≤ 4194304 → short_file bytes ≡ Ok bytes
short bytes le = ap (λ long. short_if long bytes) (not_long (length bytes) le)

long : (bytes : List ℕ) → 4194304 < length bytes → short_file bytes ≡ Err (OutTooLong (length bytes))
long bytes lt = ap (λ long. short_if long bytes) (is_long (length bytes) lt)

pub made : (text bytes : List ℕ) → IsWritten text (Ok bytes) → file_of (assembled text) ≡ Ok bytes
made text bytes h = ap file_of h.is ∙ short (rel_file h.object) h.writes.1 ∙ ap Ok (sym h.writes.0)

pub too_long : (text : List ℕ) (n : ℕ) → IsWritten text (Err (TooLong n)) → file_of (assembled text) ≡ Err (OutTooLong n)
too_long text n h = ap file_of h.is ∙ long (rel_file h.object) h.writes.1 ∙ ap (λ n. Err (OutTooLong n)) (sym h.writes.0)

pub refused : (text : List ℕ) (r : AsmRefusal) → assembled text ≡ Err r → file_of (assembled text) ≡ Err (Asm r)
refused text r is = ap file_of is

-- ---- what putting it answers

abbrev IsPutAs : List ℕ → List ℕ → Outcome → Type 0
IsPutAs out text o = o ≡ put_as out (file_of (assembled text))

module _ (out input : List ℕ) where
  meant : (told : Files) (text : List ℕ) (made : Result (List ℕ) Refusal) → IsFile told input text → file_of (assembled text) ≡ made
      → AsMeans out input told (put_as out made)
  meant told text made file is = found told input text (IsPutAs out) (put_as out made) file (sym (ap (put_as out) is))

  meant_put : (files : Option Files) (text bytes : List ℕ) → IfSome files (λ told. IsFile told input text) → file_of (assembled text) ≡ Ok bytes
      → IfSome files (λ told. AsMeans out input told (puts out bytes))
  meant_put None text bytes file is = tt
  meant_put (Some told) text bytes file is = meant told text (Ok bytes) file is

  -- a file that is put is the one that the command means
  pub put : (files mid later : Option Files) (old between new : ℕ) (text bytes : List ℕ) (result : Result (Unit {0}) Failure) → mid ≡ files → old ≤ between → between ≤ new
      → IfSome files (λ told. IsFile told input text) → file_of (assembled text) ≡ Ok bytes → PutsBytes mid later out bytes between new result
      → Puts (AsMeans out input) out files later old new result
  put files mid later old between new text bytes result same low high file is put' =
      put_answers (AsMeans out input) out files mid later old between new bytes result same low high (meant_put files text bytes file is) put'

  meant_refusal : (files : Option Files) (text : List ℕ) (r : Refusal) → IfSome files (λ told. IsFile told input text) → file_of (assembled text) ≡ Err r
      → IfSome files (λ told. AsMeans out input told (refuses r))
  meant_refusal None text r file is = tt
  meant_refusal (Some told) text r file is = meant told text (Err r) file is

  -- a text without a file
  pub not_made : (files later : Option Files) (old new : ℕ) (text : List ℕ) (e : Failure) → later ≡ files → IfSome files (λ told. IsFile told input text)
      → Makes (file_of (assembled text)) (Err e) → Puts (AsMeans out input) out files later old new (Err e)
  not_made files later old new text (Refused r) same file is = (same, meant_refusal files text r file is)
  not_made files later old new text StoreFault same file is = absurd is
  not_made files later old new text Memory same file is = same

  -- a text that isn't there, is too long or can't be fetched
  pub not_there : (files later : Option Files) (old new : ℕ) (e : Failure) → later ≡ files → Fetched files input old new (Err e)
      → Puts (AsMeans out input) out files later old new (Err e)
  not_there files later old new (Refused r) same h = (same, before_where files input (IsPutAs out) r h)
  not_there files later old new StoreFault same h = h
  not_there files later old new Memory same h = same
