-- What is done with a file that is found.
use Rattle.std.proofs.Common.{◌≡◌, ℕ, ◌≤◌, List, length, Option, Some, None, IfSome, refl, sym, subst, arith, Bool, true, false, nat_lt, MatchBool, ◌≢◌}
use Rattle.std.specs.FinMap.{get}
use Rattle.fd_base.specs.Fetched.{Files}
use Rattle.fdpic_cmd.specs.Outcome.{Outcome, refuses}
use Rattle.fdpic_cmd.specs.declared.status.Refusal.{Refusal}
use Rattle.fdpic_cmd.specs.declared.status.Refusal.TheVariants.{NoFile, TooLong}
use Rattle.fdpic_cmd.specs.Files.{OnFile, OnFound, IsFile, Never}

pub not_long : (n : ℕ) → n ≤ 4194304 → nat_lt 4194304 n ≡ false
not_long n le = grind arith

-- the file is there, and so the outcome is that of its bytes
pub found : (told : Files) (name bytes : List ℕ) (means : List ℕ → Outcome → Type 0) (o : Outcome) → IsFile told name bytes → means bytes o → OnFile told name means o
found told name bytes means o file h =
    let P : Option (List ℕ) → Type 0 = λ f. OnFound name means f o in
    let Q : Bool → Type 0 = λ b. MatchBool b (o ≡ refuses (TooLong name)) (means bytes o) in
    subst P (sym file.found) (subst Q (sym (not_long (length bytes) file.short)) h)

before_found : (name : List ℕ) (means : List ℕ → Outcome → Type 0) (o : Outcome) (f : Option (List ℕ)) → OnFound name Never f o → OnFound name means f o
before_found name means o None h = h
before_found name means o (Some bytes) h =
    elim (nat_lt 4194304 (length bytes)) as (λ b. MatchBool b (o ≡ refuses (TooLong name)) (Never bytes o) → MatchBool b (o ≡ refuses (TooLong name)) (means bytes o)) [
      | true ↦ λ e. e
      | false ↦ λ e. absurd e
    ] h

-- a refusal of the file itself, whatever would be done with its bytes
pub before : (told : Files) (name : List ℕ) (means : List ℕ → Outcome → Type 0) (o : Outcome) → OnFile told name Never o → OnFile told name means o
before told name means o h = before_found name means o (get told name) h

-- the same where files are told
pub before_where : (files : Option Files) (name : List ℕ) (means : List ℕ → Outcome → Type 0) (r : Refusal)
    → IfSome files (λ told. OnFile told name Never (refuses r)) → IfSome files (λ told. OnFile told name means (refuses r))
before_where None name means r h = tt
before_where (Some told) name means r h = before told name means (refuses r) h

-- what holds of each outcome of the bytes holds of that of the file
found_at : (name : List ℕ) (means others : List ℕ → Outcome → Type 0) → ((bytes : List ℕ) (o : Outcome) → means bytes o → others bytes o)
    → (o : Outcome) (f : Option (List ℕ)) → OnFound name means f o → OnFound name others f o
found_at name means others more o None h = h
found_at name means others more o (Some bytes) h =
    elim (nat_lt 4194304 (length bytes)) as (λ b. MatchBool b (o ≡ refuses (TooLong name)) (means bytes o) → MatchBool b (o ≡ refuses (TooLong name)) (others bytes o)) [
      | true ↦ λ e. e
      | false ↦ more bytes o
    ] h

pub found_by : (told : Files) (name : List ℕ) (means others : List ℕ → Outcome → Type 0)
    → ((bytes : List ℕ) (o : Outcome) → means bytes o → others bytes o) → (o : Outcome) → OnFile told name means o → OnFile told name others o
found_by told name means others more o h = found_at name means others more o (get told name) h

-- ---- what an outcome tells of the file

-- the file is there, and this is the outcome of its bytes
pub record Finds (told : Files) (name : List ℕ) (means : List ℕ → Outcome → Type 0) (o : Outcome) : Type 0 where
  pub bytes : List ℕ
  pub file : IsFile told name bytes
  pub meant : means bytes o

module _ (told : Files) (name : List ℕ) (means : List ℕ → Outcome → Type 0) (o : Outcome) (never : (r : Refusal) → o ≢ refuses r) where
  short_or_long : (bytes : List ℕ) (long : Bool) → get told name ≡ Some bytes → nat_lt 4194304 (length bytes) ≡ long
      → MatchBool long (o ≡ refuses (TooLong name)) (means bytes o) → Finds told name means o
  short_or_long bytes true is long h = absurd (never (TooLong name) h)
  short_or_long bytes false is long h = record { bytes = bytes; file = record { found = is; short = grind arith }; meant = h }

  found_or_not : (f : Option (List ℕ)) → get told name ≡ f → OnFound name means f o → Finds told name means o
  found_or_not None is h = absurd (never (NoFile name) h)
  found_or_not (Some bytes) is h = short_or_long bytes (nat_lt 4194304 (length bytes)) is refl h

  -- where the outcome is no refusal, it is that of the file's bytes
  pub finds : OnFile told name means o → Finds told name means o
  finds h = found_or_not (get told name) refl h
