-- A store and a sink in memory.
use Rattle.std.specs.Prelude.{ℕ, List, refl}
use Rattle.std.specs.Coded.{Coded, code_by, coded×, coded_list, coded_ℕ}
use Rattle.std.specs.FinMap as finite
use Rattle.fd_base.specs.parts.Calls.{Calls}
use Rattle.fd_base.specs.Fetched.{Files, with_file}

-- the files of a store in memory, and its calls
pub record KeptFiles : Type 0 where
  pub files : Files
  pub calls : Calls

-- the bytes of a sink in memory, and its calls
pub record KeptBytes : Type 0 where
  pub bytes : List ℕ
  pub calls : Calls

-- how a store in memory is told apart from another: by its files and the numbers of its calls
abbrev pub kept_files_code : Coded KeptFiles
kept_files_code =
    code_by (Files × ((ℕ × List ℕ) × ℕ)) (coded× (finite.code (coded_list coded_ℕ) (coded_list coded_ℕ)) (coded× (coded× coded_ℕ (coded_list coded_ℕ)) coded_ℕ))
    (λ kept. (kept.files, ((kept.calls.made, kept.calls.failing), kept.calls.faults)))
    (λ parts. record { files = parts.0; calls = record { made = parts.1.0.0; failing = parts.1.0.1; faults = parts.1.1 } })
    (λ _. refl)

-- with this file put in
abbrev pub keeps_file : List ℕ → List ℕ → KeptFiles → KeptFiles
keeps_file name bytes kept = record { files = with_file name bytes kept.files; calls = kept.calls }
