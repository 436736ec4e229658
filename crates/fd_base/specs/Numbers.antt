-- The longest file and the longest name, which are this project's own.
use Rattle.std.specs.Prelude.{◌≡◌, ℕ, ◌<◌, ◌↔◌, List, length, Some}
use Rattle.fd_base.specs.declared.name.NameErr.TheVariants.{TooLong}
use Rattle.fd_base.specs.declared.store.TheConstants.{MAX_FILE}
use Rattle.fd_base.specs.Name.{name_refusal_of}

pub record HasNumbers : Type 0 where
  pub max_file : MAX_FILE ≡ 4194304
  pub longest_name : (bytes : List ℕ) → name_refusal_of bytes ≡ Some TooLong ↔ (255 < length bytes)
