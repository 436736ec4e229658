-- What it means that a printed name is read again.
use Rattle.std.proofs.Common.{◌≡◌, ℕ, ◌<◌, true, List, ◌++◌, Some}
use Rattle.std.specs.List.{list_all}
use Rattle.a32_isa.specs.Names.{condition_name}
use Rattle.a32_text.specs.Token.{is_word}
use Rattle.a32_text.specs.declared.head.Head.{Head}
use Rattle.a32_text.specs.Word.{mnemonic_with, mnemonic_of}

-- a name is of letters, and with each condition behind it is this head with that condition
abbrev pub IsRead : List ℕ → Head → Type 0
IsRead name head = (list_all is_word name ≡ true) × ((cond : ℕ) → cond < 15 → mnemonic_of (name ++ condition_name cond) ≡ Some (mnemonic_with cond head))
