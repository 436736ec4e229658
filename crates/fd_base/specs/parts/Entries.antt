-- The entries of a store in memory as files.
use Rattle.std.specs.Prelude.{ℕ, List, map}
use Rattle.std.specs.FinMap.{from_entries}
use Rattle.std.specs.declared.vec.Vec.{Vec}
use Rattle.std.specs.declared.alloc.Global.{Global}
use Rattle.fd_base.specs.Fetched.{Files}

-- a name and its bytes
abbrev pub entry_of : Vec ℕ Global × List ℕ → List ℕ × List ℕ
entry_of entry = (entry.0.items, entry.1)

abbrev pub files_of : List (Vec ℕ Global × List ℕ) → Files
files_of entries = from_entries (map entry_of entries)
