-- A hashed table of addresses, by module number and link address.
use Rattle.std.specs.Prelude.{ℕ, Bool, ◌&&◌, nat_eq, Option}
use Rattle.std.specs.declared.hash.FoldHasher.{FoldHasher}
use Rattle.std.specs.declared.hash.BuildHasherDefault.{BuildHasherDefault}
use Rattle.std.specs.HashMap.{get, HashMap}
use Rattle.elf_model.specs.declared.func.Func.{Func}

abbrev pub Hashed : Type 0
Hashed = HashMap (ℕ × ℕ) ℕ (BuildHasherDefault FoldHasher)

abbrev pub is_same_key : ℕ × ℕ → ℕ × ℕ → Bool
is_same_key a b = nat_eq a.0 b.0 && nat_eq a.1 b.1

-- the address of a function
abbrev pub hashed_addr : Hashed → Func → Option ℕ
hashed_addr table f = get is_same_key table (f.module, f.value)
