-- Functions as keys.
use Rattle.std.specs.Prelude.{ℕ}
use Rattle.elf_model.specs.declared.func.Func.{Func}

-- the function of a module's number and a link address
abbrev pub func_of : ℕ × ℕ → Func
func_of key = record { «module» = key.0; value = key.1 }
