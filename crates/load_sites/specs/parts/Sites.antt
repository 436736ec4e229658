-- The parts of a site's value that a call of its own computes.
use Rattle.std.specs.Prelude.{ℕ, Option, Some, Result, Ok, Err, if◌then◌else◌}
use Rattle.elf_model.specs.declared.func.Func.{Func}
use Rattle.elf_model.specs.declared.object.Object.{Object}
use Rattle.elf_model.specs.declared.object.Rel.{Rel}
use Rattle.load_model.specs.declared.error.LoadRefusal.{LoadRefusal}
use Rattle.load_model.specs.declared.error.LoadRefusal.TheVariants.{BadAddress}
use Rattle.load_model.specs.Definition.{Linkage}
use Rattle.load_model.specs.Sites.{own_address, is_code}

-- the function of the module itself that the addend tells
abbrev pub own_function : Linkage → ℕ → Object → Rel → Result (Option Func) LoadRefusal
own_function l m o r = if is_code l (own_address m o r) then Ok (Some (own_address m o r)) else Err (BadAddress m r.site)
