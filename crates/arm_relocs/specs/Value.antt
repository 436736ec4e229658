-- The words of relocations, with S the symbol's address, A the addend, P the site's address and GOT that of the GOT
-- (ELF for the Arm Architecture, "Static and dynamic relocations"; R_ARM_TARGET1 is here as R_ARM_ABS32).
use Rattle.std.specs.Prelude.{ℕ, Bool, ◌==◌, ◌||◌, Option, Some, None, if◌then◌else◌}
use Rattle.fd_base.specs.Sums.{plus, minus}
use Rattle.elf_model.specs.declared.constants.TheConstants.{R_ARM_ABS32, R_ARM_REL32, R_ARM_GLOB_DAT, R_ARM_GOTOFF32, R_ARM_TARGET1}

-- the kinds whose word is an address
abbrev pub is_address_kind : ℕ → Bool
is_address_kind kind = kind == R_ARM_ABS32 || (kind == R_ARM_TARGET1 || kind == R_ARM_GLOB_DAT)

-- S + A, S + A - P or S + A - GOT, by the kind
abbrev pub apply_value : ℕ → ℕ → ℕ → ℕ → ℕ → Option ℕ
apply_value kind s a p got =
    if is_address_kind kind then Some (plus s a)
    else if kind == R_ARM_REL32 then Some (minus (plus s a) p)
    else if kind == R_ARM_GOTOFF32 then Some (minus (plus s a) got)
    else None
