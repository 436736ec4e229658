-- Which bytes are a name, and why others are none.
use Rattle.std.specs.Prelude.{◌≡◌, ℕ, ◌==◌, nat_lt, if◌then◌else◌, List, length, position, Option, Some, None, option_map, Result, Ok, Err}
use Rattle.fd_base.specs.declared.name.Name.{Name}
use Rattle.fd_base.specs.declared.name.NameErr.{NameErr}
use Rattle.fd_base.specs.declared.name.NameErr.TheVariants.{Empty, TooLong, Zero, Memory}

-- the place of the first zero byte
abbrev pub first_zero : List ℕ → Option ℕ
first_zero bytes = position (λ b. b == 0) bytes

-- Why bytes are no name: the first of the causes. None where they are a name.
abbrev pub name_refusal_of : List ℕ → Option NameErr
name_refusal_of bytes =
    if length bytes == 0 then Some Empty
    else if nat_lt 255 (length bytes) then Some TooLong
    else option_map Zero (first_zero bytes)

-- The name of these bytes, or why they are none. Want of memory is free.
abbrev pub IsNamed : List ℕ → Result Name NameErr → Type 0
IsNamed bytes (Ok name) = (name ≡ bytes) × (name_refusal_of bytes ≡ None)
IsNamed bytes (Err Empty) = name_refusal_of bytes ≡ Some Empty
IsNamed bytes (Err TooLong) = name_refusal_of bytes ≡ Some TooLong
IsNamed bytes (Err (Zero at)) = name_refusal_of bytes ≡ Some (Zero at)
IsNamed bytes (Err Memory) = Unit {0}
