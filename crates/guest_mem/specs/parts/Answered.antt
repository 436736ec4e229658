-- How the functions of a memory answer.
use Rattle.std.specs.Prelude.{◌≡◌, Bool, Option, None, Some, Result, Ok, Err}
use Rattle.guest_mem.specs.declared.kind.Access.{Access}
use Rattle.guest_mem.specs.declared.kind.MemKind.{MemKind}
use Rattle.guest_mem.specs.declared.search.Asked.{Asked}
use Rattle.guest_mem.specs.declared.search.Asked.TheVariants as asked
use Rattle.guest_mem.specs.Memory.{is_code_as, is_mapped_as}

-- what an access asks of a byte
abbrev pub is_asked : Asked → Option MemKind → Bool
is_asked asked.Mapped = is_mapped_as
is_asked asked.Code = is_code_as

-- a test answers with the refusal of an access, where there is one
abbrev pub IsRefused : Result (Unit {0}) Access → Option Access → Type 0
IsRefused (Ok passed) refusal = refusal ≡ None
IsRefused (Err e) refusal = refusal ≡ Some e

-- What was wanted is written over the old value; or it is refused, and the old value stays.
abbrev pub IsWritten : {X : Type 0} → Result (Unit {0}) Access → Result X Access → X → X → Type 0
IsWritten (Ok written) wanted old new = wanted ≡ Ok new
IsWritten (Err e) wanted old new = (wanted ≡ Err e) × (new ≡ old)
