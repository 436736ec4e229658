-- When an instruction is obeyed, by its condition (Arm ARM, DDI 0406C, A8.3).
use Rattle.std.specs.Prelude.{ℕ, Bool, true, false, not, ◌&&◌, ◌||◌, ◌==◌, if◌then◌else◌}
use Rattle.a32_machine.specs.declared.cpu.Cpu.{Cpu}

abbrev pub same : Bool → Bool → Bool
same true b = b
same false b = not b

abbrev pub holds : ℕ → Cpu → Bool
holds cond cpu =
    if cond == 0 then cpu.z  -- eq
    else if cond == 1 then not cpu.z  -- ne
    else if cond == 2 then cpu.c  -- cs
    else if cond == 3 then not cpu.c  -- cc
    else if cond == 4 then cpu.n  -- mi
    else if cond == 5 then not cpu.n  -- pl
    else if cond == 6 then cpu.v  -- vs
    else if cond == 7 then not cpu.v  -- vc
    else if cond == 8 then cpu.c && not cpu.z  -- hi
    else if cond == 9 then not cpu.c || cpu.z  -- ls
    else if cond == 10 then same cpu.n cpu.v  -- ge
    else if cond == 11 then not (same cpu.n cpu.v)  -- lt
    else if cond == 12 then not cpu.z && same cpu.n cpu.v  -- gt
    else if cond == 13 then cpu.z || not (same cpu.n cpu.v)  -- le
    else true  -- al
