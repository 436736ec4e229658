-- Which numbers a field may have.
use Rattle.std.specs.Prelude.{ℕ, ◌%◌, Bool, nat_le, nat_lt, ◌&&◌, ◌==◌}
use Rattle.job_text.specs.declared.limits.Bounds.{Bounds}

-- whether the number lies within the bounds
abbrev pub is_within : Bounds → ℕ → Bool
is_within bounds n = nat_le bounds.least n && (nat_le n bounds.most && (nat_lt 0 bounds.multiple && n % bounds.multiple == 0))
