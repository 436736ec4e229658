-- Functions in order, and finite maps from functions to addresses.
use Rattle.std.specs.Prelude.{ℕ, Bool, ◌==◌, refl}
use Rattle.std.specs.declared.cmp.Ordering.{Ordering}
use Rattle.std.specs.Ordering.{nat_cmp, on, then_cmp}
use Rattle.std.specs.List.{list_any}
use Rattle.std.specs.Coded.{Coded, code_by, coded×, coded_ℕ}
use Rattle.std.specs.FinMap.{FinMap, values}
use Rattle.std.specs.FinMap as finite
use Rattle.elf_model.specs.declared.func.Func.{Func}

-- by module, and then by link address
abbrev pub func_cmp : Func → Func → Ordering
func_cmp = then_cmp (on (λ f. f.module) nat_cmp) (on (λ f. f.value) nat_cmp)

abbrev pub func_code : Coded Func
func_code = code_by (ℕ × ℕ) (coded× coded_ℕ coded_ℕ) (λ f. (f.module, f.value)) (λ p. record { «module» = p.0; value = p.1 }) (λ _. refl)

-- the address of each function's descriptor
abbrev pub AddrMap : Type 0
AddrMap = FinMap func_cmp ℕ

abbrev pub addr_map_code : Coded AddrMap
addr_map_code = finite.code func_code coded_ℕ

-- whether a function has the address
abbrev pub has_addr : AddrMap → ℕ → Bool
has_addr addrs a = list_any (λ own. own == a) (values addrs)
