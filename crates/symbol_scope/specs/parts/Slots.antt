-- Tables by the numbers of their modules.
use Rattle.std.specs.Prelude.{ℕ, ◌-◌, List, ◌++◌, length, replicate, Option, None, refl}
use Rattle.std.specs.Coded.{Coded, code_by, coded×, coded_list, coded_option, coded_ℕ}
use Rattle.symbol_scope.specs.declared.table.Table.{Table}
use Rattle.symbol_scope.specs.Exports.{ExportMap, export_map_code}

-- a place for each number from 0 to 63, without a table where there is no module
abbrev pub Slots : Type 0
Slots = List (Option Table)

abbrev pub table_code : Coded Table
table_code =
    code_by (List ℕ × (List (List ℕ) × ExportMap)) (coded× (coded_list coded_ℕ) (coded× (coded_list (coded_list coded_ℕ)) export_map_code))
    (λ t. (t.name, (t.needed, t.exports)))
    (λ p. record { name = p.0; needed = p.1.0; exports = p.1.1 })
    (λ _. refl)

abbrev pub slots_code : Coded Slots
slots_code = coded_list (coded_option table_code)

-- filled up to 64 places
abbrev pub filled_up : Slots → Slots
filled_up slots = slots ++ replicate (64 - length slots) None

-- what stands in each place, and for how many numbers from 0 on a place is there already
pub record TableSpace : Type 0 where
  pub slots : Slots
  pub room : ℕ

abbrev pub table_space_code : Coded TableSpace
table_space_code = code_by (Slots × ℕ) (coded× slots_code coded_ℕ) (λ t. (t.slots, t.room)) (λ p. record { slots = p.0; room = p.1 }) (λ _. refl)
