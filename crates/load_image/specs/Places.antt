-- Where modules are placed, by tables that have a place for each module number.
use Rattle.std.specs.Prelude.{ℕ, List, Option, slice_get, option_and_then, map, refl}
use Rattle.std.specs.Coded.{Coded, code_by, coded×, coded_list, coded_option, coded_ℕ}
use Rattle.load_map.specs.declared.entry.MapEntry.{MapEntry}
use Rattle.elf_model.specs.declared.func.Func.{Func}
use Rattle.load_model.specs.Image.{Placing, load_map_at}
use Rattle.load_map.specs.Maps.{map_at}
use Rattle.load_map.specs.Translation.{placed}
use Rattle.load_image.specs.Addresses.{Addresses, addresses_code, addr_in}

pub record PlaceTables : Type 0 where
  -- the load map of each module, and the link address of its GOT
  pub maps : List (List MapEntry)
  pub gots : List (Option ℕ)
  pub descriptors : Addresses

abbrev pub entry_code : Coded MapEntry
entry_code =
    code_by (ℕ × (ℕ × ℕ)) (coded× coded_ℕ (coded× coded_ℕ coded_ℕ))
    (λ e. (e.addr, (e.vaddr, e.memsz)))
    (λ p. record { addr = p.0; vaddr = p.1.0; memsz = p.1.1 })
    (λ _. refl)

abbrev pub tables_code : Coded PlaceTables
tables_code =
    code_by (List (List MapEntry) × (List (Option ℕ) × Addresses)) (coded× (coded_list (coded_list entry_code)) (coded× (coded_list (coded_option coded_ℕ)) addresses_code))
    (λ t. (t.maps, (t.gots, t.descriptors)))
    (λ p. record { maps = p.0; gots = p.1.0; descriptors = p.1.1 })
    (λ _. refl)

-- a number past the table has no GOT
abbrev pub got_in : List (Option ℕ) → ℕ → Option ℕ
got_in gots m = option_and_then (λ place. place) (slice_get gots m)

abbrev pub placing_in : PlaceTables → Placing
placing_in t = record { maps = map_at t.maps; gots = got_in t.gots; load_maps = load_map_at; descriptors = addr_in t.descriptors }

-- functions, each with the placed address of a link address of its own module
abbrev pub placed_pairs_of : List (List MapEntry) → List (Func × ℕ) → List (Func × ℕ)
placed_pairs_of maps pairs = map (λ e. (e.0, placed (map_at maps e.0.module) e.1)) pairs
