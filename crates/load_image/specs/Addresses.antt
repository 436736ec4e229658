-- The addresses of functions' descriptors after a load, as data.
use Rattle.std.specs.Prelude.{ℕ, List, Option, refl}
use Rattle.std.specs.Coded.{Coded, code_by, coded×, coded_list, coded_ℕ}
use Rattle.std.specs.FinMap.{get}
use Rattle.elf_model.specs.declared.func.Func.{Func}
use Rattle.func_desc.specs.Functions.{AddrMap, addr_map_code, func_code}
use Rattle.load_model.specs.Descriptors.{descriptors_after}

pub record Addresses : Type 0 where
  -- the address that each function had before
  pub had : AddrMap
  -- the functions with a private descriptor, each with its placed address
  pub privates : List (Func × ℕ)
  -- the functions that are given a slot, each with the slot's address
  pub given : List (Func × ℕ)

abbrev pub pairs_code : Coded (List (Func × ℕ))
pairs_code = coded_list (coded× func_code coded_ℕ)

abbrev pub addresses_code : Coded Addresses
addresses_code =
    code_by (AddrMap × (List (Func × ℕ) × List (Func × ℕ))) (coded× addr_map_code (coded× pairs_code pairs_code))
    (λ a. (a.had, (a.privates, a.given)))
    (λ p. record { had = p.0; privates = p.1.0; given = p.1.1 })
    (λ _. refl)

-- the address of a function's descriptor
abbrev pub addr_in : Addresses → Func → Option ℕ
addr_in a = descriptors_after (λ f. get a.had f) a.privates a.given
