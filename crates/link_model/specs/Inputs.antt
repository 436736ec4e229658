-- The sections, the symbols and the relocations of all inputs: those of the first input, then those of the next, and
-- each input's in its own order.
use Rattle.std.specs.Prelude.{ℕ, ◌+◌, List, length, map, take, slice_get, option_and_then, unwrap_or}
use Rattle.std.specs.List.{enumerate_from, flat_map, sum_by}
use Rattle.elf_model.specs.declared.object.Rel.{Rel}
use Rattle.elf_model.specs.declared.object.Symbol.{Symbol}
use Rattle.elf_model.specs.declared.relocatable.RelObject.{RelObject}
use Rattle.elf_model.specs.declared.relocatable.RelSection.{RelSection}
use Rattle.elf_model.specs.Symbols.{null_symbol}

-- each element with its number
abbrev pub numbered : {X : Type 0} → List X → List (ℕ × X)
numbered xs = enumerate_from 0 xs

-- ---- sections

-- a section: its number among those of all inputs, its input, and its number there
pub record InputSection : Type 0 where
  pub index : ℕ
  pub input : ℕ
  pub number : ℕ
  pub section : RelSection

-- the sections of an input, with the numbers of both
abbrev pub sections_in : ℕ × RelObject → List (ℕ × ℕ × RelSection)
sections_in o = map (λ s. (o.0, s.0, s.1)) (numbered (o.1).sections)

abbrev pub sections_of : List RelObject → List InputSection
sections_of inputs =
    map (λ e. record { index = e.0; input = (e.1).0; number = (e.1).1; section = (e.1).2 }) (numbered (flat_map sections_in (numbered inputs)))

-- the number among those of all inputs of section n of input i
abbrev pub section_number : List RelObject → ℕ → ℕ → ℕ
section_number inputs i n = sum_by (λ o. length o.sections) (take i inputs) + n

-- ---- symbols

-- a symbol: its input, and its number there
pub record InputSymbol : Type 0 where
  pub input : ℕ
  pub number : ℕ
  pub symbol : Symbol

abbrev pub symbols_in : ℕ × RelObject → List InputSymbol
symbols_in o = map (λ s. record { input = o.0; number = s.0; symbol = s.1 }) (numbered (o.1).symbols)

abbrev pub symbols_of : List RelObject → List InputSymbol
symbols_of inputs = flat_map symbols_in (numbered inputs)

-- symbol n of input i
abbrev pub symbol_of : List RelObject → ℕ → ℕ → Symbol
symbol_of inputs i n = unwrap_or (option_and_then (λ o. slice_get o.symbols n) (slice_get inputs i)) null_symbol

-- ---- relocations

-- a relocation: its section, and its place among the relocations there
pub record InputRel : Type 0 where
  pub at : InputSection
  pub place : ℕ
  pub rel : Rel

abbrev pub rels_in : InputSection → List InputRel
rels_in x = map (λ e. record { at = x; place = e.0; rel = e.1 }) (numbered (x.section).rels)

abbrev pub all_rels : List RelObject → List InputRel
all_rels inputs = flat_map rels_in (sections_of inputs)
