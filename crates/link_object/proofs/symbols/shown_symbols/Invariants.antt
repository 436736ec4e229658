use Rattle.std.proofs.Common.{◌≡◌, ◌<◌, ◌^◌, ◌∷◌, map, take, All}
use Rattle.elf_model.specs.Symbols.{null_symbol}
use Rattle.link_model.specs.DynamicSymbols.{dynamic_symbol}
use Rattle.link_object.proofs.symbols.shown_symbols.Given as goal

abbrev pub invariant-loop-target : goal.invariant-loop-target
invariant-loop-target l = record {
  listed : l.symbols ≡ null_symbol ∷ map (dynamic_symbol l.layout.mode l.layout.text.inputs.now) (take l.target-index l.shown);
  sizes : All (λ s. s.size < 2 ^ 32) l.symbols;
}
