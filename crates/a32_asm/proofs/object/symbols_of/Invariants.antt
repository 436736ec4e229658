use Rattle.std.proofs.Common.{◌≡◌, ◌∷◌, map, take}
use Rattle.elf_model.specs.Symbols.{null_symbol}
use Rattle.a32_asm.specs.Object.{symbol_of}
use Rattle.a32_asm.proofs.object.symbols_of.Given as goal

abbrev pub invariant-loop-place : goal.invariant-loop-place
invariant-loop-place l = l.symbols ≡ null_symbol ∷ map (symbol_of l.all) (take l.place-index l.places)
