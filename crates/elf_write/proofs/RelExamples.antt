-- The bytes of a relocatable file, worked by hand.
use Rattle.std.proofs.Common.{◌≡◌, ℕ, ◌++◌, List, [], ◌∷◌, Option, Some, None, refl}
use Rattle.std.specs.Prelude.{codes}
use Rattle.fd_base.specs.Words.{word_bytes}
use Rattle.elf_model.specs.declared.object.Place.{Place}
use Rattle.elf_model.specs.declared.object.Place.TheVariants.{Undefined, Absolute, Common, Section}
use Rattle.elf_model.specs.declared.object.Rel.{Rel}
use Rattle.elf_model.specs.declared.object.Symbol.{Symbol}
use Rattle.elf_model.specs.declared.relocatable.RelObject.{RelObject}
use Rattle.elf_model.specs.declared.relocatable.RelSection.{RelSection}
use Rattle.elf_write.proofs.ObjectExamples.{symbol, rel}
use Rattle.elf_write.specs.RelFile.{rel_file}

abbrev section : Option (List ℕ) → ℕ → ℕ → ℕ → ℕ → List ℕ → List Rel → RelSection
section name kind flags align size filled rels =
    record { name = name; kind = kind; flags = flags; align = align; size = size; filled = filled; rels = rels }

-- Code that calls a function which other files define, zeros without a name, and data at a multiple of 16, of which nine
-- bytes are no whole words. Two symbols have one name.
some_of_each : RelObject
some_of_each = record {
  sections =
      section (Some (codes ".text")) 1 6 4 8 (254 ∷ 255 ∷ 255 ∷ 235 ∷ 30 ∷ 255 ∷ 47 ∷ 225 ∷ []) (rel 0 28 3 ∷ []) ∷
      section None 8 3 8 24 [] [] ∷
      section (Some (codes ".d")) 1 3 16 9 (0 ∷ 0 ∷ 0 ∷ 0 ∷ 4 ∷ 0 ∷ 0 ∷ 0 ∷ 5 ∷ []) (rel 0 163 3 ∷ rel 4 2 1 ∷ []) ∷ [];
  symbols =
      symbol None 0 0 0 0 0 Undefined ∷
      symbol (Some (codes "t")) 4 4 0 2 0 (Section 0) ∷
      symbol None 0 0 0 3 0 (Section 2) ∷
      symbol (Some (codes "put")) 0 0 1 0 2 Undefined ∷
      symbol (Some (codes "t")) 8 24 2 1 0 (Section 1) ∷
      symbol (Some (codes "n")) 0x1234567 0 1 0 3 Absolute ∷
      symbol (Some (codes "c")) 8 12 1 1 0 Common ∷ [];
}

some_of_each_file : rel_file some_of_each ≡ word_bytes (
    0x464c457f ∷ 0x41010101 ∷ 0 ∷ 0 ∷ 0x280001 ∷ 1 ∷ 0 ∷ 0 ∷ 0x102 ∷ 0x5000000 ∷ 0x200034 ∷ 0x280000 ∷ 0x80009 ∷ 0xebfffffe ∷ 0xe12fff1e ∷
    0 ∷ 0 ∷ 4 ∷ 5 ∷ 0x31c00 ∷ 0 ∷ 0x3a300 ∷ 0x400 ∷ 0x10200 ∷ 0 ∷ 0 ∷ 0 ∷ 0 ∷ 0x100 ∷ 0x400 ∷ 0x400 ∷ 0x1000200 ∷ 0 ∷ 0 ∷ 0 ∷ 0x3000300 ∷
    0x300 ∷ 0 ∷ 0 ∷ 0x21000 ∷ 0x700 ∷ 0x800 ∷ 0x1800 ∷ 0x2002100 ∷ 0x900 ∷ 0x23456700 ∷ 1 ∷ 0xf1031000 ∷ 0xbff ∷ 0x800 ∷ 0xc00 ∷
    0xf2001100 ∷ 0x7400ff ∷ 0x747570 ∷ 0x6e0074 ∷ 0x2e000063 ∷ 0x74786574 ∷ 0x642e00 ∷ 0x6d79732e ∷ 0x626174 ∷ 0x7274732e ∷ 0x626174 ∷
    0x7368732e ∷ 0x61747274 ∷ 0x62 ∷ 0 ∷ 0 ∷ 0 ∷ 0 ∷ 0 ∷ 0 ∷ 0 ∷ 0 ∷ 0 ∷ 0x10000 ∷ 0x10000 ∷ 0x60000 ∷ 0 ∷ 0x340000 ∷ 0x80000 ∷ 0 ∷ 0 ∷
    0x40000 ∷ 0 ∷ 0 ∷ 0x80000 ∷ 0x30000 ∷ 0 ∷ 0x400000 ∷ 0x180000 ∷ 0 ∷ 0 ∷ 0x80000 ∷ 0 ∷ 0x70000 ∷ 0x10000 ∷ 0x30000 ∷ 0 ∷ 0x400000 ∷
    0x90000 ∷ 0 ∷ 0 ∷ 0x100000 ∷ 0 ∷ 0 ∷ 0x90000 ∷ 0 ∷ 0 ∷ 0x490000 ∷ 0x80000 ∷ 0x60000 ∷ 0x10000 ∷ 0x40000 ∷ 0x80000 ∷ 0 ∷ 0x90000 ∷ 0 ∷
    0 ∷ 0x510000 ∷ 0x100000 ∷ 0x60000 ∷ 0x30000 ∷ 0x40000 ∷ 0x80000 ∷ 0xa0000 ∷ 0x20000 ∷ 0 ∷ 0 ∷ 0x610000 ∷ 0x700000 ∷ 0x70000 ∷
    0x30000 ∷ 0x40000 ∷ 0x100000 ∷ 0x120000 ∷ 0x30000 ∷ 0 ∷ 0 ∷ 0xd10000 ∷ 0xd0000 ∷ 0 ∷ 0 ∷ 0x10000 ∷ 0 ∷ 0x1a0000 ∷ 0x30000 ∷ 0 ∷ 0 ∷
    0xde0000 ∷ 0x240000 ∷ 0 ∷ 0 ∷ 0x10000 ∷ 0 ∷ []) ++ (0 ∷ 0 ∷ [])
unfolding rel_file some_of_each
some_of_each_file = refl
