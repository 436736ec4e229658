-- The bytes of two objects, worked by hand.
use Rattle.std.proofs.Common.{◌≡◌, ℕ, true, false, List, [], ◌∷◌, Option, Some, None, refl}
use Rattle.std.specs.Prelude.{codes}
use Rattle.fd_base.specs.Words.{word_bytes}
use Rattle.elf_model.specs.Hashed.{step, symbol_hash}
use Rattle.elf_model.specs.declared.object.Kind.TheVariants.{Exec, Dyn}
use Rattle.elf_model.specs.declared.object.Object.{Object}
use Rattle.elf_model.specs.declared.object.Place.{Place}
use Rattle.elf_model.specs.declared.object.Place.TheVariants.{Undefined, Absolute, Here}
use Rattle.elf_model.specs.declared.object.Rel.{Rel}
use Rattle.elf_model.specs.declared.object.Segment.{Segment}
use Rattle.elf_model.specs.declared.object.Symbol.{Symbol}
use Rattle.elf_write.specs.HashTable.{newest}
use Rattle.elf_write.specs.TableSegment.{tables}
use Rattle.elf_write.specs.ObjectFile.{object_file}

abbrev segment : ℕ → ℕ → ℕ → ℕ → List ℕ → Segment
segment vaddr memsz flags align filled = record { vaddr = vaddr; memsz = memsz; flags = flags; align = align; filled = filled }

abbrev pub symbol : Option (List ℕ) → ℕ → ℕ → ℕ → ℕ → ℕ → Place → Symbol
symbol name value size binding kind visibility place =
    record { name = name; value = value; size = size; binding = binding; kind = kind; visibility = visibility; place = place }

abbrev pub rel : ℕ → ℕ → ℕ → Rel
rel site kind on = record { site = site; kind = kind; symbol = on }

-- a program of one segment, without symbols and fixups
tiny : Object
tiny = record {
  kind = Exec;
  entry = 0x8000;
  segments = segment 0x10000 0x20 6 16 (1 ∷ 2 ∷ 3 ∷ []) ∷ [];
  got = 0x10000;
  needed = [];
  soname = None;
  symbols = [];
  rels = [];
  jmprels = [];
  fixups = None;
  symbolic = false;
  now = false;
  inits = record { init = None; fini = None; init_array = None; fini_array = None };
}

tiny_file : object_file tiny ≡ word_bytes (
    0x464c457f ∷ 0x41010101 ∷ 0 ∷ 0 ∷ 0x280002 ∷ 1 ∷ 0x8000 ∷ 0x34 ∷ 0 ∷ 0x5000000 ∷ 0x200034 ∷ 0x280003 ∷ 0 ∷ 1 ∷ 0xa0 ∷ 0x10000 ∷ 0x10000 ∷ 3 ∷
    0x20 ∷ 6 ∷ 0x10 ∷ 1 ∷ 0xb0 ∷ 0x11000 ∷ 0x11000 ∷ 0x48 ∷ 0x48 ∷ 4 ∷ 0x10 ∷ 2 ∷ 0xc0 ∷ 0x11010 ∷ 0x11010 ∷ 0x38 ∷ 0x38 ∷ 4 ∷ 4 ∷ 0 ∷ 0 ∷ 0 ∷
    0x30201 ∷ 0 ∷ 0 ∷ 0 ∷ 1 ∷ 0 ∷ 0 ∷ 0 ∷ 4 ∷ 0x11000 ∷ 5 ∷ 0x1100c ∷ 0xa ∷ 1 ∷ 6 ∷ 0x1100c ∷ 0xb ∷ 0x10 ∷ 3 ∷ 0x10000 ∷ 0 ∷ 0 ∷ [])
unfolding object_file tables newest tiny
tiny_file = refl

-- A shared object with something of everything. The first segment begins at a link address that is no multiple of its
-- alignment, two symbols have one name, and one has none.
whole : Object
whole = record {
  kind = Dyn;
  entry = 0x0;
  segments = segment 0x8004 0x8 5 32 (14 ∷ 240 ∷ 160 ∷ 225 ∷ 9 ∷ []) ∷ segment 0x10008 0x40 6 16 (7 ∷ []) ∷ [];
  got = 0x10008;
  needed = codes "libc.so" ∷ codes "m" ∷ [];
  soname = Some (codes "l.so");
  symbols = symbol (None) 0 0 0 0 0 Undefined ∷ symbol (Some (codes "f")) 32772 4 1 2 0 Here ∷ symbol (Some (codes "abc")) 5 0 2 1 3 Absolute ∷ symbol (None) 0 0 0 3 0 Here ∷ symbol (Some (codes "f")) 0 0 1 0 2 Undefined ∷ [];
  rels = rel 0x10018 2 1 ∷ rel 0x1001c 23 0 ∷ [];
  jmprels = rel 0x10020 164 4 ∷ [];
  fixups = Some (0x10028 ∷ 0x1002c ∷ []);
  symbolic = true;
  now = true;
  inits = record { init = Some (0x8004); fini = Some (0x8008); init_array = Some (record { addr = 0x10030; size = 4 }); fini_array = Some (record { addr = 0x10034; size = 8 }) };
}

whole_file : object_file whole ≡ word_bytes (
    0x464c457f ∷ 0x41010101 ∷ 0 ∷ 0 ∷ 0x280003 ∷ 1 ∷ 0 ∷ 0x34 ∷ 0x270 ∷ 0x5000000 ∷ 0x200034 ∷ 0x280004 ∷ 0x20003 ∷ 1 ∷ 0xc4 ∷ 0x8004 ∷ 0x8004 ∷ 5 ∷
    8 ∷ 5 ∷ 0x20 ∷ 1 ∷ 0xd8 ∷ 0x10008 ∷ 0x10008 ∷ 1 ∷ 0x40 ∷ 6 ∷ 0x10 ∷ 1 ∷ 0xe0 ∷ 0x11000 ∷ 0x11000 ∷ 0x17c ∷ 0x17c ∷ 4 ∷ 0x10 ∷ 2 ∷ 0x19c ∷
    0x110bc ∷ 0x110bc ∷ 0xc0 ∷ 0xc0 ∷ 4 ∷ 4 ∷ 0 ∷ 0 ∷ 0 ∷ 0 ∷ 0xe1a0f00e ∷ 9 ∷ 0 ∷ 0 ∷ 0 ∷ 7 ∷ 0 ∷ 5 ∷ 5 ∷ 3 ∷ 0 ∷ 4 ∷ 0 ∷ 2 ∷ 0 ∷ 0 ∷ 0 ∷ 0 ∷ 1 ∷
    0 ∷ 0 ∷ 0 ∷ 0 ∷ 1 ∷ 0x8004 ∷ 4 ∷ 0x10012 ∷ 3 ∷ 5 ∷ 0 ∷ 0xfff10321 ∷ 0 ∷ 0 ∷ 0 ∷ 0x10003 ∷ 7 ∷ 0 ∷ 0 ∷ 0x210 ∷ 0x61006600 ∷ 0x66006362 ∷
    0x732e6c00 ∷ 0x696c006f ∷ 0x732e6362 ∷ 0x6d006f ∷ 0x10018 ∷ 0x102 ∷ 0x1001c ∷ 0x17 ∷ 0x10020 ∷ 0x4a4 ∷ 0x10028 ∷ 0x1002c ∷ 0x10008 ∷ 1 ∷ 0xe ∷
    1 ∷ 0x16 ∷ 0xe ∷ 9 ∷ 4 ∷ 0x11000 ∷ 5 ∷ 0x11080 ∷ 0xa ∷ 0x18 ∷ 6 ∷ 0x11030 ∷ 0xb ∷ 0x10 ∷ 0x11 ∷ 0x11098 ∷ 0x12 ∷ 0x10 ∷ 0x13 ∷ 8 ∷ 0x17 ∷
    0x110a8 ∷ 2 ∷ 8 ∷ 0x14 ∷ 0x11 ∷ 3 ∷ 0x10008 ∷ 0x10 ∷ 0 ∷ 0x18 ∷ 0 ∷ 0xc ∷ 0x8004 ∷ 0xd ∷ 0x8008 ∷ 0x19 ∷ 0x10030 ∷ 0x1b ∷ 4 ∷ 0x1a ∷ 0x10034 ∷
    0x1c ∷ 8 ∷ 0 ∷ 0 ∷ 0x6f722e00 ∷ 0x75786966 ∷ 0x732e0070 ∷ 0x72747368 ∷ 0x626174 ∷ 0 ∷ 0 ∷ 0 ∷ 0 ∷ 0 ∷ 0 ∷ 0 ∷ 0 ∷ 0 ∷ 0 ∷ 1 ∷ 1 ∷ 2 ∷ 0x110b0 ∷
    0x190 ∷ 0xc ∷ 0 ∷ 0 ∷ 4 ∷ 0 ∷ 0xa ∷ 3 ∷ 0 ∷ 0 ∷ 0x25c ∷ 0x14 ∷ 0 ∷ 0 ∷ 1 ∷ 0 ∷ [])
unfolding object_file tables newest symbol_hash step whole
whole_file = refl
