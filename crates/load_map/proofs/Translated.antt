-- Values from outside: a load map of two segments, and the addresses that it gives.
use Rattle.std.proofs.Common.{◌≡◌, List, [], ◌∷◌, Some, None, refl}
use Rattle.load_map.specs.declared.entry.MapEntry.{MapEntry}
use Rattle.load_map.specs.Translation.{address_of}

abbrev two_segments : List MapEntry
two_segments = record { addr = 0x20000; vaddr = 0; memsz = 0x400 } ∷ record { addr = 0x80000; vaddr = 0x10000; memsz = 0x100 } ∷ []

pub last_byte : address_of two_segments 0x3ff ≡ Some 0x203ff
last_byte = refl

pub end_of_first : address_of two_segments 0x400 ≡ Some 0x20400
end_of_first = refl

pub start_of_second : address_of two_segments 0x10000 ≡ Some 0x80000
start_of_second = refl

pub end_of_second : address_of two_segments 0x10100 ≡ Some 0x80100
end_of_second = refl

pub between_segments : address_of two_segments 0x500 ≡ None
between_segments = refl
