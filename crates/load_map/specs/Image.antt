-- The bytes of a load map (FDPIC ABI, "Load maps": the version, which is 0, and the count, and then for each segment
-- its placed address, its link address and its size).
use Rattle.std.specs.Prelude.{ℕ, List, ◌++◌, length}
use Rattle.std.specs.List.{flat_map}
use Rattle.byteorder.specs.Endian.{little_bytes}
use Rattle.load_map.specs.declared.entry.MapEntry.{MapEntry}

abbrev pub entry_bytes : MapEntry → List ℕ
entry_bytes e = little_bytes 4 e.addr ++ little_bytes 4 e.vaddr ++ little_bytes 4 e.memsz

abbrev pub bytes_of_map : List MapEntry → List ℕ
bytes_of_map map = little_bytes 2 0 ++ little_bytes 2 (length map) ++ flat_map entry_bytes map
