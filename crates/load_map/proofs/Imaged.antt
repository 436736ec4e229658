-- How long the bytes of a load map are.
use Rattle.std.proofs.Common.{◌≡◌, ◌+◌, ◌*◌, List, [], ◌∷◌, length, refl, arith}
use Rattle.std.specs.List.{flat_map}
use Rattle.load_map.specs.declared.entry.MapEntry.{MapEntry}
use Rattle.load_map.specs.Image.{entry_bytes, bytes_of_map}

length-entries : (es : List MapEntry) → length (flat_map entry_bytes es) ≡ 12 * length es
length-entries [] = refl
length-entries (e ∷ es) = let rest = length-entries es in omega arith

pub length-bytes_of_map : (es : List MapEntry) → length (bytes_of_map es) ≡ 4 + 12 * length es
length-bytes_of_map es = let entries = length-entries es in omega arith
