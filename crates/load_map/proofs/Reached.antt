-- The entry by which a link address is translated.
use Rattle.std.proofs.Common.{◌≡◌, ℕ, ◌+◌, ◌<◌, ◌≤◌, true, Option, Some, None, List, refl, arith}
use Rattle.std.specs.Prelude.{All, IfSome}
use Rattle.std.specs.List.{find}
use Rattle.std.specs.Option.{option_or}
use Rattle.std.proofs.lemmas.Bool.Decides.{nat_tests}
use Rattle.fd_base.proofs.Finding.{find_gives}
use Rattle.load_map.specs.declared.entry.MapEntry.{MapEntry}
use Rattle.load_map.specs.parts.IsLoadMap.{EndsBelow, Translates}
use Rattle.load_map.specs.Translation.{is_held_by, is_end_of}
use Rattle.load_map.proofs.Holding.{held_means}

end_means : (v : ℕ) (e : MapEntry) → is_end_of v e ≡ true → v ≡ e.vaddr + e.memsz
end_means v e h = grind (arith, nat_tests)

-- it holds the address or ends at it
pub reached : (map : List MapEntry) (v : ℕ) → All EndsBelow map → IfSome (option_or (find (is_held_by v) map) (find (is_end_of v) map)) (Translates v)
reached map v ends = by (find (is_held_by v) map) (find (is_end_of v) map) refl refl
  where
    by : (o q : Option MapEntry) → find (is_held_by v) map ≡ o → find (is_end_of v) map ≡ q → IfSome (option_or o q) (Translates v)
    by (Some e) q h k =
        let found = find_gives (is_held_by v) EndsBelow map e h ends in
        let within : (e.vaddr ≤ v) × (v < e.vaddr + e.memsz) = held_means v e found.0 in
        record { above = within.0; below = omega arith; inside = found.1 }
    by None (Some e) h k =
        let found = find_gives (is_end_of v) EndsBelow map e k ends in
        let end : v ≡ e.vaddr + e.memsz = end_means v e found.0 in
        record { above = omega arith; below = omega arith; inside = found.1 }
    by None None h k = tt
