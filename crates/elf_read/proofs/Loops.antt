-- Tests made in a loop.
use Rattle.std.proofs.Common.{◌≡◌, ℕ, ◌+◌, [], ◌∷◌, ◌++◌, map, refl, ◌<◌, List, length, get_or, take, None, arith}
use Rattle.std.proofs.lemmas.List.{take_more, map_push}
use Rattle.elf_model.specs.Test.{ElfTest, first_failing, each_below, each_from}
use Rattle.elf_model.proofs.Tests.{below_fails, items_fail}
use Rattle.elf_read.specs.declared.error.ReadErr.{ReadErr}
use Rattle.elf_read.specs.declared.error.ReadErr.TheVariants.{Refused, Memory}
use Rattle.elf_read.specs.parts.Passes.{IsRefusal}

-- the tests of a place refuse
pub below_stops : (e : ReadErr) (tests : ℕ → List ElfTest) (n i : ℕ) → i < n → first_failing (each_below i tests) ≡ None → IsRefusal e (tests i) → IsRefusal e (each_below n tests)
below_stops Memory tests n i lt before here = tt
below_stops (Refused r) tests n i lt before here = below_fails tests n i r lt before here

-- the tests of an item refuse
pub items_stop : {X : Type 0} (e : ReadErr) (tests : ℕ → X → List ElfTest) (xs : List X) (i : ℕ) (d : X) → i < length xs → first_failing (each_from 0 tests (take i xs)) ≡ None → IsRefusal e (tests i (get_or xs i d)) → IsRefusal e (each_from 0 tests xs)
items_stop Memory tests xs i d lt before here = tt
items_stop (Refused r) tests xs i d lt before here = items_fail tests xs 0 i i d r lt (omega arith) before here

-- ---- values made of items

pub mapped_more : {X Y : Type 0} (f : X → Y) (xs : List X) (i : ℕ) (d : X) (ys : List Y) (y : Y) → i < length xs → ys ≡ map f (take i xs) → y ≡ f (get_or xs i d) → ys ++ y ∷ [] ≡ map f (take (i + 1) xs)
mapped_more f xs i d ys y lt so_far here = rw (take_more xs i d lt, map_push, ← so_far, ← here) refl
