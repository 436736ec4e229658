-- The slots of an object by the offsets of their sites from the GOT.
use Rattle.std.specs.Prelude.{◌≡◌, ◌≢◌, ℕ, ◌<◌, List, Some, None, slice_get}
use Rattle.std.specs.BTreeMap as tree
use Rattle.std.specs.BTreeMap.{BTreeMap}
use Rattle.std.specs.Ordering.{nat_cmp}
use Rattle.elf_model.specs.declared.object.Rel.{Rel}
use Rattle.fd_base.specs.Sums.{minus}

-- the table has the offsets of the first n slots, and with each of them a slot at that offset
pub record HasOffsets (got : ℕ) (slots : List Rel) (n : ℕ) (table : BTreeMap ℕ ℕ) : Type 0 where
  pub found : (l k : ℕ) → tree.get nat_cmp table l ≡ Some k → (r : Rel) × ((slice_get slots k ≡ Some r) × (minus r.site got ≡ l))
  pub all : (k : ℕ) (r : Rel) → k < n → slice_get slots k ≡ Some r → tree.get nat_cmp table (minus r.site got) ≢ None
