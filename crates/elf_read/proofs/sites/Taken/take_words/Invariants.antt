use Rattle.std.proofs.Common.{◌≡◌, ℕ, ◌*◌, ◌||◌}
use Rattle.std.specs.BTreeSet as set
use Rattle.std.specs.Ordering.{nat_cmp}
use Rattle.elf_read.specs.parts.Taken.{covers}
use Rattle.elf_read.proofs.sites.Taken.take_words.Given as goal

abbrev pub invariant-loop-k : goal.invariant-loop-k
invariant-loop-k l = (w : ℕ) → set.contains nat_cmp l.self.words w ≡ (covers (record { addr = l.site.addr; size = 4 * l.k }) w || set.contains nat_cmp l.fn.self.words w)
