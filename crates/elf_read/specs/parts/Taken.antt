-- Which words are filled by the sites so far.
use Rattle.std.specs.Prelude.{◌≡◌, ℕ, ◌%◌, ◌<◌, Bool, ◌&&◌, ◌==◌, List}
use Rattle.std.specs.List.{list_any, AllByRecursion}
use Rattle.std.specs.BTreeSet as set
use Rattle.std.specs.Ordering.{nat_cmp}
use Rattle.fd_base.specs.Ranges.{is_in}
use Rattle.elf_model.specs.declared.table.Site.{Site}
use Rattle.elf_read.specs.declared.sites.Taken.{Taken}

-- whether a site has this word
unfoldable pub covers : Site → ℕ → Bool
covers s w = w % 4 == 0 && is_in s.addr s.size w

-- some whole words
pub record IsWhole (s : Site) : Type 0 where
  pub size : s.size % 4 ≡ 0
  pub some : 0 < s.size

-- some whole words at a multiple of 4
pub record IsAligned (s : Site) : Type 0 where
  pub addr : s.addr % 4 ≡ 0
  pub size : s.size % 4 ≡ 0
  pub some : 0 < s.size

abbrev pub AreAligned : List Site → Type 0
AreAligned sites = AllByRecursion IsAligned sites

-- these sites are filled, and no other words
pub record Has (taken : Taken) (sites : List Site) : Type 0 where
  pub aligned : AreAligned sites
  pub words : (w : ℕ) → set.contains nat_cmp taken.words w ≡ list_any (λ s. covers s w) sites
