-- The bytes of a section that its relocations change.
use Rattle.std.specs.Prelude.{◌≡◌, ℕ, ◌+◌, ◌<◌, Bool, false, not, ◌&&◌, nat_lt, List, length, get_or}
use Rattle.std.specs.List.{list_any}
use Rattle.elf_model.specs.declared.object.Rel.{Rel}
use Rattle.fd_base.specs.Ranges.{is_in}
use Rattle.link_model.specs.Needs.{is_idle}

-- whether a relocation changes a byte
abbrev pub changes : ℕ → Rel → Bool
changes at e = not (is_idle e.kind) && is_in e.site 4 at

-- whether a relocation changes a byte of another one's word
abbrev pub meets : Rel → Rel → Bool
meets r e = not (is_idle e.kind) && (nat_lt e.site (r.site + 4) && nat_lt r.site (e.site + 4))

abbrev pub meets_any : Rel → List Rel → Bool
meets_any r es = not (is_idle r.kind) && list_any (meets r) es

-- the bytes that these change are marked
pub record AreMarked (rels : List Rel) (marks : List Bool) : Type 0 where
  pub each : (at : ℕ) → at < length marks → get_or marks at false ≡ list_any (changes at) rels
