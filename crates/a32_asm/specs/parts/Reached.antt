-- What holds of what the lines of a second pass have put, beside the layout that they have reached.
use Rattle.std.specs.Prelude.{◌≡◌, ℕ, ◌+◌, ◌%◌, ◌<◌, ◌≤◌, true, ◌==◌, List, [], length, get_or, All, IfSome, bytes_eq, if◌then◌else◌}
use Rattle.std.specs.List.{list_any}
use Rattle.elf_model.specs.declared.constants.TheConstants.{STT_FUNC}
use Rattle.a32_asm.specs.declared.limits.TheConstants.{RELS_MAX}
use Rattle.a32_asm.specs.declared.section.TheConstants.{SECTIONS, BSS}
use Rattle.a32_asm.specs.Known.{Names, no_facts}
use Rattle.a32_asm.specs.Layout.{Layout}
use Rattle.a32_asm.specs.SecondPass.{RelTo, Contents}

-- the bytes of a section that stand in the file: none of `.bss`
abbrev pub held : List ℕ → ℕ → ℕ
held sizes k = if k == BSS then 0 else get_or sizes k 0

-- a relocation on one of these names, whose word stands in the section
pub record IsRelIn (size : ℕ) (names : List (List ℕ)) (rel : RelTo) : Type 0 where
  pub inside : rel.site + 4 ≤ size
  pub known : list_any (bytes_eq rel.name) names ≡ true

pub record IsReached (all : Names) (layout : Layout) (contents : Contents) : Type 0 where
  pub filled' : length contents.filled ≡ SECTIONS
  pub rels' : length contents.rels ≡ SECTIONS
  pub filling : (k : ℕ) → k < SECTIONS → length (get_or contents.filled k []) ≡ held layout.sizes k
  pub relocating : (k : ℕ) → All (IsRelIn (held layout.sizes k) layout.known.names) (get_or contents.rels k [])
  pub few : (k : ℕ) → length (get_or contents.rels k []) ≤ RELS_MAX
  -- functions stand at multiples of 4
  pub words : (k : ℕ) → (get_or layout.known.facts k no_facts).kind ≡ STT_FUNC → IfSome (get_or all.facts k no_facts).label (λ place. place.offset % 4 ≡ 0)
