-- What load maps have of segments, and words whole.
use Rattle.std.specs.Prelude.{◌≡◌, ℕ, ◌+◌, ◌≤◌, ◌⊎◌, List}
use Rattle.std.specs.List.{AllZip}
use Rattle.load_map.specs.declared.entry.MapEntry.{MapEntry}
use Rattle.elf_model.specs.declared.object.Segment.{Segment}
use Rattle.load_model.specs.declared.words.LinkWord.{LinkWord}

-- the entries of a load map are those of these segments, wherever they lie
abbrev pub IsMapOf : List Segment → List MapEntry → Type 0
IsMapOf ss load_map = AllZip (λ s e. (e.vaddr ≡ s.vaddr) × (e.memsz ≡ s.memsz)) ss load_map

-- a word lies in the len bytes from start, or meets none of them
abbrev pub IsWordWhole : ℕ → ℕ → LinkWord → Type 0
IsWordWhole start len w = ((start ≤ w.addr) × (w.addr + 4 ≤ start + len)) ⊎ ((w.addr + 4 ≤ start) ⊎ (start + len ≤ w.addr))
