-- How far the executable segments have been looked through, by rising address.
use Rattle.std.specs.Prelude.{◌≡◌, ℕ, ◌+◌, ◌<◌, ◌≤◌, ◌⊎◌, true, List, Option, Some, None, All, AllPairs, Contains, slice_get}
use Rattle.elf_model.specs.declared.constants.TheConstants.{PF_X}
use Rattle.elf_model.specs.declared.object.Object.{Object}
use Rattle.elf_model.specs.declared.object.Segment.{Segment}
use Rattle.elf_model.specs.Segments.{has_flag}
use Rattle.plt_code.specs.declared.listing.Entry.{Entry}
use Rattle.plt_code.specs.Entries.{IsPltEntry}

abbrev pub IsExecutable : Segment → Type 0
IsExecutable s = has_flag s.flags PF_X ≡ true

-- these are the entries below an address
pub record ListsBelow (o : Object) (bound : ℕ) (entries : List Entry) : Type 0 where
  pub sound : All (λ e. IsPltEntry o e.at e.slot) entries
  pub below : All (λ e. e.at < bound) entries
  pub complete : (at slot : ℕ) → IsPltEntry o at slot → at < bound → Contains entries (record { at = at; slot = slot })
  pub rising : AllPairs (λ d e. d.at < e.at) entries

-- each executable segment lies below an address, or not below it
abbrev pub IsParted : List Segment → ℕ → Type 0
IsParted ss bound = (k : ℕ) (t : Segment) → slice_get ss k ≡ Some t → IsExecutable t → (t.vaddr + t.memsz ≤ bound) ⊎ (bound ≤ t.vaddr)

-- an executable segment of the list
pub record IsText (ss : List Segment) (s : Segment) : Type 0 where
  pub place : ℕ
  pub held : slice_get ss place ≡ Some s
  pub executable : IsExecutable s

-- an executable segment that begins lowest among the first n, of those that don't begin below an address
pub record IsLowest (ss : List Segment) (bound n place : ℕ) : Type 0 where
  pub segment : Segment
  pub held : slice_get ss place ≡ Some segment
  pub executable : IsExecutable segment
  pub above : bound ≤ segment.vaddr
  pub lowest : (k : ℕ) (t : Segment) → k < n → slice_get ss k ≡ Some t → IsExecutable t → (t.vaddr < bound) ⊎ (segment.vaddr ≤ t.vaddr)

-- the place of one, and none where all begin below the address
abbrev pub IsNext : List Segment → ℕ → ℕ → Option ℕ → Type 0
IsNext ss bound n (Some place) = IsLowest ss bound n place
IsNext ss bound n None = (k : ℕ) (t : Segment) → k < n → slice_get ss k ≡ Some t → IsExecutable t → t.vaddr < bound
