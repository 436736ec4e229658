-- What is known of addresses: at which no entry of a procedure linkage table is placed, and which one at others.
use Rattle.std.specs.Prelude.{◌≡◌, ℕ, ◌<◌, ◌^◌, List, Option, Some, None, All, IfSome}
use Rattle.load_map.specs.declared.entry.MapEntry.{MapEntry}
use Rattle.load_model.specs.declared.module.SymbolicProcess.{SymbolicProcess}
use Rattle.placed_code.specs.Places.{entry_at, got_word}
use Rattle.run_turn.specs.declared.entries.PlacedEntry.{PlacedEntry}
use Rattle.run_turn.specs.declared.lookups.Lookups.{Lookups}

-- no entry is placed at any of these; a number that is no address says nothing
abbrev pub AreClear : SymbolicProcess → List (List MapEntry) → List ℕ → Type 0
AreClear p maps places = All (λ a. a < 2 ^ 32 → entry_at p maps a ≡ None) places

-- it is the entry of its slot, with the GOT of the slot's module
pub record IsEntry (p : SymbolicProcess) (maps : List (List MapEntry)) (e : PlacedEntry) : Type 0 where
  pub entry : entry_at p maps e.addr ≡ Some e.slot
  pub got' : e.got ≡ got_word p maps e.slot.module

pub record IsEntryAt (p : SymbolicProcess) (maps : List (List MapEntry)) (a : ℕ) (e : PlacedEntry) : Type 0 where
  pub addr' : e.addr ≡ a
  pub is : IsEntry p maps e

abbrev pub AreEntries : SymbolicProcess → List (List MapEntry) → List (Option PlacedEntry) → Type 0
AreEntries p maps places = All (λ place. IfSome place (IsEntry p maps)) places

pub record AreKnown (p : SymbolicProcess) (maps : List (List MapEntry)) (known : Lookups) : Type 0 where
  pub clear' : AreClear p maps known.clear
  pub entries' : AreEntries p maps known.entries
