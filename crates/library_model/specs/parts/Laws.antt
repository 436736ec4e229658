-- What holds of opens and closes.
use Rattle.std.specs.Prelude.{◌≡◌, ℕ, List, Option, Some}
use Rattle.fd_base.specs.Fetched.{Files}
use Rattle.load_model.specs.declared.module.SymbolicProcess.{SymbolicProcess}
use Rattle.load_model.specs.Joined.{Asked}
use Rattle.load_model.specs.Validity.{IsValid}
use Rattle.load_state.specs.Consistent.{IsConsistent}
use Rattle.load_state.specs.Loaded.{Loaded}
use Rattle.load_removal.specs.Going.{MayGo, ModuleSet}
use Rattle.library_model.specs.Closes.{AreLeft, IsClose}
use Rattle.library_model.specs.Holding.{AreHeld}
use Rattle.library_model.specs.Opens.{IsOpen, recounted_in}

-- over told files an open leads to one process and one handle
pub record OneOpen (h k : ℕ) (a b : SymbolicProcess) : Type 0 where
  pub handle : h ≡ k
  pub process : a ≡ b

abbrev pub OpensAreDetermined : Type 0
OpensAreDetermined =
    (p : SymbolicProcess) (told : Files) (root : List ℕ) (asked : Asked) (h k : ℕ) (a b : SymbolicProcess)
    → IsOpen p (Some told) root asked h a → IsOpen p (Some told) root asked k b → OneOpen h k a b

-- a close leads to one set of modules that go, and to one process
pub record OneClose (gone others : ModuleSet) (a b : SymbolicProcess) : Type 0 where
  pub gone' : (m : ℕ) → gone m ≡ others m
  pub process : a ≡ b

abbrev pub ClosesAreDetermined : Type 0
ClosesAreDetermined =
    (p : SymbolicProcess) (m : ℕ) (gone others : ModuleSet) (a b : SymbolicProcess)
    → IsClose p m gone a → IsClose p m others b → OneClose gone others a b

-- what nothing holds may go
abbrev pub LeftMayGo : Type 0
LeftMayGo = (p : SymbolicProcess) (gone : ModuleSet) → IsValid p → AreLeft p gone → MayGo p gone

-- opens and closes keep processes valid, and every group held
pub record StepsKeepValid : Type 0 where
  pub opens : (p : SymbolicProcess) (files : Option Files) (root : List ℕ) (asked : Asked) (handle : ℕ) (new : SymbolicProcess)
      → IsValid p → IsOpen p files root asked handle new → IsValid new
  pub closes : (p : SymbolicProcess) (m : ℕ) (gone : ModuleSet) (new : SymbolicProcess) → IsValid p → IsClose p m gone new → IsValid new

pub record StepsKeepHeld : Type 0 where
  pub opens : (p : SymbolicProcess) (files : Option Files) (root : List ℕ) (asked : Asked) (handle : ℕ) (new : SymbolicProcess)
      → IsValid p → AreHeld p → IsOpen p files root asked handle new → AreHeld new
  pub closes : (p : SymbolicProcess) (m : ℕ) (gone : ModuleSet) (new : SymbolicProcess) → IsValid p → IsClose p m gone new → AreHeld new

-- a consistent loader stays so whatever the count of opens
abbrev pub RecountsKeepConsistent : Type 0
RecountsKeepConsistent = (l : Loaded) (m n : ℕ) → IsConsistent l → IsConsistent (recounted_in l m n)
