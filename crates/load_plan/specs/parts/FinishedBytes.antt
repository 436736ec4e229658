-- The finished bytes of new modules.
use Rattle.std.specs.Prelude.{◌≡◌, ◌<◌, ℕ, Bool, List}
use Rattle.load_map.specs.declared.entry.MapEntry.{MapEntry}
use Rattle.load_model.specs.declared.error.LoadErr.{LoadErr}
use Rattle.load_model.specs.declared.error.LoadErr.TheVariants.{Refused, Memory}
use Rattle.load_model.specs.declared.error.LoadRefusal.TheVariants.{DescriptorsFull}
use Rattle.load_model.specs.declared.module.Joining.{Joining}
use Rattle.load_model.specs.Definition.{Linkage}
use Rattle.load_model.specs.Image.{IsImage, Placing}
use Rattle.load_model.specs.Unbound.{unbound_at_first}

-- the bytes of a new module's segments
abbrev pub AreImages : Linkage → Placing → Bool → (ℕ → List MapEntry) → Joining → List (List ℕ) → Type 0
AreImages l p lazy maps j parts = IsImage l p j.number j.object (unbound_at_first lazy j.object) (maps j.number) parts

-- n slots are free, and more functions need one
abbrev pub HasNoSlots : ℕ → ℕ → LoadErr → Type 0
HasNoSlots n count (Refused (DescriptorsFull free)) = (free ≡ n) × (n < count)
HasNoSlots n count Memory = Unit {0}
HasNoSlots n count other = ⊥
