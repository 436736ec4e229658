-- The modules in memory with new ones, and what descriptors leave there.
use Rattle.std.proofs.Common.{◌≡◌, ◌≢◌, ℕ, ◌+◌, ◌<◌, ◌≤◌, ◌*◌, ◌⊎◌, true, false, cond, inl, inr, List, [], ◌∷◌, length, Some, refl, sym, ap, subst, ◌∙◌, arith, All}
use Rattle.std.specs.Prelude.{Contains, ◌==◌}
use Rattle.std.proofs.lemmas.Bool.{eq-eqb}
use Rattle.std.proofs.lemmas.Bool.Decides.{nat_tests}
use Rattle.std.proofs.lemmas.List.Elements.{All-head, All-tail}
use Rattle.load_map.specs.declared.entry.MapEntry.{MapEntry}
use Rattle.elf_model.specs.declared.func.Func.{Func}
use Rattle.guest_mem.specs.Memory.{GuestMemory, byte_at}
use Rattle.load_map.specs.Image.{bytes_of_map}
use Rattle.load_memory.specs.parts.Modules.{with_module}
use Rattle.load_map.proofs.Imaged.{length-bytes_of_map}
use Rattle.symbol_scope.specs.declared.tables.TheConstants.{MAX_MODULES}
use Rattle.load_model.specs.declared.module.Joining.{Joining}
use Rattle.load_model.specs.declared.plan.TheConstants.{DESCRIPTOR_SIZE}
use Rattle.load_model.specs.Layout.{HasLoadMap, InMemory}
use Rattle.load_model.specs.Image.{load_map_at}
use Rattle.load_map.specs.Maps.{map_at}
use Rattle.load_places.specs.parts.Descriptors.{IsOffDescriptors}
use Rattle.load_places.specs.parts.Modules.{with_modules}
use Rattle.load_map.specs.Maps.{map_at}
use Rattle.load_laws.specs.parts.Premises.{HaveOwnNumbers}
use Rattle.fd_base.proofs.Ranges.{is_outside}
use Rattle.fd_base.proofs.Members.{nothing_in, first_or_later}

-- ---- modules by number

unequal : (m n : ℕ) → m ≢ n → (m == n) ≡ false
unequal m n differ = grind (arith, nat_tests)

-- a number that no new module has
pub record IsOldAt (mods all : InMemory) (m : ℕ) : Type 0 where
  pub object : all.objects m ≡ mods.objects m
  pub map : all.maps m ≡ mods.maps m

pub old_at : (mods : InMemory) (joining : List Joining) (maps : List (List MapEntry)) (m : ℕ) → All (λ j. j.number ≢ m) joining
    → IsOldAt mods (with_modules mods joining maps) m
old_at mods [] maps m others = record { object = refl; map = refl }
old_at mods (j ∷ joining) maps m others =
    let more = with_module mods j.number j.object (map_at maps j.number) in
    let rest = old_at more joining maps m (All-tail (λ i. i.number ≢ m) j joining others) in
    let other : (m == j.number) ≡ false = unequal m j.number (λ is. All-head (λ i. i.number ≢ m) j joining others (sym is)) in
    record {
      object = rest.object ∙ ap (λ b. cond b (Some j.object) (mods.objects m)) other;
      map = rest.map ∙ ap (λ b. cond b (map_at maps j.number) (mods.maps m)) other;
    }

-- a new module stands at its number
pub record IsNewAt (maps : List (List MapEntry)) (all : InMemory) (j : Joining) : Type 0 where
  pub object : all.objects j.number ≡ Some j.object
  pub map : all.maps j.number ≡ map_at maps j.number

pub new_at : (mods : InMemory) (joining : List Joining) (maps : List (List MapEntry)) (j : Joining) → HaveOwnNumbers joining → Contains joining j
    → IsNewAt maps (with_modules mods joining maps) j
new_at mods [] maps j own there = absurd (nothing_in j there)
new_at mods (i ∷ joining) maps j own there =
    let more = with_module mods i.number i.object (map_at maps i.number) in
    elim (first_or_later i j joining there) [
      | inl is ↦ subst (IsNewAt maps (with_modules more joining maps)) is (first more)
      | inr later ↦ new_at more joining maps j own.1 later
    ]
  where
    first : (more : InMemory) → IsNewAt maps (with_modules (with_module mods i.number i.object (map_at maps i.number)) joining maps) i
    first more =
        let rest = old_at (with_module mods i.number i.object (map_at maps i.number)) joining maps i.number own.0 in
        let same : (i.number == i.number) ≡ true = eq-eqb i.number i.number refl in
        record {
          object = rest.object ∙ ap (λ b. cond b (Some i.object) (mods.objects i.number)) same;
          map = rest.map ∙ ap (λ b. cond b (map_at maps i.number) (mods.maps i.number)) same;
        }

-- ---- bytes that descriptors leave

-- what lies below the descriptors, or above them
pub off_slots : (given : List (Func × ℕ)) (high a : ℕ) → ((f : Func) (at : ℕ) → Contains given (f, at) → (load_map_at MAX_MODULES ≤ at) × (at + DESCRIPTOR_SIZE ≤ high))
    → (a < load_map_at MAX_MODULES) ⊎ (high ≤ a) → IsOffDescriptors given a
off_slots given high a between (inl below) = λ f at there. let slot = between f at there in is_outside at DESCRIPTOR_SIZE a (inl (omega (arith, slot.0)))
off_slots given high a between (inr above) = λ f at there. let slot = between f at there in is_outside at DESCRIPTOR_SIZE a (inr (omega (arith, slot.1)))

-- a load map stays where what lies below the descriptors does
pub load_map_stays : (old new : GuestMemory) (m : ℕ) (es : List MapEntry) → m < 64 → length es ≤ 8 → ((a : ℕ) → a < load_map_at MAX_MODULES → byte_at new a ≡ byte_at old a)
    → HasLoadMap old m es → HasLoadMap new m es
load_map_stays old new m es few short same has =
    let long : length (bytes_of_map es) ≡ 4 + 12 * length es = length-bytes_of_map es in
    record {
      bytes = λ i l. same (load_map_at m + i) (omega arith) ∙ has.bytes i l;
      rest = λ i l. same (load_map_at m + length (bytes_of_map es) + i) (omega arith) ∙ has.rest i l;
    }
