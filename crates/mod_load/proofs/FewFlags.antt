-- A module has few flags.
use Rattle.std.proofs.Common.{◌≡◌, ℕ, ◌^◌, ◌≤◌, [], length, Option, Some, None, refl, ap, ◌∙◌, arith}
use Rattle.std.specs.Prelude.{option_map}
use Rattle.std.specs.Option.{option_map_or}
use Rattle.load_model.specs.declared.module.Live.{Live}
use Rattle.load_model.specs.Process.{live_at}
use Rattle.load_model.specs.Unbound.{unbound_of}
use Rattle.load_state.specs.Consistent.{IsConsistent}
use Rattle.load_state.specs.Loaded.{Loaded}

pub few_flags : (l : Loaded) → IsConsistent l → (m : ℕ) → length (unbound_of l.modules.process m) ≤ 2 ^ 32
few_flags l c m = by (live_at l.modules.process m) refl
  where
    by : (x : Option Live) → live_at l.modules.process m ≡ x → length (unbound_of l.modules.process m) ≤ 2 ^ 32
    by None none =
        let count : length (unbound_of l.modules.process m) ≡ 0 = ap (λ (x : Option Live). length (option_map_or (λ live. live.unbound) x [])) none in
        omega (arith, count)
    by (Some live) some =
        let few = (c.modules'.standing m live.object (ap (option_map (λ (x : Live). x.object)) some)).sound.few_slots in
        let count : length (unbound_of l.modules.process m) ≡ length live.object.jmprels =
        ap (λ (x : Option Live). length (option_map_or (λ live. live.unbound) x [])) some ∙ (c.valid.members m live some).flags in
        omega (arith, few, count)
