-- The slots that functions get lie in memory, and apart.
use Rattle.std.proofs.Common.{◌≡◌, ℕ, ◌+◌, ◌*◌, ◌<◌, ◌≤◌, inl, List, length, get_or, sym, subst, arith}
use Rattle.std.specs.Prelude.{Contains, AllPairs}
use Rattle.std.proofs.lemmas.List.Elements.{Contains-get_or}
use Rattle.elf_model.specs.declared.func.Func.{Func}
use Rattle.func_desc.specs.Functions.{AddrMap}
use Rattle.func_desc.specs.Pool.{IsSlot, free_slots}
use Rattle.func_desc.proofs.Contained.{free_slots_free}
use Rattle.load_model.specs.declared.plan.MemPlan.{MemPlan}
use Rattle.load_model.specs.declared.plan.TheConstants.{DESCRIPTOR_SIZE}
use Rattle.load_model.specs.Plan.{Fits, descriptors_at, slots_end, low_of}
use Rattle.load_model.proofs.PlanParts.{low_above, own_slots_below}
use Rattle.load_places.specs.parts.Descriptors.{DescriptorsApart}
use Rattle.fd_base.proofs.Members.{all_contained}
use Rattle.load_state.specs.Accepted.{wanted_by}
use Rattle.load_state.specs.Loaded.{pool_of}
use Rattle.load_laws.proofs.FreeSlots.{given_slot}
use Rattle.load_places.specs.parts.Laws.{GivenSlotsHaveRoom}
use Rattle.load_places.proofs.PairedLists.{zip_pairs}

-- a slot ends where the slots do, at most
pub slot_ends : (plan : MemPlan) (addrs : AddrMap) (a : ℕ) → Fits plan → IsSlot (pool_of plan addrs) a → a + DESCRIPTOR_SIZE ≤ slots_end plan
slot_ends plan addrs a fits slot =
    let i = slot.0 in
    let lt : i < plan.descriptors = slot.1 in
    let at : a ≡ descriptors_at plan + 8 * i = slot.2 in
    omega (arith, own_slots_below plan fits)

-- of two slots the first ends where the second begins, at most
slots_apart : (plan : MemPlan) (addrs : AddrMap) (a b : ℕ) → IsSlot (pool_of plan addrs) a → IsSlot (pool_of plan addrs) b → a < b → a + DESCRIPTOR_SIZE ≤ b
slots_apart plan addrs a b one two lt =
    let i = one.0 in
    let k = two.0 in
    let at : a ≡ descriptors_at plan + 8 * i = one.2 in
    let behind : b ≡ descriptors_at plan + 8 * k = two.2 in
    omega arith

pub given_room : GivenSlotsHaveRoom
given_room l files root asked plan consistent planned taken = record {
  inside = all_contained (λ e. e.1 + DESCRIPTOR_SIZE ≤ length l.memory.bytes) plan.given (λ e there. inside e there);
  apart = λ i k d lt below.
      apart (get_or plan.given i d) (get_or plan.given k d) (slot_at i d (omega arith)) (slot_at k d below) (rising i k d lt below);
}
  where
    slot : (e : Func × ℕ) → Contains plan.given e → IsSlot (pool_of l.modules.plan l.modules.addrs) e.1
    slot e there = given_slot l.modules files root asked plan planned e.0 e.1 there

    slot_at : (i : ℕ) (d : Func × ℕ) → i < length plan.given → IsSlot (pool_of l.modules.plan l.modules.addrs) (get_or plan.given i d).1
    slot_at i d lt = slot (get_or plan.given i d) (Contains-get_or plan.given i d lt)

    inside : (e : Func × ℕ) → Contains plan.given e → e.1 + DESCRIPTOR_SIZE ≤ length l.memory.bytes
    inside e there =
        let end = slot_ends l.modules.plan l.modules.addrs e.1 consistent.fits (slot e there) in
        let above : slots_end l.modules.plan ≤ low_of l.modules.plan = low_above l.modules.plan in
        let size : length l.memory.bytes ≡ l.modules.plan.memory = consistent.laid_out.size in
        omega (arith, end, above, size, consistent.fits.modules)

    rising : AllPairs (λ (d e : Func × ℕ). d.1 < e.1) plan.given
    rising =
        subst (λ (es : List (Func × ℕ)). AllPairs (λ (d e : Func × ℕ). d.1 < e.1) es) (sym planned.given')
        (zip_pairs (λ a b. a < b) (wanted_by l.modules plan.joining plan.scope) (free_slots (pool_of l.modules.plan l.modules.addrs)) (free_slots_free.rising (pool_of l.modules.plan l.modules.addrs)))

    apart : (d e : Func × ℕ) → IsSlot (pool_of l.modules.plan l.modules.addrs) d.1 → IsSlot (pool_of l.modules.plan l.modules.addrs) e.1 → d.1 < e.1 → DescriptorsApart d e
    apart d e one two lt = inl (slots_apart l.modules.plan l.modules.addrs d.1 e.1 one two lt)
