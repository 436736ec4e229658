-- The calls that begin.
use Rattle.std.proofs.Common.{◌≡◌, ℕ, ◌^◌, ◌<◌, Bool, true, false, cond, ◌==◌, Option, Some, None, length, get_or, refl, sym, ap, subst, ◌∙◌}
use Rattle.std.specs.Prelude.{option_and_then, option_map, unwrap_or}
use Rattle.std.proofs.lemmas.Bool.{eqb-true}
use Rattle.fd_base.proofs.Options.{from_map, from_then}
use Rattle.elf_model.specs.declared.func.Func.{Func}
use Rattle.elf_model.specs.declared.object.Object.{Object}
use Rattle.a32_machine.specs.declared.cpu.Cpu.{Cpu}
use Rattle.a32_machine.specs.Registers.{pc_of}
use Rattle.load_map.specs.Maps.{map_at}
use Rattle.load_map.specs.Translation.{placed}
use Rattle.load_model.specs.Process.{object_at}
use Rattle.load_model.specs.Unbound.{slot_of as slot_in}
use Rattle.load_state.specs.Consistent.{IsConsistent}
use Rattle.load_state.specs.Loaded.{Loaded}
use Rattle.plt_code.specs.Entries.{IsClear, slot_entered}
use Rattle.plt_code.proofs.Called.{entered}
use Rattle.run_model.specs.declared.thread.Call.{Call}
use Rattle.run_model.specs.declared.thread.TheConstants.{BOUND_CALL}
use Rattle.placed_code.specs.Places.{code_at, entry_at, got_word, slot_at}
use Rattle.run_model.specs.Calls.{call_begun, call_through}
use Rattle.call_laws.specs.Calls.{Holds, bound_call, slot_of}
use Rattle.call_laws.proofs.ClearEntries.{calls_are_held_lem}
use Rattle.call_laws.specs.BegunCalls.{BegunCallsHold, IsHeldCall}
use Rattle.call_laws.proofs.CodePlaces.{coded_by, placed_at_code}

-- what a call begins with
pub record IsBegun (l : Loaded) (cpu : Cpu) (call : Call) : Type 0 where
  pub function : Func
  pub at : code_at l.modules.process l.modules.maps (pc_of cpu) ≡ Some function
  pub object' : Object
  pub live : object_at l.modules.process function.module ≡ Some object'
  pub slot : ℕ
  pub enters : slot_entered object' function.value ≡ Some slot
  pub got : (get_or cpu.r 9 0 == got_word l.modules.process l.modules.maps function.module) ≡ true
  pub call' : call ≡ record { number = function.module; slot = slot; length = BOUND_CALL; done = 0; begin = cpu }

through : (l : Loaded) (cpu : Cpu) (m k : ℕ) (call : Call) → call_through l.modules.process l.modules.maps cpu (slot_in m k) ≡ Some call
    → ((get_or cpu.r 9 0 == got_word l.modules.process l.modules.maps m) ≡ true) × (call ≡ record { number = m; slot = k; length = BOUND_CALL; done = 0; begin = cpu })
through l cpu m k call is = by (get_or cpu.r 9 0 == got_word l.modules.process l.modules.maps m) refl is
  where
    by : (b : Bool) → (get_or cpu.r 9 0 == got_word l.modules.process l.modules.maps m) ≡ b
        → cond b (Some (record { number = m; slot = k; length = BOUND_CALL; done = 0; begin = cpu })) None ≡ Some call
        → ((get_or cpu.r 9 0 == got_word l.modules.process l.modules.maps m) ≡ true) × (call ≡ record { number = m; slot = k; length = BOUND_CALL; done = 0; begin = cpu })
    by true e is = (e, cc)
    by false e is = absurd cc

pub begun : (l : Loaded) (cpu : Cpu) (call : Call) → call_begun l.modules.process l.modules.maps cpu ≡ Some call → IsBegun l cpu call
begun l cpu call is =
    let s = from_then (call_through l.modules.process l.modules.maps cpu) (entry_at l.modules.process l.modules.maps (pc_of cpu)) call is in
    let f = from_then (slot_at l.modules.process) (code_at l.modules.process l.modules.maps (pc_of cpu)) s.0 s.1 in
    let k = from_map (slot_in (f.0).module) (option_and_then (λ (o : Object). slot_entered o (f.0).value) (object_at l.modules.process (f.0).module)) s.0 f.2 in
    let o = from_then (λ (o : Object). slot_entered o (f.0).value) (object_at l.modules.process (f.0).module) k.0 k.1 in
    let both = through l cpu (f.0).module k.0 call (ap (call_through l.modules.process l.modules.maps cpu) k.2 ∙ s.2) in
    record { function = f.0; at = f.1; object' = o.0; live = o.1; slot = k.0; enters = o.2; got = both.0; call' = both.1 }

module _ (l : Loaded) (cpu : Cpu) (h : IsConsistent l) (small : l.modules.plan.memory < 2 ^ 32) (registers : length cpu.r ≡ 16) where
  held_begun : (call : Call) (b : IsBegun l cpu call) → IsClear b.object' b.function.value b.slot
      → IsHeldCall l cpu (record { number = b.function.module; slot = b.slot; length = BOUND_CALL; done = 0; begin = cpu })
  held_begun call b clear =
      let m = b.function.module in
      let o = b.object' in
      let got : got_word l.modules.process l.modules.maps m ≡ placed (map_at l.modules.maps m) o.got =
      ap (λ (x : Option Object). unwrap_or (option_map (λ (y : Object). placed (map_at l.modules.maps m) y.got) x) 0) b.live in
      let at : placed (map_at l.modules.maps m) b.function.value ≡ pc_of cpu = placed_at_code l h (pc_of cpu) b.function (coded_by l (pc_of cpu) b.function b.at) in
      let entry = entered o b.function.value b.slot b.enters in
      let slot = calls_are_held_lem.slots l m b.function.value b.slot o b.live entry in
      let held = calls_are_held_lem.held l m b.function.value b.slot o slot.0 h small b.live entry clear slot.1 in
      let by_got : Holds l.memory (bound_call (placed (map_at l.modules.maps m) b.function.value) (got_word l.modules.process l.modules.maps m) slot.0) =
      subst (λ (g : ℕ). Holds l.memory (bound_call (placed (map_at l.modules.maps m) b.function.value) g slot.0)) (sym got) held.holds in
      record {
        pair = slot.0;
        listed = slot.1;
        is_bound = refl;
        is_new = refl;
        begins = record { registers = registers; place = refl; got = eqb-true (get_or cpu.r 9 0) (got_word l.modules.process l.modules.maps m) b.got };
        holds = subst (λ (a : ℕ). Holds l.memory (bound_call a (got_word l.modules.process l.modules.maps m) slot.0)) at by_got;
        leads = subst (λ (g : ℕ). slot_of (bound_call (pc_of cpu) g slot.0) ≡ (slot.0).addr) (sym got) held.leads;
      }

pub begun_calls_hold_lem : BegunCallsHold
begun_calls_hold_lem l cpu call h small registers is clear =
    let b = begun l cpu call is in
    let slot : call.slot ≡ b.slot = ap (λ (c : Call). c.slot) b.call' in
    let here : IsClear b.object' b.function.value b.slot = subst (IsClear b.object' b.function.value) slot (clear b.function b.object' b.at b.live) in
    subst (IsHeldCall l cpu) (sym b.call') (held_begun l cpu h small registers call b here)
