-- What is loaded is one where its parts are.
use Rattle.std.proofs.Common.{◌≡◌, List, ap, ◌∙◌}
use Rattle.load_map.specs.declared.entry.MapEntry.{MapEntry}
use Rattle.func_desc.specs.Functions.{AddrMap}
use Rattle.placement.specs.declared.item.Held.{Held}
use Rattle.load_model.specs.declared.module.SymbolicProcess.{SymbolicProcess}
use Rattle.load_model.specs.declared.plan.MemPlan.{MemPlan}
use Rattle.load_state.specs.Loaded.{LoadedModules}

abbrev of_parts : MemPlan → SymbolicProcess → List (List MapEntry) → List Held → AddrMap → LoadedModules
of_parts plan process maps held addrs = record { plan = plan; process = process; maps = maps; held = held; addrs = addrs }

pub same_modules : (l k : LoadedModules) → l.plan ≡ k.plan → l.process ≡ k.process → l.maps ≡ k.maps → l.held ≡ k.held → l.addrs ≡ k.addrs → l ≡ k
same_modules l k plan process maps held addrs =
    ap (λ x. of_parts x l.process l.maps l.held l.addrs) plan
    ∙ ap (λ x. of_parts k.plan x l.maps l.held l.addrs) process
    ∙ ap (λ x. of_parts k.plan k.process x l.held l.addrs) maps
    ∙ ap (λ x. of_parts k.plan k.process k.maps x l.addrs) held
    ∙ ap (of_parts k.plan k.process k.maps k.held) addrs
