use Rattle.std.proofs.Common.{List, refl, ap, subst, ◌∙◌}
use Rattle.std.specs.Prelude.{IfErr, IfOk}
use Rattle.load_map.specs.declared.entry.MapEntry.{MapEntry}
use Rattle.func_desc.specs.Functions.{AddrMap}
use Rattle.placement.specs.declared.item.Held.{Held}
use Rattle.load_model.specs.Explains.{Explains}
use Rattle.load_state.specs.Accepted.{IsPlan}
use Rattle.load_state.specs.Refused.{IsRefused}
use Rattle.load_state.specs.Loaded.{Loaded, LoadedModules, LoaderState}
use Rattle.mod_load.proofs.LoaderParts.{consistent_of}
use Rattle.mod_load.proofs.PlanCalls.{may_commit, plannable, still_ready}
use Rattle.mod_load.proofs.loader.Loader.plan_group.Goals as goal

pub plan_group-requires : goal.plan_group-requires
plan_group-requires g c =
    let i = c.self.inside in
    record {
      standing = plannable _ _ i.ranges i.pool i.tables i.targets.items refl refl c.as_slice.ensures c.whole.ensures.whole.size
          (consistent_of c.self.view_is c.requires.consistent) c.self.invariant;
    }

pub returns-clause-plan : goal.returns-clause-plan
returns-clause-plan g c =
    let i = c.self.inside in
    let made : List (List MapEntry) → LoadedModules = λ maps. record { plan = i.plan; process = i.process; maps = maps; held = i.ranges.held; addrs = i.pool.addrs } in
    subst (λ (l : LoadedModules). IfOk c.plan_group.result (IsPlan l (g.S.Store.files c.args.store.now) c.args.root.now (record { global = c.args.global; lazy = c.args.lazy })))
    (ap made c.as_slice.ensures ∙ ap (λ s. s.loaded.modules) c.self.view_is) c.plan_group.ensures.plan

pub returns-clause-ready : goal.returns-clause-ready
returns-clause-ready g c =
    let i = c.self.inside in
    let files = g.S.Store.files c.args.store.now in
    let made : List (List MapEntry) → List Held → AddrMap → LoadedModules = λ maps held addrs. record { plan = i.plan; process = i.process; maps = maps; held = held; addrs = addrs } in
    let new : LoaderState = record {
      loaded = record { modules = made i.maps c.plan_group.new.ranges.held c.plan_group.new.pool.addrs; memory = i.guest };
      range_room = c.plan_group.new.ranges.room;
      descriptor_room = c.plan_group.new.pool.room;
      table_room = c.plan_group.new.tables.room;
    } in
    may_commit files c.args.root.now (record { global = c.args.global; lazy = c.args.lazy }) c.args.self.now.loaded.modules new c.plan_group.result
    (ap (λ held. made i.maps held c.plan_group.new.pool.addrs) (ap (λ s. s.held) c.plan_group.ensures.ranges)
    ∙ ap (made i.maps i.ranges.held) (ap (λ p. p.addrs) c.plan_group.ensures.pool) ∙ ap (λ s. s.loaded.modules) c.self.view_is)
    (returns-clause-plan g c)
    c.plan_group.ensures.taken c.plan_group.ensures.ranges_room c.plan_group.ensures.pool_room c.plan_group.ensures.tables_room

pub returns-clause-earlier : goal.returns-clause-earlier
returns-clause-earlier g c =
    let i = c.self.inside in
    let made : List (List MapEntry) → List Held → AddrMap → Loaded = λ maps held addrs. record { modules = record { plan = i.plan; process = i.process; maps = maps; held = held; addrs = addrs }; memory = i.guest } in
    let new : LoaderState = record {
      loaded = made i.maps c.plan_group.new.ranges.held c.plan_group.new.pool.addrs;
      range_room = c.plan_group.new.ranges.room;
      descriptor_room = c.plan_group.new.pool.room;
      table_room = c.plan_group.new.tables.room;
    } in
    λ plan. still_ready {new = new} plan c.self.view_is
    (ap (λ held. made i.maps held c.plan_group.new.pool.addrs) (ap (λ s. s.held) c.plan_group.ensures.ranges)
    ∙ ap (made i.maps i.ranges.held) (ap (λ p. p.addrs) c.plan_group.ensures.pool) ∙ ap (λ s. s.loaded) c.self.view_is)
    c.plan_group.ensures.ranges_grow c.plan_group.ensures.pool_grows c.plan_group.ensures.tables_grow

pub returns-clause-error : goal.returns-clause-error
returns-clause-error g c =
    let i = c.self.inside in
    let made : List (List MapEntry) → LoadedModules = λ maps. record { plan = i.plan; process = i.process; maps = maps; held = i.ranges.held; addrs = i.pool.addrs } in
    subst (λ (l : LoadedModules). IfErr c.plan_group.result
    (Explains (IsRefused l (g.S.Store.files c.args.store.now) c.args.root.now) (g.S.Store.faults c.args.store.now) (g.S.Store.faults c.plan_group.new.store)))
    (ap made c.as_slice.ensures ∙ ap (λ s. s.loaded.modules) c.self.view_is) c.plan_group.ensures.error
