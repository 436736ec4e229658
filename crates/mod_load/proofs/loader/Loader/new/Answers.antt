use Rattle.std.proofs.Common.{◌≡◌, ap, ◌∙◌}
use Rattle.load_state.specs.Loaded.{LoadedModules}
use Rattle.load_state.specs.ProgramLoad.{start_of}
use Rattle.load_laws.proofs.NewLoaders.{start_laid_out}
use Rattle.load_laws.proofs.SameModules.{same_modules}
use Rattle.mod_load.proofs.NewLoader.{is_start, start_fit}
use Rattle.mod_load.proofs.loader.Loader.new.Goals as goal

pub invariant_of-result : goal.invariant_of-result
invariant_of-result c =
    start_fit c.args.plan.now c.in_ok-copy.field-0 c.in_ok-process.process c.in_ok-ranges.ranges c.in_ok-pool.pool c.new-tables.result c.into_vec.result.items c.low.result c.high.result c.descriptors_at.result c.in_ok-copy.ensures
    (is_start c.in_ok-process.process c.in_ok-process.ensures.valid c.in_ok-process.ensures.empty c.in_ok-process.ensures.global) c.low.ensures c.high.ensures c.descriptors_at.ensures.value
    c.in_ok-ranges.ensures c.in_ok-pool.ensures c.new-tables.ensures (c.into_vec.ensures ∙ c.in_ok-targets.ensures)

pub returns : goal.returns
returns c =
    let l : LoadedModules = record {
      plan = c.in_ok-copy.field-0;
      process = c.in_ok-process.process;
      maps = c.in_ok-maps.maps;
      held = c.in_ok-ranges.ranges.held;
      addrs = c.in_ok-pool.pool.addrs;
    } in
    let starts : l ≡ start_of c.args.plan.now =
    same_modules l (start_of c.args.plan.now) c.in_ok-copy.ensures
    (is_start c.in_ok-process.process c.in_ok-process.ensures.valid c.in_ok-process.ensures.empty c.in_ok-process.ensures.global) c.in_ok-maps.ensures
    (ap (λ s. s.held) c.in_ok-ranges.ensures) (ap (λ p. p.addrs) c.in_ok-pool.ensures) in
    record {
      starts = starts;
      fits = c.requires;
      laid_out = start_laid_out c.args.plan.now l starts c.in_ok-guest.guest c.in_ok-guest.ensures.laid_out;
      resolver = c.in_ok-guest.ensures.stubs.resolver;
      ends = c.in_ok-guest.ensures.stubs.ends;
      clear = c.in_ok-guest.ensures.clear;
    }
