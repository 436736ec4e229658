use Rattle.std.proofs.Common.{sym, ◌∙◌}
use Rattle.proc_run.proofs.RunParts.{unscheduled_from, unscheduled_none}
use Rattle.run_model.specs.State.{lives}
use Rattle.proc_run.proofs.FirstLive.{passes}
use Rattle.proc_run.proofs.process.Process.run_unscheduled.Goals as goal

pub returns-in-Some-clause-part : goal.returns-in-Some-clause-part
returns-in-Some-clause-part g c =
    unscheduled_from c.run_freely.result c.args.self.now.limit c.in-Some.first c.args.self.now.state _ _ _ _ c.live_from.result c.live_from.ensures c.in-Some.is c.run_freely.ensures.part

pub returns-in-None-clause-part : goal.returns-in-None-clause-part
returns-in-None-clause-part g c = unscheduled_none c.args.self.now.limit c.args.self.now.state _ (g.O.Sink.faults c.args.out.now) c.live_from.result c.live_from.ensures c.in-None.is

pub run_freely-requires-clause-lives : goal.run_freely-requires-clause-lives
run_freely-requires-clause-lives g c = passes (lives c.args.self.now.state.threads) _ c.in-Some.first (sym c.live_from.ensures ∙ c.in-Some.is)
