use Rattle.std.proofs.Common.{◌∙◌, ap, sym, subst, cond, Some}
use Rattle.guest_mem.specs.declared.kind.MemKind.TheVariants.{Code, Data}
use Rattle.guest_mem.specs.Memory.{HaveKind}
use Rattle.guest_mem.specs.Ranges.{with_marks}
use Rattle.load_map.specs.Translation.{placed}
use Rattle.load_memory.proofs.WatchedRanges.{AreWatched-one}
use Rattle.load_memory.proofs.watch.watch_range.Goals as goal

pub returns-then-not-is_executable_in : goal.returns-then-not-is_executable_in
returns-then-not-is_executable_in c =
    AreWatched-one c.args.guest.now c.watch.new.self (placed c.args.load_map.now c.args.v) c.args.len c.requires.watchable.inside c.whole.ensures.whole
    (subst (λ b. HaveKind c.args.guest.now (placed c.args.load_map.now c.args.v) c.args.len (Some (cond b Code Data))) (sym c.is_executable_in.ensures ∙ c.if-not-is_executable_in.true) c.requires.watchable.kinds)
    (c.watch.ensures ∙ ap (λ start. with_marks c.args.guest.now start c.args.len) c.placed.ensures)
