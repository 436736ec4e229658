use Rattle.std.proofs.Common.{sym, ◌+◌}
use Rattle.std.proofs.lemmas.List.{take_rest}
use Rattle.fd_base.proofs.Splitting.{split_at_end, no_end}
use Rattle.fd_base.proofs.lines.split_line.Goals as goal

-- src/lines.rt:82:1
pub returns-in-Some-clause-lines : goal.returns-in-Some-clause-lines
returns-in-Some-clause-lines c =
    rw (take_rest c.args.bytes.now (c.in-Some.end + 1)) (split_at_end c.args.bytes.now c.in-Some.end (sym c.in-Some.ensures.place))

-- src/lines.rt:82:1
pub returns-in-None-clause-lines : goal.returns-in-None-clause-lines
returns-in-None-clause-lines c = no_end c.args.bytes.now (sym c.in-None.ensures.place) c.requires
