use Rattle.std.proofs.Common.{length}
use Rattle.job_text.proofs.AddressFields.{Gathered}
use Rattle.job_text.proofs.statement.addresses.Given as goal

-- the addresses so far are those of the fields so far
abbrev pub invariant-loop-field : goal.invariant-loop-field
invariant-loop-field l = Gathered l.most l.fn.fields l.fields l.addrs

-- the fields that are left
abbrev pub decreases-loop-field : goal.decreases-loop-field
decreases-loop-field l = length l.fields
