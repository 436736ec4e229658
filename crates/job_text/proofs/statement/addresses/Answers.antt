use Rattle.std.proofs.Common.{sym, ◌∙◌, arith}
use Rattle.job_text.proofs.AddressFields.{Gathered-unread, Gathered-full}
use Rattle.job_text.proofs.statement.addresses.Goals as goal

pub returns-in_default-number : goal.returns-in_default-number
returns-in_default-number c =
    Gathered-unread _ _ _ _ _ _ c.in-Some.ensures (sym c.number.ensures ∙ c.in_default-number.is) c.loop-field.invariant

pub returns-then-len-most : goal.returns-then-len-most
returns-then-len-most c = Gathered-full _ _ _ _ _ _ c.in-Some.ensures (omega arith) c.loop-field.invariant
