use Rattle.std.proofs.Common.{◌≡◌, ◌-◌, ap, ◌∙◌, length}
use Rattle.std.specs.Prelude.{slice_get}
use Rattle.func_desc.specs.Pool.{free_slots}
use Rattle.func_desc.proofs.Kept.{kept_free}
use Rattle.func_desc.proofs.pool.DescPool.free_at.Goals as goal

pub returns : goal.returns
returns c =
    let s = c.self.inside in
    let room = s.entries.spare - length s.slots.free in
    let free : s.slots.free ≡ free_slots c.args.self.now = kept_free s.slots.base (length s.slots.marks) s.entries.entries s.slots.free s.entries.spare c.self.invariant room ∙ ap free_slots c.self.view_is in
    c.get.ensures ∙ ap (λ l. slice_get l c.args.n) free
