use Rattle.std.proofs.Common.{ap, sym, ◌∙◌}
use Rattle.std.specs.FinMap.{find}
use Rattle.func_desc.specs.Functions.{func_cmp}
use Rattle.func_desc.proofs.Looked.{IsLooked-first, IsLooked-next, looked_at, looked_live, looked_found, looked_smaller}
use Rattle.func_desc.proofs.buckets.Entries.find.Goals as goal

pub loop-at-init : goal.loop-at-init
loop-at-init c =
    IsLooked-first c.self.inside.buckets c.args.f.now c.self.inside.nodes c.self.invariant c.first_of-at.result c.first_of-at.ensures.tied (rw c.bucket_of.ensures.hash at c.first_of-at.ensures.first)

pub value-addr-requires : goal.value-addr-requires
value-addr-requires c =
    let looked = looked_at c.self.inside.buckets c.self.inside.nodes c.args.f.now c.loop-at.at c.in-Some.id c.in-Some.is c.loop-at.invariant in
    looked_live c.self.inside.buckets c.args.f.now c.self.inside.nodes c.self.invariant c.in-Some.id looked

pub returns-then-is_same : goal.returns-then-is_same
returns-then-is_same c =
    let looked = looked_at c.self.inside.buckets c.self.inside.nodes c.args.f.now c.loop-at.at c.in-Some.id c.in-Some.is c.loop-at.invariant in
    looked_found c.self.inside.buckets c.args.f.now c.self.inside.nodes c.self.invariant c.in-Some.id looked c.value-addr.result.0 c.value-addr.result.1 c.value-addr.ensures (sym c.if-is_same.true ∙ c.is_same.ensures)
    ∙ ap (λ e. find func_cmp c.args.f.now e.entries) c.self.view_is

pub next_of-at-requires : goal.next_of-at-requires
next_of-at-requires c =
    let looked = looked_at c.self.inside.buckets c.self.inside.nodes c.args.f.now c.loop-at.at c.in-Some.id c.in-Some.is c.loop-at.invariant in
    looked_live c.self.inside.buckets c.args.f.now c.self.inside.nodes c.self.invariant c.in-Some.id looked

pub loop-at-smaller : goal.loop-at-smaller
loop-at-smaller c =
    let looked = looked_at c.self.inside.buckets c.self.inside.nodes c.args.f.now c.loop-at.at c.in-Some.id c.in-Some.is c.loop-at.invariant in
    rw c.in-Some.is
    (looked_smaller c.self.inside.buckets c.args.f.now c.self.inside.nodes c.self.invariant c.in-Some.id looked c.value-addr.result.0 c.value-addr.result.1 c.value-addr.ensures c.next_of-at.result c.next_of-at.ensures.next)

pub loop-at-preserved : goal.loop-at-preserved
loop-at-preserved c =
    let looked = looked_at c.self.inside.buckets c.self.inside.nodes c.args.f.now c.loop-at.at c.in-Some.id c.in-Some.is c.loop-at.invariant in
    IsLooked-next c.self.inside.buckets c.args.f.now c.self.inside.nodes c.self.invariant c.in-Some.id looked c.value-addr.result.0 c.value-addr.result.1 c.value-addr.ensures c.next_of-at.result c.next_of-at.ensures.next (sym c.if-is_same.false ∙ c.is_same.ensures)
