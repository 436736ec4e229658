use Rattle.std.proofs.Common.{subst, length, List, None, arith}
use Rattle.elf_model.specs.declared.object.Segment.{Segment}
use Rattle.plt_code.specs.parts.Scanned.{IsNext}
use Rattle.plt_code.proofs.Listed.{reads_next, jumps, parts, rises, all_listed}
use Rattle.plt_code.proofs.listing.entries.Goals as goal

pub scan-requires-clause-listed : goal.scan-requires-clause-listed
scan-requires-clause-listed c =
    let o = c.args.o.now in
    let s = c.index-segments-i.result in
    let next = reads_next o c.as_slice-segments.result.now c.loop-i.from c.in-Some.i s c.as_slice-segments.ensures c.in-Some.ensures c.index-segments-i.is in
    jumps o c.loop-i.from c.in-Some.i s c.loop-i.found c.requires c.loop-i.invariant.parted next c.loop-i.invariant.listed

pub overflow_add-from : goal.overflow_add-from
overflow_add-from c =
    let o = c.args.o.now in
    let s = c.index-segments-i.result in
    let next = reads_next o c.as_slice-segments.result.now c.loop-i.from c.in-Some.i s c.as_slice-segments.ensures c.in-Some.ensures c.index-segments-i.is in
    let up = rises o c.loop-i.from c.in-Some.i s c.requires next in
    omega (arith, up.1.1)

pub loop-i-smaller : goal.loop-i-smaller
loop-i-smaller c =
    let o = c.args.o.now in
    let s = c.index-segments-i.result in
    let next = reads_next o c.as_slice-segments.result.now c.loop-i.from c.in-Some.i s c.as_slice-segments.ensures c.in-Some.ensures c.index-segments-i.is in
    let up = rises o c.loop-i.from c.in-Some.i s c.requires next in
    omega (arith, up.0, up.1.0, up.1.1)

pub loop-i-preserved : goal.loop-i-preserved
loop-i-preserved c =
    let o = c.args.o.now in
    let s = c.index-segments-i.result in
    let next = reads_next o c.as_slice-segments.result.now c.loop-i.from c.in-Some.i s c.as_slice-segments.ensures c.in-Some.ensures c.index-segments-i.is in
    record {
      parted = parts o c.loop-i.from c.in-Some.i s c.requires c.loop-i.invariant.parted next;
      listed = c.in_ok-scan.ensures;
    }

pub returns : goal.returns
returns c =
    let o = c.args.o.now in
    let none : IsNext (o).segments c.loop-i.from (length (o).segments) None
    = subst (λ (ss : List Segment). IsNext ss c.loop-i.from (length ss) None) c.as_slice-segments.ensures
    c.in_default.ensures in
    all_listed o c.loop-i.from c.loop-i.found c.requires c.loop-i.invariant.parted none c.loop-i.invariant.listed
