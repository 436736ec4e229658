use Rattle.std.proofs.Common.{◌≡◌, ◌+◌, ◌*◌, ◌/◌, sym, ap, ◌∙◌, true, Some, take, option_map, arith, eq-eqb, below_more}
use Rattle.std.proofs.lemmas.Bool.{ne_eqb}
use Rattle.std.proofs.lemmas.List.FromFn.{map-range_with_len_more}
use Rattle.elf_model.specs.Dynamic as spec
use Rattle.elf_model.specs.Dynamic.{before_null}
use Rattle.elf_read.proofs.Places.{front_is, no_place}
use Rattle.elf_read.proofs.dynamic.before_null.Goals as goal

pub returns-then-entry-eq-DT_NULL : goal.returns-then-entry-eq-DT_NULL
unfolding before_null
returns-then-entry-eq-DT_NULL c =
    let here : spec.is_null (spec.entry_at c.args.bytes.now (c.args.start + 8 * c.loop-k.k)) ≡ true = rw (← c.entry_at-entry.ensures) (eq-eqb _ _ c.if-entry-eq-DT_NULL.true) in
    sym (front_is spec.is_null (λ k. spec.entry_at c.args.bytes.now (c.args.start + 8 * k)) (c.args.size / 8) c.loop-k.k c.loop-k-test.true c.loop-k.invariant.no_null here ∙ ap (λ xs. Some xs) (sym c.loop-k.invariant.read))

pub loop-k-preserved : goal.loop-k-preserved
loop-k-preserved c = record {
  read = rw (c.in_ok-push.ensures.items, c.loop-k.invariant.read, c.entry_at-entry.ensures) (sym (map-range_with_len_more (λ k. spec.entry_at c.args.bytes.now (c.args.start + 8 * k)) 0 c.loop-k.k c.loop-k.k (omega arith)));
  no_null = below_more _ _ c.loop-k.invariant.no_null (rw (← c.entry_at-entry.ensures) (ne_eqb _ _ c.if-entry-eq-DT_NULL.false));
}

pub returns : goal.returns
unfolding before_null
returns c =
    sym (ap (λ o. option_map (λ k. take k (spec.whole_entries c.args.bytes.now c.args.start c.args.size)) o) (no_place spec.is_null (λ k. spec.entry_at c.args.bytes.now (c.args.start + 8 * k)) (c.args.size / 8) (λ k h. c.loop-k.invariant.no_null k (omega arith))))
