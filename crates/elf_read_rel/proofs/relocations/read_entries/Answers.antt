use Rattle.std.proofs.Common.{ℕ, ◌∙◌, ◌++◌, ◌∷◌, [], sym, ap, arith, append-nil, append_assoc, map}
use Rattle.std.specs.List.{range_with_len}
use Rattle.std.proofs.lemmas.Result.{err_from_is_err_and}
use Rattle.std.proofs.lemmas.List.FromFn.{map-range_with_len_more}
use Rattle.elf_model.specs.declared.object.Rel.{Rel}
use Rattle.elf_model.specs.Relocations.{rel_of}
use Rattle.elf_model.specs.RelEntries as spec
use Rattle.elf_model.proofs.Tests.{below_none, below_more}
use Rattle.elf_read.proofs.Loops.{below_stops}
use Rattle.elf_read_rel.proofs.relocations.read_entries.Goals as goal

pub loop-k-init : goal.loop-k-init
loop-k-init c = record { passed = below_none (spec.entry_tests c.args.bytes.now c.args.h.now); read = sym (append-nil _) }

pub returns-in_err-read_entry-clause-tests : goal.returns-in_err-read_entry-clause-tests
returns-in_err-read_entry-clause-tests c =
    let p = err_from_is_err_and c.from_residual.result c.from_residual.ensures.1 in
    rw (p.1, p.2) (below_stops c.in_err-read_entry.field-0.0 (spec.entry_tests c.args.bytes.now c.args.h.now) (spec.entry_count c.args.h.now) c.loop-k.k (omega arith) c.loop-k.invariant.passed c.in_err-read_entry.ensures)

pub loop-k-preserved : goal.loop-k-preserved
loop-k-preserved c =
    let f : ℕ → Rel = λ k. rel_of (spec.entry_of c.args.bytes.now c.args.h.now k) in
    record {
      passed = below_more (spec.entry_tests c.args.bytes.now c.args.h.now) c.loop-k.k c.loop-k.invariant.passed c.in_ok-read_entry.ensures.0;
      read = c.in_ok-push.ensures
          ∙ ap (λ rs. rs ++ c.in_ok-read_entry.field-0 ∷ []) c.loop-k.invariant.read
          ∙ append_assoc c.args.rels.now (map f (range_with_len 0 c.loop-k.k)) (c.in_ok-read_entry.field-0 ∷ [])
          ∙ ap (λ r. c.args.rels.now ++ (map f (range_with_len 0 c.loop-k.k) ++ r ∷ [])) c.in_ok-read_entry.ensures.1
          ∙ ap (λ rs. c.args.rels.now ++ rs) (sym (map-range_with_len_more f 0 c.loop-k.k c.loop-k.k (omega arith)));
    }
