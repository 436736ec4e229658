use Rattle.std.proofs.Common.{◌≡◌, ℕ, List, ◌+◌, ◌-◌, None, refl, ap, ◌∙◌}
use Rattle.std.proofs.lemmas.Result.{err_from_is_err_and}
use Rattle.elf_model.specs.Test.{ElfTest, first_failing, each_below}
use Rattle.elf_model.specs.Symbols as spec
use Rattle.elf_model.specs.Symbols.{all_symbol_tests, symbols_of}
use Rattle.elf_model.proofs.Tests.{below_none, below_more}
use Rattle.elf_read.specs.parts.Passes.{IsRefusal}
use Rattle.elf_read.proofs.Listed.{symbols_more}
use Rattle.elf_read.proofs.Loops.{below_stops}
use Rattle.elf_read.proofs.symbols.read_symbols.Goals as goal

pub returns-then-table-eq0 : goal.returns-then-table-eq0
unfolding all_symbol_tests symbols_of each_below
returns-then-table-eq0 c = rw (c.if-table-eq0.true, c.new-symbols.ensures) (refl, refl)

pub loop-k-init : goal.loop-k-init
loop-k-init c = record {
  passed = below_none _;
  read = rw (c.in_ok-push.ensures, c.new-symbols.ensures, c.null_symbol.ensures) refl;
}

pub returns-in_err-read_symbol : goal.returns-in_err-read_symbol
unfolding all_symbol_tests
returns-in_err-read_symbol c =
    let p = err_from_is_err_and c.from_residual-in_err-read_symbol.result c.from_residual-in_err-read_symbol.ensures.1 in
    let tests : ℕ → List ElfTest = λ k. spec.symbol_tests c.args.loads.now c.args.strings.now (spec.symbol_entry_of c.args.bytes.now c.args.table.now.offset (k + 1)) in
    let here : IsRefusal c.in_err-read_symbol.field-0.0 (tests c.loop-k.k) = rw (← c.symbol_entry-e.ensures) c.in_err-read_symbol.ensures in
    rw (p.1, p.2) (below_stops c.in_err-read_symbol.field-0.0 tests (c.args.table.now.count - 1) c.loop-k.k c.loop-k-test.true c.loop-k.invariant.passed here)

pub loop-k-preserved : goal.loop-k-preserved
loop-k-preserved c =
    let tests : ℕ → List ElfTest = λ k. spec.symbol_tests c.args.loads.now c.args.strings.now (spec.symbol_entry_of c.args.bytes.now c.args.table.now.offset (k + 1)) in
    let here : first_failing (tests c.loop-k.k) ≡ None = rw (← c.symbol_entry-e.ensures) c.in_ok-read_symbol.ensures.0 in
    record {
      passed = below_more tests c.loop-k.k c.loop-k.invariant.passed here;
      read = c.in_ok-push-2.ensures ∙ symbols_more c.args.bytes.now c.args.strings.now c.args.table.now.offset c.loop-k.k c.loop-k.symbols c.in_ok-read_symbol.field-0 c.loop-k.invariant.read (c.in_ok-read_symbol.ensures.1 ∙ ap (spec.symbol_of c.args.strings.now) c.symbol_entry-e.ensures);
    }
