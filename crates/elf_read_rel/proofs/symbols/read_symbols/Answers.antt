use Rattle.std.proofs.Common.{◌≡◌, ℕ, List, ◌+◌, ◌-◌, ◌*◌, ◌<◌, None, refl, ap, sym, ◌∙◌, arith}
use Rattle.std.proofs.lemmas.Bool.{ne_eqb}
use Rattle.std.proofs.lemmas.Result.{err_from_is_err_and}
use Rattle.elf_model.specs.Test.{ElfTest, first_failing, each_below}
use Rattle.elf_model.specs.Symbols.{symbol_entry, symbol_entry_of}
use Rattle.elf_model.specs.RelSymbols as spec
use Rattle.elf_model.specs.RelSymbols.{all_symbol_tests, symbols}
use Rattle.elf_model.proofs.Tests.{below_none, below_more}
use Rattle.elf_read.specs.parts.Passes.{IsRefusal}
use Rattle.elf_read.proofs.Loops.{below_stops}
use Rattle.elf_read_rel.proofs.Listed.{symbols_more}
use Rattle.elf_read_rel.proofs.symbols.read_symbols.Goals as goal

pub returns-then-count-eq0 : goal.returns-then-count-eq0
unfolding all_symbol_tests symbols each_below
returns-then-count-eq0 c =
    let none : spec.symbol_count c.args.bytes.now ≡ 0 = sym c.symbol_count-count.ensures.count ∙ c.if-count-eq0.true in
    rw (none, c.new-symbols.ensures) (refl, refl)

pub loop-k-init : goal.loop-k-init
loop-k-init c = record {
  passed = below_none _;
  read = rw (c.in_ok-push.ensures, c.new-symbols.ensures, c.null_symbol.ensures) refl;
}

pub returns-in_err-read_symbol : goal.returns-in_err-read_symbol
unfolding all_symbol_tests
returns-in_err-read_symbol c =
    let p = err_from_is_err_and c.from_residual-in_err-read_symbol.result c.from_residual-in_err-read_symbol.ensures.1 in
    let bytes = c.args.bytes.now in
    let tests : ℕ → List ElfTest = λ k. spec.symbol_tests bytes (spec.strings bytes) (symbol_entry_of bytes (spec.symbols_offset bytes) (k + 1)) in
    let entry : c.symbol_entry-e.result ≡ symbol_entry_of bytes (spec.symbols_offset bytes) (c.loop-k.k + 1) =
    c.symbol_entry-e.ensures ∙ ap (λ n. symbol_entry bytes (n + 16 * (c.loop-k.k + 1))) c.symbols_offset-first.ensures.offset in
    let here : IsRefusal c.in_err-read_symbol.field-0.0 (tests c.loop-k.k) = rw (← entry) c.in_err-read_symbol.ensures in
    let lt : c.loop-k.k < spec.symbol_count bytes - 1 = omega (arith, c.symbol_count-count.ensures.count, c.loop-k-test.true) in
    rw (p.1, p.2) (below_stops c.in_err-read_symbol.field-0.0 tests (spec.symbol_count bytes - 1) c.loop-k.k lt c.loop-k.invariant.passed here)

pub loop-k-preserved : goal.loop-k-preserved
loop-k-preserved c =
    let bytes = c.args.bytes.now in
    let tests : ℕ → List ElfTest = λ k. spec.symbol_tests bytes (spec.strings bytes) (symbol_entry_of bytes (spec.symbols_offset bytes) (k + 1)) in
    let entry : c.symbol_entry-e.result ≡ symbol_entry_of bytes (spec.symbols_offset bytes) (c.loop-k.k + 1) =
    c.symbol_entry-e.ensures ∙ ap (λ n. symbol_entry bytes (n + 16 * (c.loop-k.k + 1))) c.symbols_offset-first.ensures.offset in
    let here : first_failing (tests c.loop-k.k) ≡ None = rw (← entry) c.in_ok-read_symbol.ensures.0 in
    record {
      passed = below_more tests c.loop-k.k c.loop-k.invariant.passed here;
      read = c.in_ok-push-2.ensures ∙ symbols_more bytes (spec.symbols_offset bytes) c.loop-k.k c.loop-k.symbols c.in_ok-read_symbol.field-0 c.loop-k.invariant.read (c.in_ok-read_symbol.ensures.1 ∙ ap (spec.rel_symbol_of bytes) entry);
    }

pub returns : goal.returns
unfolding all_symbol_tests symbols
returns c =
    let some = ne_eqb _ 0 c.if-count-eq0.false in
    let all : c.loop-k.k ≡ c.symbol_count-count.result - 1 = omega (arith, c.loop-k-test.false) in
    rw (← c.symbol_count-count.ensures.count, some, ← all) (c.loop-k.invariant.passed, c.loop-k.invariant.read)
