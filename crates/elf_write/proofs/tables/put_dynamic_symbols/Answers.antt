use Rattle.std.proofs.Common.{◌+◌, ◌++◌, refl, ap, ◌∙◌, arith}
use Rattle.fd_base.specs.Words.{word_bytes}
use Rattle.elf_write.specs.Words.{symbol_row, table_bytes}
use Rattle.elf_write.specs.Strings.{place_of}
use Rattle.elf_write.specs.TableSegment.{index_of, symbol_rows}
use Rattle.elf_write.proofs.Parts.{item_drop, symbols_more}
use Rattle.elf_write.proofs.tables.put_dynamic_symbols.Goals as goal

pub loop-symbol-preserved : goal.loop-symbol-preserved
loop-symbol-preserved c =
    let symbols = c.args.symbols.now in
    let i = c.loop-symbol.symbol-index in
    let item = c.symbol-item.result in
    let more = item_drop symbols i item c.loop-symbol-test.true c.symbol-item.is in
    record {
      left = symbols_more index_of symbol_rows (λ at s ss. refl) symbols i item more c.loop-symbol.out c.put_symbol.new.out (c.args.out.now ++ table_bytes (symbol_rows 1 symbols)) c.loop-symbol.at (c.loop-symbol.at + c.name_size-at.result)
          (c.in_ok-put_symbol.ensures
          ∙ ap (λ n. c.loop-symbol.out ++ word_bytes (symbol_row n c.index_of.result item)) c.place_of-name.ensures
          ∙ ap (λ n. c.loop-symbol.out ++ word_bytes (symbol_row (place_of c.loop-symbol.at item.name) n item)) c.index_of.ensures)
          (ap (λ n. c.loop-symbol.at + n) c.name_size-at.ensures.size) c.loop-symbol.invariant.left;
      near = omega (arith, c.loop-symbol.invariant.near, c.name_size-at.ensures.short);
    }
