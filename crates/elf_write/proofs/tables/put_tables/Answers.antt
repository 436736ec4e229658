use Rattle.std.proofs.Common.{◌++◌, map, ap, ◌∙◌}
use Rattle.std.proofs.lemmas.Result.{on_ok_weaker}
use Rattle.fd_base.specs.Words.{word_bytes}
use Rattle.elf_write.specs.Words.{table_bytes, rel_row}
use Rattle.elf_write.specs.HashTable.{hash_words}
use Rattle.elf_write.specs.TableSegment.{symbol_rows}
use Rattle.elf_write.proofs.TablesJoined.{all_tables}
use Rattle.elf_write.proofs.tables.put_tables.Goals as goal

pub returns : goal.returns
returns c =
    let o = c.args.object.now in
    let out = c.args.out.now in
    let hash = c.in_ok-put_hash.ensures ∙ ap (λ ss. out ++ word_bytes (hash_words ss)) c.as_slice.ensures in
    let symbols = c.in_ok-put_dynamic_symbols.ensures ∙ ap (λ ss. c.put_hash.new.out ++ table_bytes (symbol_rows 1 ss)) c.as_slice-2.ensures in
    let rels = c.in_ok-put_rels.ensures ∙ ap (λ rs. c.put_strings.new.out ++ table_bytes (map rel_row rs)) c.as_slice-3.ensures in
    let slots = c.in_ok-put_rels-2.ensures ∙ ap (λ rs. c.put_rels.new.out ++ table_bytes (map rel_row rs)) c.as_slice-4.ensures in
    on_ok_weaker c.put_entries.result (λ put. all_tables o out c.put_hash.new.out c.put_dynamic_symbols.new.out c.put_strings.new.out c.put_rels.new.out c.put_rels-2.new.out
    c.put_fixups.new.out c.put_entries.new.out hash symbols c.in_ok-put_strings.ensures rels slots c.in_ok-put_fixups.ensures put) c.put_entries.ensures
