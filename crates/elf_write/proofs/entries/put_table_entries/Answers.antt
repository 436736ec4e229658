use Rattle.std.proofs.Common.{length}
use Rattle.std.proofs.lemmas.Result.{on_ok_weaker}
use Rattle.elf_model.specs.declared.constants.TheConstants.{SYM_SIZE, DT_HASH, DT_STRTAB, DT_STRSZ, DT_SYMTAB, DT_SYMENT}
use Rattle.elf_write.specs.TableSegment.{entry, name_strings, rel_entries, slot_entries}
use Rattle.elf_write.proofs.TablesJoined.{seven_behind}
use Rattle.elf_write.proofs.entries.put_table_entries.Goals as goal

pub returns : goal.returns
returns c =
    let l = c.args.layout.now in
    let o = c.args.object.now in
    let size = rw c.strings_size.ensures.size at c.in_ok-put_entry-3.ensures in
    let rels = rw c.as_slice.ensures at c.in_ok-put_rel_entries.ensures in
    on_ok_weaker c.put_slot_entries.result (λ put.
    let slots = rw c.as_slice-2.ensures at put in
    seven_behind c.args.out.now _ _ _ _ _ _ _ (entry DT_HASH l.hash) (entry DT_STRTAB l.strings) (entry DT_STRSZ (length (name_strings o)))
    (entry DT_SYMTAB l.symbols) (entry DT_SYMENT SYM_SIZE) (rel_entries l.rels o.rels) (slot_entries l.jmprels o.jmprels)
    c.in_ok-put_entry.ensures c.in_ok-put_entry-2.ensures size c.in_ok-put_entry-4.ensures c.in_ok-put_entry-5.ensures rels slots) c.put_slot_entries.ensures
