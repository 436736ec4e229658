use Rattle.std.proofs.lemmas.Result.{on_ok_weaker}
use Rattle.elf_write.proofs.TablesJoined.{all_entries}
use Rattle.elf_write.proofs.entries.put_entries.Goals as goal

pub returns : goal.returns
returns c =
    let tables = rw c.requires.layout at c.in_ok-put_table_entries.ensures in
    on_ok_weaker c.put_entry.result (λ put. all_entries c.args.object.now c.args.out.now _ _ _ _ c.in_ok-put_name_entries.ensures tables c.in_ok-put_other_entries.ensures put) c.put_entry.ensures
