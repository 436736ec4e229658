use Rattle.elf_read.proofs.Ranges.{range_found}
use Rattle.elf_read.proofs.tables.range_of.Goals as goal

pub returns-clause-tests : goal.returns-clause-tests
returns-clause-tests c =
    range_found c.args.loads.now c.args.entries.now c.args.table_tag c.args.size_tag c.in-Some.e.now c.value_of-size.result c.unwrap_or-size.result c.in-Some-rel_table_at.offset
    c.in-Some.ensures c.value_of-size.ensures c.unwrap_or-size.ensures c.in-Some-rel_table_at.ensures.value c.in-Some-rel_table_at.ensures.held c.in_ok-refuse.ensures
