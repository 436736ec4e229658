use Rattle.std.proofs.Common.{refl}
use Rattle.fd_base.proofs.Filed.{files_of-insert_entry}
use Rattle.fd_base.proofs.store.MemStore.add.Goals as goal

pub returns : goal.returns
returns c =
    rw (← c.self.view_is, c.in_ok-insert.ensures.entries, files_of-insert_entry, c.in_ok-name.ensures.items, c.as_slice.ensures, c.in_ok-bytes.ensures) refl
