use Rattle.std.proofs.Common.{◌≡◌, ◌≤◌, All}
use Rattle.elf_model.specs.RelSound.{IsNameText}
use Rattle.link_model.specs.Object.{needed_of}
use Rattle.fdpic_cmd.specs.Link.{lib_in}
use Rattle.fdpic_cmd.proofs.LinkedFiles.{Taken}
use Rattle.fdpic_cmd.proofs.link.libs_in.Given as goal

-- the first files are read, and the files stay
abbrev pub invariant-loop-k : goal.invariant-loop-k
invariant-loop-k g l = record {
  taken : Taken lib_in l.fn.names (g.S.Store.files l.fn.store) l.k l.libs;
  named : All IsNameText (needed_of l.libs);
  files' : g.S.Store.files l.store ≡ g.S.Store.files l.fn.store;
  count : g.S.Store.faults l.fn.store ≤ g.S.Store.faults l.store;
}
