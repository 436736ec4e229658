use Rattle.std.proofs.Common.{◌≡◌, ◌≤◌, All}
use Rattle.elf_model.specs.RelSound.{IsRelSound}
use Rattle.link_means.specs.Linked.{IsOfBytes}
use Rattle.fdpic_cmd.specs.Link.{input_in}
use Rattle.fdpic_cmd.proofs.LinkedFiles.{Taken}
use Rattle.fdpic_cmd.proofs.link.inputs_in.Given as goal

-- the first files are read, and the files stay
abbrev pub invariant-loop-k : goal.invariant-loop-k
invariant-loop-k g l = record {
  taken : Taken input_in l.fn.names (g.S.Store.files l.fn.store) l.k l.inputs;
  sound : All IsRelSound l.inputs;
  bytes : All IsOfBytes l.inputs;
  files' : g.S.Store.files l.store ≡ g.S.Store.files l.fn.store;
  count : g.S.Store.faults l.fn.store ≤ g.S.Store.faults l.store;
}
