use Rattle.std.proofs.Common.{◌≡◌, ◌≤◌, ◌++◌, drop, length}
use Rattle.fdpic_cmd.specs.Forms.{libraries_of}
use Rattle.fdpic_cmd.proofs.link_form.libraries_of.Given as goal

-- the libraries so far, and those of the other words
abbrev pub invariant-loop-word : goal.invariant-loop-word
invariant-loop-word l = record {
  libraries : libraries_of l.words ≡ l.names ++ libraries_of (drop l.word-index l.words);
  few : length l.names ≤ l.word-index;
}
