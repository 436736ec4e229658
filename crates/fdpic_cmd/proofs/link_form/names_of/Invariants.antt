use Rattle.std.proofs.Common.{◌≡◌, ◌++◌, drop, is_none}
use Rattle.std.specs.List.{list_all}
use Rattle.fd_base.specs.Name.{name_refusal_of}
use Rattle.fdpic_cmd.proofs.link_form.names_of.Given as goal

-- the names so far, and those of the other words
abbrev pub invariant-loop-word : goal.invariant-loop-word
invariant-loop-word l = record {
  names : l.words ≡ l.names ++ drop l.word-index l.words;
  each : list_all (λ word. is_none (name_refusal_of word)) l.words ≡ list_all (λ word. is_none (name_refusal_of word)) (drop l.word-index l.words);
}
