use Rattle.std.proofs.Common.{◌≡◌, ◌++◌, take}
use Rattle.fd_base.specs.Words.{word_bytes}
use Rattle.fd_base.proofs.words.Seq+u8.push_words.Given as goal

abbrev pub invariant-loop-word : goal.invariant-loop-word
invariant-loop-word l = l.self ≡ l.fn.self ++ word_bytes (take l.word-index l.words)
