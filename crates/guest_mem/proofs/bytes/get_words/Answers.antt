use Rattle.std.proofs.Common.{◌≡◌, ℕ, ◌+◌, ◌*◌, List, [], ◌∷◌, ◌++◌, drop, ap, sym, ◌∙◌, arith}
use Rattle.std.proofs.lemmas.List.{take_more_set}
use Rattle.byteorder.specs.Endian.{little_number}
use Rattle.fd_base.specs.Words.{word_in}
use Rattle.guest_mem.specs.Accesses.{words_in}
use Rattle.guest_mem.proofs.Words.{words_in-more}
use Rattle.guest_mem.proofs.bytes.get_words.Goals as goal

pub loop-value-preserved : goal.loop-value-preserved
unfolding word_in
loop-value-preserved c =
    let bytes : List ℕ = c.args.bytes.now in
    let place : c.loop-value.from ≡ c.args.at + 4 * c.loop-value.value-index = c.loop-value.invariant.place in
    let word : c.word_in.result ≡ little_number 4 (drop c.loop-value.from bytes) = c.word_in.ensures in
    record {
      read = take_more_set _ _ _ (omega arith) ∙ ap (λ xs. xs ++ c.word_in.result ∷ []) c.loop-value.invariant.read
          ∙ ap (λ w. words_in bytes c.args.at c.loop-value.value-index ++ w ∷ []) (word ∙ ap (λ a. little_number 4 (drop a bytes)) place) ∙ sym (words_in-more bytes c.args.at c.loop-value.value-index);
      place = omega arith;
    }
