use Rattle.std.proofs.Common.{◌++◌, ap, sym, ◌∙◌, arith}
use Rattle.std.specs.Prelude.{option_to_list}
use Rattle.link_words.specs.parts.Facts.{AreFacts}
use Rattle.link_object.specs.parts.Words.{site_word_of}
use Rattle.link_object.proofs.Gathered.{one_more, all_gathered, filter_map_is}
use Rattle.link_object.proofs.words.put_site_words.Goals as goal

pub loop-one-preserved : goal.loop-one-preserved
loop-one-preserved c mode inputs xs all =
    one_more (AreFacts mode inputs) (λ x. option_to_list (site_word_of mode inputs x)) xs _ all _ _ _ (c.loop-one.invariant mode inputs xs all) _ _ _ (omega arith)
    c.in_ok-put_word.ensures (λ x is. ap option_to_list (c.site_word.ensures mode inputs x is))

pub returns : goal.returns
returns c mode inputs xs all =
    all_gathered (AreFacts mode inputs) (λ x. option_to_list (site_word_of mode inputs x)) xs _ all _ _ _ (c.loop-one.invariant mode inputs xs all) (omega arith)
    ∙ ap (λ l. c.args.words.now ++ l) (sym (filter_map_is (site_word_of mode inputs) xs))
