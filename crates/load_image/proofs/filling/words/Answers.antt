use Rattle.std.proofs.Common.{◌∙◌}
use Rattle.load_image.specs.Places.{placing_in}
use Rattle.load_image.proofs.FilledRanges.{has_words}
use Rattle.load_image.proofs.SiteValues.{words_are, words_known}
use Rattle.load_image.proofs.filling.words.Goals as goal

pub returns-clause-values : goal.returns-clause-values
returns-clause-values c =
    let pushed = rw c.as_slice.ensures at c.in_ok-push_values.ensures in
    words_are (placing_in c.args.places.now) c.args.m c.args.object.now c.args.unbound.now c.args.values.now _ _ _ c.in_ok-sites.ensures (c.in_ok-words.ensures.items ∙ c.got_words.ensures c.args.places.now) pushed

pub returns-clause-known : goal.returns-clause-known
returns-clause-known c = λ l known.
    let pushed = rw c.as_slice.ensures at c.in_ok-push_values.ensures in
    words_are (placing_in c.args.places.now) c.args.m c.args.object.now c.args.unbound.now c.args.values.now _ _ _ c.in_ok-sites.ensures (c.in_ok-words.ensures.items ∙ c.got_words.ensures c.args.places.now) pushed
    ∙ words_known l (placing_in c.args.places.now) c.args.m c.args.object.now c.args.unbound.now c.args.values.now known

pub got_words-requires-clause-got : goal.got_words-requires-clause-got
got_words-requires-clause-got c = (has_words _ c.requires.sound).got

pub push_values-requires : goal.push_values-requires
push_values-requires c = rw (c.as_slice.ensures, c.in_ok-sites.ensures) (has_words _ c.requires.sound).sites

pub sites-requires : goal.sites-requires
sites-requires c = c.requires.sound.few_slots
