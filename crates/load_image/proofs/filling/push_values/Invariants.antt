use Rattle.std.proofs.Common.{◌≡◌, ◌++◌, length, drop}
use Rattle.load_image.specs.Places.{placing_in}
use Rattle.load_image.specs.parts.Words.{words_by}
use Rattle.load_image.proofs.filling.push_values.Given as goal

-- the words of the sites that are left are still to come
abbrev pub invariant-loop-site : goal.invariant-loop-site
invariant-loop-site l =
    l.words.items ++ words_by (placing_in l.places) l.m l.object l.unbound (drop (length l.yielded) l.sites) (drop (length l.yielded) l.values)
    ≡ l.initial.words.items ++ words_by (placing_in l.places) l.m l.object l.unbound l.sites l.values
