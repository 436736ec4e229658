use Rattle.std.proofs.Common.{sym, ap, ◌∙◌}
use Rattle.std.specs.Prelude.{take, drop}
use Rattle.std.proofs.lemmas.List.{take_rest}
use Rattle.a32_text.proofs.Scanning.{split_at, word_to_end, found_at, found_nowhere, taken_all, dropped_all}
use Rattle.a32_text.proofs.scanner.split_word.Goals as goal

pub returns-in-Some : goal.returns-in-Some
returns-in-Some c =
    let at = found_at c.args.bytes.now c.in-Some.end (sym c.in-Some.ensures.place) in
    rw take_rest (record {
      word = ap (λ n. take n c.args.bytes.now) (sym at);
      behind = ap (λ n. drop n c.args.bytes.now) (sym at);
      tokens = λ some first. split_at c.args.bytes.now c.in-Some.end (sym c.in-Some.ensures.place) some first;
    })

pub returns-in-None : goal.returns-in-None
returns-in-None c =
    let at = found_nowhere c.args.bytes.now (sym c.in-None.ensures.place) in
    record {
      word = sym (ap (λ n. take n c.args.bytes.now) at ∙ taken_all c.args.bytes.now);
      behind = sym (ap (λ n. drop n c.args.bytes.now) at ∙ dropped_all c.args.bytes.now);
      tokens = λ some first. word_to_end c.args.bytes.now (sym c.in-None.ensures.place) some;
    }
