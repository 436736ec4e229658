use Rattle.std.proofs.Common.{◌≡◌, length, sym, ◌∙◌, arith}
use Rattle.std.proofs.lemmas.List.{take_rest}
use Rattle.a32_text.proofs.Scanning.{Behind, none_left, none_here, comment_here, comma_here, gap_here, mark_here, nothing}
use Rattle.a32_text.proofs.scanner.Scanner.next.Goals as goal

pub returns-then-is_empty : goal.returns-then-is_empty
returns-then-is_empty c =
    let b : Behind c.self.inside.rest.now c.behind_blanks-rest.result.now = record { gap = c.behind_blanks-rest.ensures.gap; same = c.behind_blanks-rest.ensures.same; first = c.behind_blanks-rest.ensures.first } in
    let e : length c.behind_blanks-rest.result.now ≡ 0 = grind arith in
    (sym c.self.view_is ∙ none_left _ _ b (none_here _ e), none_here _ e)

pub returns-then-byte-eq64 : goal.returns-then-byte-eq64
returns-then-byte-eq64 c =
    let b : Behind c.self.inside.rest.now c.behind_blanks-rest.result.now = record { gap = c.behind_blanks-rest.ensures.gap; same = c.behind_blanks-rest.ensures.same; first = c.behind_blanks-rest.ensures.first } in
    (sym c.self.view_is ∙ none_left _ _ b (comment_here _ (grind arith) (omega arith)), nothing)

pub returns-then-byte-eq44 : goal.returns-then-byte-eq44
returns-then-byte-eq44 c =
    let b : Behind c.self.inside.rest.now c.behind_blanks-rest.result.now = record { gap = c.behind_blanks-rest.ensures.gap; same = c.behind_blanks-rest.ensures.same; first = c.behind_blanks-rest.ensures.first } in
    sym c.self.view_is ∙ comma_here _ c.behind_blanks-rest.result.now _ b (grind arith) (omega arith)
    (record { gap = simp take_rest at c.behind_blanks-self-inside.ensures.gap; same = simp take_rest at c.behind_blanks-self-inside.ensures.same; first = c.behind_blanks-self-inside.ensures.first })

pub returns-then-rest-self : goal.returns-then-rest-self
returns-then-rest-self c =
    let b : Behind c.self.inside.rest.now c.behind_blanks-rest.result.now = record { gap = c.behind_blanks-rest.ensures.gap; same = c.behind_blanks-rest.ensures.same; first = c.behind_blanks-rest.ensures.first } in
    sym c.self.view_is ∙ gap_here _ _ b (omega arith) (grind arith) c.if-byte-eq64.false c.if-byte-eq44.false

pub returns : goal.returns
returns c =
    let b : Behind c.self.inside.rest.now c.behind_blanks-rest.result.now = record { gap = c.behind_blanks-rest.ensures.gap; same = c.behind_blanks-rest.ensures.same; first = c.behind_blanks-rest.ensures.first } in
    rw take_rest (sym c.self.view_is ∙ mark_here _ _ b (omega arith) (grind arith) c.if-byte-eq64.false c.if-byte-eq44.false (sym c.is_word.ensures ∙ c.if-is_word.false))
