use Rattle.std.proofs.Common.{◌≡◌, ◌+◌, ◌*◌, ◌-◌, ◌/◌, ◌<◌, ◌≤◌, ◌++◌, [], ◌∷◌, length, ◌∙◌, arith}
use Rattle.std.proofs.lemmas.List.Elements.{All-push}
use Rattle.fd_base.proofs.Lists.{all_at}
use Rattle.elf_model.specs.Sound.{IsSized}
use Rattle.plt_code.specs.declared.listing.Entry.{Entry}
use Rattle.plt_code.proofs.Within.{code_of}
use Rattle.plt_code.proofs.Listed.{lists_skip, lists_push, lists_end, word_low, word_high}
use Rattle.plt_code.proofs.scan.scan.Goals as goal
use Rattle.plt_code.proofs.scan.scan.Goals.{in-Some+in_ok-push, in_default}

pub slot_called_at-requires-clause-code : goal.slot_called_at-requires-clause-code
slot_called_at-requires-clause-code c =
    let text = c.requires.text in
    let s = c.args.text.now in
    code_of c.args.o.now.segments text.place (4 * c.loop-n.n) 20 s text.held text.executable
    (word_low (s).vaddr c.div_ceil-n.result c.loop-n.n c.div_ceil-n.ensures c.loop-n.auto.n)
    (word_high (s).vaddr (length (s).filled) c.len.result c.saturating_sub-n-end.result c.loop-n.n c.len.ensures c.saturating_sub-n-end.ensures c.loop-n-test.true)

pub slot_called_at-requires-clause-small : goal.slot_called_at-requires-clause-small
slot_called_at-requires-clause-small c =
    let text = c.requires.text in
    let s = c.args.text.now in
    let size : IsSized s = all_at IsSized c.args.o.now.segments text.place s c.requires.sound.sized text.held in
    let inside : 4 * c.loop-n.n + 20 ≤ (s).vaddr + length (s).filled
    = word_high (s).vaddr (length (s).filled) c.len.result c.saturating_sub-n-end.result c.loop-n.n c.len.ensures c.saturating_sub-n-end.ensures c.loop-n-test.true in
    omega (arith, inside, size.filled, size.end)

pub loop-n-preserved : goal.loop-n-preserved
loop-n-preserved c =
    let o = c.args.o.now in
    let s = c.args.text.now in
    let n = c.loop-n.n in
    let old = c.loop-n.found in
    elim c.match-slot_called_at.branch [
      | in-Some+in_ok-push w ↦
          let entry : Entry = record { at = 4 * n; slot = w.in-Some.slot } in
          let text = c.requires.text in
          let size : IsSized s = all_at IsSized (o).segments text.place s c.requires.sound.sized text.held in
          let inside : 4 * n + 20 ≤ (s).vaddr + length (s).filled
          = word_high (s).vaddr (length (s).filled) c.len.result c.saturating_sub-n-end.result n c.len.ensures c.saturating_sub-n-end.ensures c.loop-n-test.true in
          let within : 4 * n < (s).vaddr + (s).memsz = omega (arith, inside, size.filled) in
          let pushed : c.match-slot_called_at.found ≡ old ++ entry ∷ [] = w.found-is ∙ w.in_ok-push.ensures in
          rw pushed record {
            listed = lists_push o n w.in-Some.slot old c.requires.sound w.in-Some.ensures.entry c.loop-n.invariant.listed;
            within = All-push (λ (e : Entry). e.at < (s).vaddr + (s).memsz) old entry c.loop-n.invariant.within within;
          }
      | in_default w ↦
          rw w.found-is record {
            listed = lists_skip o n old w.in_default.ensures.none c.loop-n.invariant.listed;
            within = c.loop-n.invariant.within;
          }
    ]

pub returns : goal.returns
returns c =
    let s = c.args.text.now in
    let end : ((s).vaddr + length (s).filled - 16) / 4 ≤ c.loop-n.n = omega (arith, c.len.ensures, c.saturating_sub-n-end.ensures, c.loop-n-test.false) in
    lists_end c.args.o.now s c.loop-n.n c.loop-n.found c.requires.sound c.requires.text
    (word_low (s).vaddr c.div_ceil-n.result c.loop-n.n c.div_ceil-n.ensures c.loop-n.auto.n) end c.loop-n.invariant.within c.loop-n.invariant.listed
