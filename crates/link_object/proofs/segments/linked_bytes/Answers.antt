use Rattle.std.proofs.Common.{◌≡◌, ◌-◌, List, map, filter, sym, subst, ap, ◌∙◌, arith, All}
use Rattle.std.specs.List.{range_with_len}
use Rattle.std.proofs.lemmas.Result.{IfOk-weaker}
use Rattle.load_model.specs.declared.words.LinkWord.{LinkWord}
use Rattle.load_model.specs.Image.{byte_over}
use Rattle.load_image.specs.parts.Bounds.{IsWordWhole}
use Rattle.link_model.specs.Inputs.{sections_of}
use Rattle.link_model.specs.Segments.{section_byte, linked_bytes}
use Rattle.link_words.specs.declared.contents.Content.{Content}
use Rattle.link_words.specs.parts.Contents.{AreContentsOf, LiesIn}
use Rattle.link_object.specs.parts.Filled.{is_copied}
use Rattle.link_object.proofs.Segmented.{in_order, inside_between, whole_between, bytes_are}
use Rattle.link_object.proofs.segments.linked_bytes.Goals as goal

pub bytes_between-requires-clause-order : goal.bytes_between-requires-clause-order
bytes_between-requires-clause-order c =
    let l = c.args.layout.now in
    let le = in_order l.mode l.text.inputs.now c.requires.sound c.args.is_writable in
    omega (arith, le, c.requires.start, c.requires.end)

pub bytes_between-requires-clause-inside : goal.bytes_between-requires-clause-inside
bytes_between-requires-clause-inside c =
    let l = c.args.layout.now in
    subst (λ (cs : List Content). All (LiesIn c.args.start (c.args.end - c.args.start)) cs) (sym c.as_slice.ensures)
    (inside_between l.mode l.text.inputs.now c.requires.sound c.args.is_writable c.args.start c.args.end c.in_ok-contents.contents c.requires.start c.requires.end c.in_ok-contents.ensures)

pub bytes_between-requires-clause-whole : goal.bytes_between-requires-clause-whole
bytes_between-requires-clause-whole c =
    let l = c.args.layout.now in
    subst (λ (ws : List LinkWord). All (IsWordWhole c.args.start (c.args.end - c.args.start)) ws) (sym c.requires.words)
    (whole_between l.mode l.text.inputs.now c.requires.sound c.args.is_writable c.args.start c.args.end c.requires.start c.requires.end)

pub returns : goal.returns
returns c =
    let l = c.args.layout.now in
    let inputs = l.text.inputs.now in
    let kept = filter (is_copied c.args.is_writable) (sections_of inputs) in
    let are = subst (λ (cs : List Content). AreContentsOf l.mode inputs kept cs) (sym c.as_slice.ensures) c.in_ok-contents.ensures in
    IfOk-weaker c.bytes_between.result (λ bytes. bytes ≡ map (byte_over c.args.words.now (section_byte l.mode inputs kept)) (range_with_len c.args.start (c.args.end - c.args.start)))
    (λ bytes. bytes ≡ linked_bytes l.mode inputs c.args.start c.args.end)
    (λ bytes is. is ∙ ap (λ (ws : List LinkWord). map (byte_over ws (section_byte l.mode inputs kept)) (range_with_len c.args.start (c.args.end - c.args.start))) c.requires.words
    ∙ bytes_are l.mode inputs c.requires.sound c.args.is_writable c.args.start c.args.end c.requires.start c.requires.end)
    (c.bytes_between.ensures l.mode inputs kept are)
