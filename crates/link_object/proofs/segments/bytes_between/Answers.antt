use Rattle.std.proofs.Common.{◌≡◌, ◌-◌, length, ◌∙◌, arith, rules}
use Rattle.load_model.specs.Image.{byte_over}
use Rattle.link_model.specs.Segments.{section_byte}
use Rattle.link_object.proofs.Segmented.{listed}
use Rattle.link_object.proofs.segments.bytes_between.Goals as goal

pub returns : goal.returns
returns c mode inputs xs are =
    let size : length c.in_ok-bytes.bytes.items ≡ c.args.end - c.args.start = search rules in
    c.from_vec.ensures
    ∙ listed (byte_over c.args.words.now (section_byte mode inputs xs)) c.args.start (c.args.end - c.args.start) c.fill_all.new.bytes.items (c.fill_all.ensures.len ∙ size)
    (λ i lt. c.fill_all.ensures.bytes mode inputs xs i are (omega (arith, lt, size)))
