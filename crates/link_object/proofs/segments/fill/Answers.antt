use Rattle.std.proofs.Common.{◌+◌, slice_index, refl, arith}
use Rattle.load_image.proofs.ImageParts.{part_byte}
use Rattle.link_model.specs.Segments.{section_byte}
use Rattle.link_object.proofs.segments.fill.Goals as goal

pub returns : goal.returns
returns c mode inputs xs i are lt =
    part_byte c.args.words.now c.put_contents.new.bytes (section_byte mode inputs xs) c.args.start i (slice_index c.write_words.new.bytes i) (section_byte mode inputs xs (c.args.start + i))
    (c.write_words.ensures i (omega (arith, lt))) (c.put_contents.ensures.sections mode inputs xs i are lt (c.requires.zeros i)) refl
