use Rattle.std.proofs.Common.{◌≡◌, ◌∙◌, [], ◌∷◌, refl}
use Rattle.elf_model.specs.declared.object.Segment.{Segment}
use Rattle.known_objects.proofs.EntryExamples.{example_sound, three_alike, two_alike}
use Rattle.known_objects.proofs.entries.example.object.Goals as goal

pub returns : goal.returns
returns c =
    let high : Segment = record { vaddr = 32768; memsz = 1024; flags = 5; align = 4; filled = c.args.high.now } in
    let low : Segment = record { vaddr = 0; memsz = 1024; flags = c.args.flags; align = 4; filled = c.args.low.now } in
    let last : Segment = record { vaddr = 65536; memsz = 256; flags = 6; align = 4; filled = c.args.from_got.now } in
    let segments : c.from_vec.result ≡ high ∷ low ∷ last ∷ []
    = c.from_vec.ensures ∙ c.in_ok-segments.ensures.items ∙ three_alike c.in_ok-high.high c.in_ok-low.low c.in_ok-data.data high low last c.in_ok-high.ensures c.in_ok-low.ensures c.in_ok-data.ensures in
    let jmprels : c.in_ok-jmprels.jmprels ≡ record { site = 65548; kind = 164; symbol = 1 } ∷ record { site = 65556; kind = 164; symbol = 1 } ∷ []
    = c.in_ok-jmprels.ensures ∙ two_alike c.slot.result c.slot-2.result _ _ c.slot.ensures c.slot-2.ensures in
    example_sound _ (record {
      high = c.args.high.now;
      low = c.args.low.now;
      data_bytes = c.args.from_got.now;
      flags = c.args.flags;
      segments = segments;
      few_high = c.requires.high;
      few_low = c.requires.low;
      few_data = c.requires.got;
      got = refl;
      rels = c.new-3.ensures;
      jmprels = jmprels;
      fixups = refl;
    })
