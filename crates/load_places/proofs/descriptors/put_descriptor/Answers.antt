use Rattle.std.proofs.Common.{[], ◌∷◌, ap, ◌∙◌}
use Rattle.guest_mem.specs.Accesses.{with_bytes}
use Rattle.load_model.specs.Image.{place_of}
use Rattle.load_model.specs.Layout.{bytes_of_words}
use Rattle.load_state.specs.Loaded.{placing_of}
use Rattle.load_places.proofs.descriptors.put_descriptor.Goals as goal

pub returns : goal.returns
returns c = λ addrs.
    c.put_pair.ensures.rest ∙ ap (λ code. with_bytes c.args.guest.now c.args.addr (bytes_of_words (code ∷ c.got_of-got.result ∷ []))) (c.place_of-code.ensures addrs)
    ∙ ap (λ got. with_bytes c.args.guest.now c.args.addr (bytes_of_words (place_of (placing_of c.args.process.now c.args.maps.now addrs) c.args.f.now ∷ got ∷ []))) (c.got_of-got.ensures addrs)
