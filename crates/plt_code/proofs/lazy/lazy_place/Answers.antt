use Rattle.std.proofs.Common.{◌≡◌, ◌∙◌, sym, ap, Some}
use Rattle.std.specs.Prelude.{slice_get}
use Rattle.elf_model.specs.Places.{slot_of}
use Rattle.plt_code.proofs.Offsets.{site_small}
use Rattle.plt_code.proofs.lazy.lazy_place.Goals as goal

pub lazy_at-requires-clause-site : goal.lazy_at-requires-clause-site
lazy_at-requires-clause-site c =
    let is : slot_of c.args.o.now c.args.k ≡ Some c.in-Some.slot = ap (λ slots. slice_get slots c.args.k) (sym c.as_slice.ensures) ∙ sym c.in-Some.ensures in
    site_small c.args.o.now c.args.k c.in-Some.slot c.requires is
