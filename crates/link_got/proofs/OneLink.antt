-- What is joined and what is laid out are of one link.
use Rattle.std.proofs.Common.{◌≡◌, ◌+◌, ◌<◌, ◌^◌, ap, sym, subst, ◌∙◌}
use Rattle.std.specs.Prelude.{Contains}
use Rattle.link_model.specs.declared.need.Need.{Need}
use Rattle.link_model.specs.GotLayout.{use_size}
use Rattle.link_model.specs.Needs.{all_needs, kind_of}
use Rattle.link_model.specs.Places.{data_end, need_place}
use Rattle.link_names.specs.parts.Joining.{Joining}
use Rattle.link_places.specs.declared.layout.Layout as declared
use Rattle.link_places.specs.parts.NeedTable as table
use Rattle.link_got.specs.parts.Keyed.{joining_of}
use Rattle.link_got.proofs.Bounds.{row-near}

module _ (j : Joining) (l : declared.Layout) (one : j ≡ joining_of l) where
  pub same-needs : table.needs_of l.needs ≡ all_needs j.mode j.inputs
  same-needs = l.wanted ∙ sym (ap (λ (k : Joining). all_needs k.mode k.inputs) one)

  pub same-place : (n : Need) → need_place l.mode (l.text).inputs.now n ≡ need_place j.mode j.inputs n
  same-place n = sym (ap (λ (k : Joining). need_place k.mode k.inputs n) one)

  pub row-fits : (n : Need) → Contains (all_needs j.mode j.inputs) n → data_end l.mode (l.text).inputs.now < 2 ^ 32
      → need_place l.mode (l.text).inputs.now n + use_size (kind_of n) < 2 ^ 32
  row-fits n there small =
      row-near l.mode (l.text).inputs.now n (subst (λ (k : Joining). Contains (all_needs k.mode k.inputs) n) one there) small
