use Rattle.std.proofs.Common.{◌++◌, ◌≡◌, filter, sym, subst, ◌∙◌, All, true, false}
use Rattle.link_model.specs.Object.{sections_of_kind}
use Rattle.link_places.specs.parts.Heads.{heads_of}
use Rattle.link_object.specs.parts.Arrays.{is_of_kind, EndsLow}
use Rattle.link_object.proofs.Arrays.{heads_low, heads_are}
use Rattle.link_object.proofs.extents.array.Goals as goal

pub extent-requires : goal.extent-requires
extent-requires c =
    let inputs = c.args.layout.now.text.inputs.now in
    let hs = filter (is_of_kind c.args.kind false) (heads_of inputs) ++ filter (is_of_kind c.args.kind true) (heads_of inputs) in
    let is : c.as_slice.result.now ≡ hs =
    c.as_slice.ensures ∙ c.in_ok-put_of_kind-2.ensures
    ∙ (λ i. (c.in_ok-put_of_kind.ensures ∙ (λ j. c.new-sections.ensures j ++ filter (is_of_kind c.args.kind false) (c.heads-heads.ensures j))) i ++ filter (is_of_kind c.args.kind true) (c.heads-heads.ensures i)) in
    subst (All (EndsLow c.args.layout.now.mode inputs)) (sym is) (heads_low c.args.layout.now.mode inputs c.requires.small (is_of_kind c.args.kind false) (is_of_kind c.args.kind true))

pub returns : goal.returns
returns c =
    let inputs = c.args.layout.now.text.inputs.now in
    let hs = filter (is_of_kind c.args.kind false) (heads_of inputs) ++ filter (is_of_kind c.args.kind true) (heads_of inputs) in
    let is : c.as_slice.result.now ≡ hs =
    c.as_slice.ensures ∙ c.in_ok-put_of_kind-2.ensures
    ∙ (λ i. (c.in_ok-put_of_kind.ensures ∙ (λ j. c.new-sections.ensures j ++ filter (is_of_kind c.args.kind false) (c.heads-heads.ensures j))) i ++ filter (is_of_kind c.args.kind true) (c.heads-heads.ensures i)) in
    c.extent.ensures (sections_of_kind inputs c.args.kind) (is ∙ heads_are inputs c.args.kind c.requires.kind)
