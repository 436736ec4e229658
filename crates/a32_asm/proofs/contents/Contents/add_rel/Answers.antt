use Rattle.std.proofs.Common.{◌≡◌, ◌<◌, ◌++◌, ◌∷◌, [], ◌∙◌, ap, sym, length, arith, Some}
use Rattle.a32_asm.specs.declared.contents.RelTo.{RelTo}
use Rattle.a32_asm.specs.declared.limits.TheConstants.{RELS_MAX}
use Rattle.a32_asm.specs.SecondPass.{Contents, with_rel}
use Rattle.a32_asm.proofs.Filling.{added}
use Rattle.a32_asm.proofs.contents.Contents.add_rel.Goals as goal

pub returns : goal.returns
returns c =
    let inside = c.self.inside in
    let rel : RelTo = record { site = c.args.offset; kind = c.in-WordOf.kind; name = c.in-WordOf.name } in
    let there : c.args.section < length inside.rels.items = omega (arith, c.requires, c.self.invariant.1) in
    let room : length c.index_mut-rels.result.now < RELS_MAX = omega (arith, c.len.ensures, c.if-len-ge-RELS_MAX.false) in
    let put : c.push.new.self ≡ c.index_mut-rels.result.now ++ rel ∷ [] = grind (arith, c.push.ensures, c.is_err.ensures, c.if-is_err.false) in
    rw c.in-WordOf.is
    (ap (λ (contents : Contents). with_rel c.args.section c.args.offset (Some (c.in-WordOf.kind, c.in-WordOf.name.now)) contents) (sym c.self.view_is)
    ∙ added inside.filled.items inside.rels.items c.args.section rel c.index_mut-rels.result.now there c.index_mut-rels.ensures.value room c.push.new.self put)
