use Rattle.std.proofs.Common.{ap, sym, subst, ◌∙◌, arith}
use Rattle.std.specs.Prelude.{Contains}
use Rattle.link_model.specs.declared.target.Spot.TheVariants.{Section}
use Rattle.link_model.specs.Inputs.{InputSymbol, symbols_of}
use Rattle.link_model.specs.Targets.{spot_of}
use Rattle.link_names.proofs.Sections.{section_there, known_start, small_number, number_is}
use Rattle.link_names.proofs.numbering.Inputs.spot_of.Goals as goal

pub bounds-as_slice-x-inside : goal.bounds-as_slice-x-inside
bounds-as_slice-x-inside c =
    let x : InputSymbol = record { input = c.x.inside.input; number = c.x.inside.number; symbol = c.x.inside.symbol.now } in
    let there : Contains (symbols_of c.self.inside.objects.now) x =
    subst (λ os. Contains (symbols_of os) x) (sym c.self.view_is) (subst (λ y. Contains (symbols_of c.args.self.now) y) (sym c.x.view_is) c.requires) in
    let o = section_there c.self.inside.objects.now c.self.invariant.1.sound x c.in-Section.n there c.in-Section.is in
    known_start c.self.inside.objects.now c.as_slice.result.now c.x.inside.input o.0 (c.as_slice.ensures ∙ c.self.invariant.0) o.1

pub overflow_add-result : goal.overflow_add-result
overflow_add-result c =
    let x : InputSymbol = record { input = c.x.inside.input; number = c.x.inside.number; symbol = c.x.inside.symbol.now } in
    let there : Contains (symbols_of c.self.inside.objects.now) x =
    subst (λ os. Contains (symbols_of os) x) (sym c.self.view_is) (subst (λ y. Contains (symbols_of c.args.self.now) y) (sym c.x.view_is) c.requires) in
    let o = section_there c.self.inside.objects.now c.self.invariant.1.sound x c.in-Section.n there c.in-Section.is in
    let small = small_number c.self.inside.objects.now c.as_slice.result.now c.x.inside.input c.in-Section.n o.0 (c.as_slice.ensures ∙ c.self.invariant.0) o.1 o.2 c.self.invariant.1.few_sections in
    omega (arith, small)

pub returns-in-Section : goal.returns-in-Section
returns-in-Section c =
    let x : InputSymbol = record { input = c.x.inside.input; number = c.x.inside.number; symbol = c.x.inside.symbol.now } in
    let there : Contains (symbols_of c.self.inside.objects.now) x =
    subst (λ os. Contains (symbols_of os) x) (sym c.self.view_is) (subst (λ y. Contains (symbols_of c.args.self.now) y) (sym c.x.view_is) c.requires) in
    let o = section_there c.self.inside.objects.now c.self.invariant.1.sound x c.in-Section.n there c.in-Section.is in
    ap (λ k. Section k (x.symbol).value) (number_is c.self.inside.objects.now c.as_slice.result.now c.x.inside.input c.in-Section.n o.0 (c.as_slice.ensures ∙ c.self.invariant.0) o.1)
    ∙ sym (ap (spot_of c.self.inside.objects.now x) c.in-Section.is) ∙ ap (λ os. spot_of os x (x.symbol).place) c.self.view_is
    ∙ ap (λ (y : InputSymbol). spot_of c.args.self.now y (y.symbol).place) c.x.view_is
