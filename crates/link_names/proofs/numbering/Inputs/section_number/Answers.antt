use Rattle.std.proofs.Common.{ap, ◌∙◌, arith}
use Rattle.std.specs.Prelude.{slice_get}
use Rattle.link_names.specs.parts.Joining.{section_starts}
use Rattle.link_names.proofs.Sections.{known_start, small_number, number_is}
use Rattle.link_names.proofs.numbering.Inputs.section_number.Goals as goal

pub bounds-as_slice-input : goal.bounds-as_slice-input
bounds-as_slice-input c =
    known_start c.args.self.now c.as_slice.result.now c.args.input c.requires.0 (c.as_slice.ensures ∙ c.self.invariant.0 ∙ ap section_starts c.self.view_is) c.requires.1

pub overflow_add-result : goal.overflow_add-result
overflow_add-result c =
    let small = small_number c.self.inside.objects.now c.as_slice.result.now c.args.input c.args.number c.requires.0 (c.as_slice.ensures ∙ c.self.invariant.0) (ap (λ os. slice_get os c.args.input) c.self.view_is ∙ c.requires.1) c.requires.2 c.self.invariant.1.few_sections in
    omega (arith, small)

pub returns : goal.returns
returns c =
    number_is c.args.self.now c.as_slice.result.now c.args.input c.args.number c.requires.0 (c.as_slice.ensures ∙ c.self.invariant.0 ∙ ap section_starts c.self.view_is) c.requires.1
