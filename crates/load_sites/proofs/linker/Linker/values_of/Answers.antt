use Rattle.std.proofs.Common.{◌≡◌, ◌+◌, ◌^◌, ◌≤◌, slice_get, Some, IfErr, List, All, sym, ◌∙◌, subst}
use Rattle.std.specs.List.{filter_map}
use Rattle.std.specs.Result.{result_err}
use Rattle.elf_model.specs.declared.object.Rel.{Rel}
use Rattle.load_model.specs.Sites.{site_value}
use Rattle.elf_model.specs.Filled.{site_relocations}
use Rattle.load_sites.specs.parts.Answers.{Tells}
use Rattle.load_sites.specs.parts.Linker.{linkage}
use Rattle.load_sites.proofs.SiteEnds.{sites_end}
use Rattle.load_sites.proofs.linker.Linker.values_of.Goals as goal

pub values_at-requires-clause-ends : goal.values_at-requires-clause-ends
values_at-requires-clause-ends c =
    let same : c.as_slice.result.now ≡ site_relocations c.args.o.now = c.as_slice.ensures ∙ c.in_ok-sites.ensures in
    subst (All (λ r. r.site + 4 ≤ 2 ^ 32)) (sym same) (sites_end c.args.o.now c.requires.sound)

pub returns-clause-error : goal.returns-clause-error
returns-clause-error c =
    let same : c.as_slice.result.now ≡ site_relocations c.args.o.now = c.as_slice.ensures ∙ c.in_ok-sites.ensures in
    let means = λ (r : Rel). site_value (linkage c.args.self.now) c.args.m c.args.o.now r in
    subst (λ (sites : List Rel). IfErr c.values_at.result (Tells (λ x. slice_get (filter_map (λ r. result_err (means r)) sites) 0 ≡ Some x))) same c.values_at.ensures.error
