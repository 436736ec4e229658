use Rattle.std.proofs.Common.{◌≡◌, IfOk, List, ap, ◌∙◌, subst, not, ◌||◌, filter, is_some}
use Rattle.std.specs.List.{flat_map}
use Rattle.std.specs.FinMap.{get}
use Rattle.elf_model.specs.declared.func.Func.{Func}
use Rattle.symbol_scope.specs.Closure.{has, firsts}
use Rattle.load_model.specs.Descriptors.{is_same_func, is_listed, privates, asked_of}
use Rattle.load_model.specs.Linkage.{members_of}
use Rattle.load_sites.specs.parts.Linker.{linkage}
use Rattle.load_sites.proofs.DescriptorValues.{same_wanted}
use Rattle.load_sites.proofs.linker.Linker.wanted.Goals as goal

pub returns : goal.returns
returns c =
    let own = privates (linkage c.args.self.now) (members_of c.args.self.now.joining.now) in
    let same = same_wanted (λ f. is_some (get c.args.had.now.addrs f)) (has is_same_func c.in_ok-listed.listed) (is_listed own) c.as_slice.result.now
    (λ f. c.in_ok-listed.ensures f ∙ ap (λ entries. is_listed entries f) c.requires.privates) in
    let asked : c.as_slice.result.now ≡ flat_map (asked_of (linkage c.args.self.now)) (members_of c.args.self.now.joining.now) = c.as_slice.ensures ∙ c.in_ok-asked.ensures in
    let done = c.in_ok-wanted.ensures ∙ same ∙ ap (λ fs. firsts is_same_func (filter (λ f. not (is_some (get c.args.had.now.addrs f) || is_listed own f)) fs)) asked in
    subst (λ (funcs : List Func). IfOk c.listed-3.result (λ result. result ≡ funcs)) done c.listed-3.ensures
