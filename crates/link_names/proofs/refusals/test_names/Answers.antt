use Rattle.std.proofs.Common.{◌≡◌, ◌<◌, ◌≤◌, [], length, get_or, ap, sym, ◌∙◌, arith}
use Rattle.std.specs.List.{flat_map}
use Rattle.link_model.specs.parts.Passes.{IsRefusal}
use Rattle.std.proofs.lemmas.Result.{err_from_is_err_and}
use Rattle.std.proofs.lemmas.List.{take_all}
use Rattle.elf_model.specs.Test.{first_failing}
use Rattle.link_model.specs.Inputs.{numbered}
use Rattle.link_names.specs.parts.Grouped.{group_tests}
use Rattle.link_names.proofs.Tested.{one_more, refused_first}
use Rattle.link_names.proofs.refusals.test_names.Goals as goal

pub loop-k-preserved : goal.loop-k-preserved
loop-k-preserved c =
    let groups = c.args.groups.now.groups in
    let within : c.loop-k.k < length groups = omega (arith, c.loop-k-test.true, ap length c.groups-group-items.ensures) in
    let item : c.group-item.result ≡ get_or groups c.loop-k.k c.group-item.result = c.group-item.is ∙ ap (λ gs. get_or gs c.loop-k.k c.group-item.result) c.groups-group-items.ensures in
    one_more (λ e. group_tests c.args.mode (get_or c.args.groups.now.names e.0 []) e.1) groups c.loop-k.k c.group-item.result within item c.loop-k.invariant
    ∙ sym (ap (λ n. first_failing (group_tests c.args.mode n c.group-item.result)) c.name_at.ensures)
    ∙ sym (ap (λ g. first_failing (group_tests c.args.mode c.name_at.result.now g)) c.as_slice.ensures) ∙ c.in_ok-test_name.ensures

pub returns-in_err-test_name : goal.returns-in_err-test_name
returns-in_err-test_name c =
    let p = err_from_is_err_and c.from_residual.result c.from_residual.ensures.1 in
    let groups = c.args.groups.now.groups in
    let within : c.loop-k.k < length groups = omega (arith, c.loop-k-test.true, ap length c.groups-group-items.ensures) in
    let item : c.group-item.result ≡ get_or groups c.loop-k.k c.group-item.result = c.group-item.is ∙ ap (λ gs. get_or gs c.loop-k.k c.group-item.result) c.groups-group-items.ensures in
    let here : IsRefusal c.in_err-test_name.field-0.0 (group_tests c.args.mode (get_or c.args.groups.now.names c.loop-k.k []) c.group-item.result) =
    rw (← c.name_at.ensures, ← c.as_slice.ensures) c.in_err-test_name.ensures in
    rw (p.1, p.2) (refused_first (λ e. group_tests c.args.mode (get_or c.args.groups.now.names e.0 []) e.1) groups c.loop-k.k c.group-item.result within item c.loop-k.invariant c.in_err-test_name.field-0.0 here)

pub returns : goal.returns
returns c =
    let past : length c.args.groups.now.groups ≤ c.loop-k.k = omega (arith, c.loop-k-test.false, ap length c.groups-group-items.ensures) in
    sym (ap (λ gs. first_failing (flat_map (λ e. group_tests c.args.mode (get_or c.args.groups.now.names e.0 []) e.1) (numbered gs))) (take_all c.loop-k.k c.args.groups.now.groups past))
    ∙ c.loop-k.invariant
