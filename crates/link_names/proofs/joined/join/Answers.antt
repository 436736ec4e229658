use Rattle.std.proofs.Common.{◌≡◌, All, ap, sym, subst, ◌∙◌, length, arith}
use Rattle.std.specs.Prelude.{Contains}
use Rattle.std.proofs.lemmas.Result.{err_from_is_err_and}
use Rattle.elf_model.specs.Test.{first_failing}
use Rattle.link_model.specs.Inputs.{symbols_of}
use Rattle.link_model.specs.Joined.{joined_of}
use Rattle.link_model.specs.Targets.{all_name_tests}
use Rattle.link_model.specs.parts.Passes.{IsRefusal}
use Rattle.link_names.specs.parts.Grouped.{Groups, groups_of, all_group_tests, group_targets}
use Rattle.link_names.proofs.Agreeing.{tests_agree, targets_agree, known_in_groups, names_agree}
use Rattle.link_names.proofs.joined.join.Goals as goal

pub returns-in_err-test_names : goal.returns-in_err-test_names
returns-in_err-test_names c =
    let p = err_from_is_err_and c.from_residual-in_err-test_names.result c.from_residual-in_err-test_names.ensures.1 in
    let groups : c.in_ok-groups.groups ≡ groups_of (joined_of c.in_ok-inputs.inputs) = c.in_ok-groups.ensures ∙ ap (λ os. groups_of (joined_of os)) c.objects.ensures in
    let inputs : c.in_ok-inputs.inputs ≡ c.args.inputs.now = c.in_ok-inputs.ensures.inputs ∙ c.as_slice.ensures in
    let tests : all_group_tests c.args.mode c.in_ok-groups.groups ≡ all_name_tests c.args.mode c.args.inputs.now =
    ap (all_group_tests c.args.mode) groups ∙ tests_agree c.args.mode c.in_ok-inputs.inputs ∙ ap (all_name_tests c.args.mode) inputs in
    rw (p.1, p.2) (subst (IsRefusal c.in_err-test_names.field-0.0) tests c.in_err-test_names.ensures)

pub targets_of-requires-clause-known : goal.targets_of-requires-clause-known
targets_of-requires-clause-known c =
    let groups : c.in_ok-groups.groups ≡ groups_of (joined_of c.in_ok-inputs.inputs) = c.in_ok-groups.ensures ∙ ap (λ os. groups_of (joined_of os)) c.objects.ensures in
    subst (λ (g : Groups). All (All (Contains (symbols_of c.in_ok-inputs.inputs))) g.groups) (sym groups) (known_in_groups c.in_ok-inputs.inputs)

pub invariant_of-result : goal.invariant_of-result
invariant_of-result c =
    let groups : c.in_ok-groups.groups ≡ groups_of (joined_of c.in_ok-inputs.inputs) = c.in_ok-groups.ensures ∙ ap (λ os. groups_of (joined_of os)) c.objects.ensures in
    record {
      names' = c.into_names.ensures ∙ ap (λ (g : Groups). g.names) groups ∙ names_agree c.in_ok-inputs.inputs;
      few_names = omega (arith, ap length c.into_names.ensures, c.len.ensures, c.in_ok-check_count.ensures.small);
      targets' = c.in_ok-targets.ensures.targets ∙ ap (group_targets c.args.mode c.in_ok-inputs.inputs) groups ∙ targets_agree c.args.mode c.in_ok-inputs.inputs;
    }

pub returns : goal.returns
returns c =
    let groups : c.in_ok-groups.groups ≡ groups_of (joined_of c.in_ok-inputs.inputs) = c.in_ok-groups.ensures ∙ ap (λ os. groups_of (joined_of os)) c.objects.ensures in
    let inputs : c.in_ok-inputs.inputs ≡ c.args.inputs.now = c.in_ok-inputs.ensures.inputs ∙ c.as_slice.ensures in
    let tests : all_group_tests c.args.mode c.in_ok-groups.groups ≡ all_name_tests c.args.mode c.args.inputs.now =
    ap (all_group_tests c.args.mode) groups ∙ tests_agree c.args.mode c.in_ok-inputs.inputs ∙ ap (all_name_tests c.args.mode) inputs in
    (sym (ap first_failing tests) ∙ c.in_ok-test_names.ensures, (λ i. record { mode = c.args.mode; inputs = inputs i }))
