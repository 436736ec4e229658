use Rattle.std.proofs.Common.{◌≡◌, List, Option, Some, length, slice_get, refl, sym, ap, ◌∙◌}
use Rattle.std.specs.Prelude.{option_and_then}
use Rattle.std.proofs.lemmas.Option.{slice_get_read}
use Rattle.elf_model.specs.declared.func.Func.{Func}
use Rattle.mod_load.proofs.targets.target_at.Goals as goal

pub returns : goal.returns
returns c =
    let own = c.in_ok-own.own.now in
    let target = c.in_ok-target.target.now in
    let lt = rw c.as_slice.ensures at c.in_ok-target.ensures.lookup.3.0 in
    let is = rw c.as_slice.ensures at c.in_ok-target.ensures.lookup.1 in
    let first : slice_get c.args.targets.now c.args.m ≡ Some own =
    slice_get_read c.args.targets.now (length c.args.targets.now) c.args.m own refl c.in_ok-own.ensures.lookup.3.0 c.in_ok-own.ensures.lookup.1 in
    let second : slice_get own c.args.k ≡ Some target = slice_get_read own (length own) c.args.k target refl lt is in
    sym
    (ap (option_and_then (λ (targets : List (Option Func)). option_and_then (λ (t : Option Func). t) (slice_get targets c.args.k))) first
    ∙ ap (option_and_then (λ (t : Option Func). t)) second)
