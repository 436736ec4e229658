-- Of a relocation that passes its tests, each thing that they ask.
use Rattle.std.proofs.Common.{◌≡◌, Bool, true, false, not, List, refl}
use Rattle.std.proofs.lemmas.Bool.{or_parts}
use Rattle.elf_model.specs.declared.relocatable.RelObject.{RelObject}
use Rattle.link_model.specs.declared.input.Mode.{Mode}
use Rattle.link_model.specs.declared.target.Target.{Target}
use Rattle.link_model.specs.Inputs.{InputRel}
use Rattle.link_model.specs.Needs.{target_at}
use Rattle.link_model.specs.SiteTests.{is_known, has_wrong_addend, is_unsettled_offset, is_unfillable, meets_earlier, has_unusable_symbol, is_no_function, is_unseen, is_wrong_type, leads_to_number, is_far_branch, is_far_address, is_far_distance, is_far_offset, is_cross}
use Rattle.link_model.specs.parts.Laws.{IsWellTyped, IsInReach, PassingIsFitting}

not_not : (b : Bool) → not b ≡ false → b ≡ true
not_not true e = refl
not_not false e = absurd cc

module _ (mode : Mode) (inputs : List RelObject) (x : InputRel) where
  abbrev t : Target
  t = target_at mode inputs x

  well_typed : is_wrong_type mode inputs x ≡ false → IsWellTyped mode inputs x
  unfolding is_wrong_type
  well_typed e =
      let kind = (x.rel).kind in
      let a = or_parts (not (is_known kind)) _ e in
      let b = or_parts (has_wrong_addend x t) _ a.1 in
      let c = or_parts (is_unsettled_offset kind t) _ b.1 in
      let d = or_parts (is_unfillable mode inputs x) _ c.1 in
      let f = or_parts (meets_earlier x) _ d.1 in
      let g = or_parts (has_unusable_symbol inputs x) _ f.1 in
      let h = or_parts (is_no_function inputs kind t) (is_unseen kind t) g.1 in
      record { known = not_not (is_known kind) a.0; addend = b.0; offset = c.0; fillable = d.0; clear = f.0; usable = g.0; function = h.0; seen = h.1 }

  in_reach : is_cross mode inputs x ≡ false → IsInReach mode inputs x
  unfolding is_cross
  in_reach e =
      let a = or_parts (leads_to_number (x.rel).kind t) _ e in
      let b = or_parts (is_far_branch mode inputs x t) _ a.1 in
      let c = or_parts (is_far_address mode inputs x t) _ b.1 in
      let d = or_parts (is_far_distance mode inputs x t) (is_far_offset mode inputs x t) c.1 in
      record { number = a.0; branch = b.0; address = c.0; distance = d.0; offset = d.1 }

pub passing_is_fitting : PassingIsFitting
passing_is_fitting = record { types = well_typed; reach = in_reach }
