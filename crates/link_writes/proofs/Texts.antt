-- The names of a linked object: its own, and those of what it needs.
use Rattle.std.proofs.Common.{◌≡◌, refl, ℕ, ◌≤◌, Bool, true, false, cond, List, [], length, arith, All}
use Rattle.std.specs.Prelude.{unwrap_or, Some, None, IfSome}
use Rattle.std.proofs.lemmas.List.Elements.{All-nil}
use Rattle.std.proofs.lemmas.List.{length-map}
use Rattle.elf_model.specs.declared.constants.TheConstants.{MAX_NEEDED}
use Rattle.elf_model.specs.declared.relocatable.RelObject.{RelObject}
use Rattle.elf_model.specs.RelSound.{IsNameText}
use Rattle.link_model.specs.declared.input.Lib.{Lib}
use Rattle.link_model.specs.declared.input.Mode.{Mode}
use Rattle.link_model.specs.Object.{needed_of}
use Rattle.link_model.specs.Targets.{is_shared, is_static}
use Rattle.link_writes.specs.Linked.{AreInputs}

pub needed_count : (mode : Mode) (libs : List Lib) → (is_static mode ≡ false → length libs ≤ MAX_NEEDED) → length (cond (is_static mode) [] (needed_of libs)) ≤ MAX_NEEDED
needed_count mode libs few = by (is_static mode) refl
  where
    by : (b : Bool) → is_static mode ≡ b → length (cond b [] (needed_of libs)) ≤ MAX_NEEDED
    by true e = omega arith
    by false e =
        let size : length (needed_of libs) ≡ length libs = length-map libs (λ (l : Lib). unwrap_or (l.object).soname l.name) in
        omega (arith, few e, size)

module _ (mode : Mode) (soname : List ℕ) (inputs : List RelObject) (libs : List Lib) (given : AreInputs soname inputs libs) where
  pub needed_texts : All IsNameText (cond (is_static mode) [] (needed_of libs))
  needed_texts = by (is_static mode)
    where
      by : (b : Bool) → All IsNameText (cond b [] (needed_of libs))
      by true = All-nil IsNameText
      by false = given.needed_names

  pub soname_text : IfSome (cond (is_shared mode) (Some soname) None) IsNameText
  soname_text = by (is_shared mode)
    where
      by : (b : Bool) → IfSome (cond b (Some soname) None) IsNameText
      by true = given.own_name
      by false = tt
