-- In an object that ends below 2^32 all that has been looked up of relocations fits words.
use Rattle.std.proofs.Common.{ℕ, ◌+◌, ◌^◌, ◌<◌, Bool, true, false, cond, List, arith, All}
use Rattle.std.specs.Prelude.{◌==◌, Contains}
use Rattle.std.specs.List.{AllZip}
use Rattle.fd_base.proofs.Lists.{all_from, zip_at_right}
use Rattle.fd_base.proofs.Members.{contains_at}
use Rattle.elf_model.specs.RelSound.{IsRelSound}
use Rattle.elf_model.specs.declared.constants.TheConstants.{R_ARM_GOT_BREL, R_ARM_GOTFUNCDESC}
use Rattle.elf_model.specs.declared.relocatable.RelObject.{RelObject}
use Rattle.link_model.specs.declared.input.Mode.{Mode}
use Rattle.link_model.specs.declared.need.Need.TheVariants.{Word, FuncWord}
use Rattle.link_model.specs.Inputs.{InputRel, all_rels}
use Rattle.link_model.specs.Needs.{all_needs, offset_of, descriptor_need, is_function_kind, target_at}
use Rattle.link_model.specs.Places.{data_place, data_end}
use Rattle.link_model.specs.Sites.{site_address}
use Rattle.link_model.proofs.Numbering.{section_of_rel, rel_inside}
use Rattle.link_words.specs.declared.facts.Facts.{Facts}
use Rattle.link_words.specs.parts.Facts.{AreFacts, AreLow, offset_for}
use Rattle.link_got.proofs.Bounds.{need-near, data-near}
use Rattle.link_object.proofs.Filed.{section_below}

-- one of four
chosen : (P : ℕ → Type 0) (p q r : Bool) (a b c d : ℕ) → P a → P b → P c → P d → P (cond p a (cond q b (cond r c d)))
chosen P true q r a b c d e f g h = e
chosen P false true r a b c d e f g h = f
chosen P false false true a b c d e f g h = g
chosen P false false false a b c d e f g h = h

module _ (mode : Mode) (inputs : List RelObject) (sound : All IsRelSound inputs) (small : data_end mode inputs < 2 ^ 32) where
  offset_low : (x : InputRel) → data_place mode inputs + offset_for mode inputs x < 2 ^ 32
  offset_low x =
      let t = target_at mode inputs x in
      let kind = (x.rel).kind in
      chosen (λ n. data_place mode inputs + n < 2 ^ 32) (kind == R_ARM_GOT_BREL) (kind == R_ARM_GOTFUNCDESC) (is_function_kind kind) (offset_of (all_needs mode inputs) (Word t.key)) (offset_of (all_needs mode inputs) (FuncWord t.key)) (offset_of (all_needs mode inputs) (descriptor_need inputs t)) 0
      (need-near mode inputs (Word t.key) small) (need-near mode inputs (FuncWord t.key) small) (need-near mode inputs (descriptor_need inputs t) small) (omega (arith, data-near mode inputs small))

  place_low : (x : InputRel) → Contains (all_rels inputs) x → site_address mode inputs x < 2 ^ 32
  unfolding site_address
  place_low x there =
      let inside = rel_inside inputs sound x there in
      let below = section_below mode inputs x.at (section_of_rel inputs x there).0 in
      omega (arith, inside.within, below, small)

  pub facts_low : (facts : List Facts) → AllZip (AreFacts mode inputs) (all_rels inputs) facts → All AreLow facts
  facts_low facts found = all_from AreLow facts (λ k f at.
      let p = zip_at_right (AreFacts mode inputs) (all_rels inputs) facts k f found at in
      let x = p.0 in
      let is = p.2 in
      record {
        place' = omega (arith, is.place', place_low x (contains_at (all_rels inputs) k x p.1));
        need' = omega (arith, is.bounds'.data_place', is.offset', offset_low x);
      })
