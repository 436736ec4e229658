-- Branches to nothing.
use Rattle.std.proofs.Common.{◌≡◌, ℕ, ◌+◌, Bool, true, false, cond, Some, refl, ap, ◌∙◌, arith}
use Rattle.std.specs.Prelude.{Contains, pos, ◌-ℤ◌, neg_ℤ, List}
use Rattle.std.proofs.lemmas.Int.{ints}
use Rattle.arm_relocs.specs.Branch.{branch_addend, branch_field}
use Rattle.elf_model.specs.declared.object.Object.{Object}
use Rattle.elf_model.specs.declared.relocatable.RelObject.{RelObject}
use Rattle.link_model.specs.declared.input.Mode.{Mode}
use Rattle.link_model.specs.declared.target.Reach.TheVariants.{Nothing}
use Rattle.link_model.specs.Inputs.{InputRel, all_rels}
use Rattle.link_model.specs.Needs.{is_branch, target_at}
use Rattle.link_model.specs.Sections.{is_writable}
use Rattle.link_model.specs.Sites.{branch_distance, branch_word, data_word, input_word, site_address, site_word}
use Rattle.link_model.specs.Targets.{is_nothing}
use Rattle.link_model.specs.parts.Laws.{AreClear}
use Rattle.link_sites.specs.parts.Linked.{ShareSegment}
use Rattle.link_sites.proofs.Sites.{branch}
use Rattle.link_means.specs.parts.Laws.{IdleBranchesMean, IsOutput}
use Rattle.link_means.proofs.Apart.{filled_not_branch}
use Rattle.link_means.proofs.Branches.{field, field_reads_back}
use Rattle.link_means.proofs.Held.{in_data, data_begins}
use Rattle.link_means.proofs.Sharing.{shares_in_data, shares_in_text}
use Rattle.link_means.proofs.Staying.{word_is_plain}
use Rattle.link_means.proofs.Texts.{in_text}

its_word : (mode : Mode) (inputs : List RelObject) (x : InputRel) → is_branch (x.rel).kind ≡ true → (target_at mode inputs x).reach ≡ Nothing
    → site_word mode inputs x ≡ Some (field (input_word x) (neg_ℤ (pos 4)))
unfolding site_word
its_word mode inputs x kind nothing =
    let word : branch_word mode inputs x ≡ branch_field (input_word x) (neg_ℤ (pos 4)) =
    ap (λ r. cond (is_nothing r) (branch_field (input_word x) (neg_ℤ (pos 4))) (branch_field (input_word x) (branch_distance mode inputs x))) nothing in
    ap (λ b. cond b (branch_word mode inputs x) (data_word mode inputs x)) kind ∙ word

next_shares : (mode : Mode) (inputs : List RelObject) (o : Object) (x : InputRel) → AreClear inputs → IsOutput mode inputs o → Contains (all_rels inputs) x
    → ShareSegment o (site_address mode inputs x) (site_address mode inputs x + 4)
next_shares mode inputs o x clear out there = by (is_writable x.at) refl
  where
    by : (b : Bool) → is_writable x.at ≡ b → ShareSegment o (site_address mode inputs x) (site_address mode inputs x + 4)
    by false unwritten =
        let to = in_text mode inputs x clear there unwritten in
        shares_in_text mode inputs o out (site_address mode inputs x) (site_address mode inputs x + 4) (omega (arith, to)) to (data_begins mode inputs)
    by true writable =
        let in' = in_data mode inputs x clear there writable in
        shares_in_data mode inputs o out (site_address mode inputs x) (site_address mode inputs x + 4) in'.from (omega (arith, in'.to)) (omega (arith, in'.from)) in'.to

pub idle_branches_mean : IdleBranchesMean
idle_branches_mean mode inputs o l p m x clear out is there kind nothing =
    let v = site_address mode inputs x in
    let w = field (input_word x) (neg_ℤ (pos 4)) in
    let written = word_is_plain mode inputs o x w clear out is.sound there (filled_not_branch (x.rel).kind kind) (its_word mode inputs x kind nothing) in
    let distance : branch_addend w ≡ pos (v + 4) -ℤ pos (v + 8) = field_reads_back (input_word x) (neg_ℤ (pos 4)) refl ∙ back v in
    branch l p m o v (v + 4) w is written (next_shares mode inputs o x clear out there) distance
  where
    back : (v : ℕ) → neg_ℤ (pos 4) ≡ pos (v + 4) -ℤ pos (v + 8)
    back v = omega (arith, ints)
