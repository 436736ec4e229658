-- Branches of the text.
use Rattle.std.proofs.Common.{◌≡◌, ℕ, suc, ◌+◌, ◌-◌, ◌*◌, ◌/◌, ◌%◌, ◌^◌, ◌<◌, ◌≤◌, ℤ, Bool, true, false, cond, not, ◌&&◌, List, Some, None, refl, sym, ap, subst, ◌∙◌, arith}
use Rattle.std.specs.Prelude.{◌==◌, pos, negsuc, ◌-ℤ◌, ◌*ℤ◌, neg_ℤ, int_le, int_lt, nat_lt, unsigned_abs}
use Rattle.std.specs.Int.{w32, cast_unsigned}
use Rattle.std.proofs.lemmas.Int.{ints}
use Rattle.std.proofs.lemmas.Bool.{and_parts, eqb-true, ltb-true, leb-true}
use Rattle.std.proofs.lemmas.Bool.Decides.{nat_tests}
use Rattle.elf_model.specs.declared.relocatable.RelObject.{RelObject}
use Rattle.link_model.specs.declared.input.Mode.{Mode}
use Rattle.link_model.specs.Inputs.{InputRel}
use Rattle.link_model.specs.Needs.{is_branch, target_at}
use Rattle.link_model.specs.Places.{text_end}
use Rattle.link_model.specs.Sections.{is_writable}
use Rattle.link_model.specs.Sites.{site_address, site_word, input_word, branch_goal, branch_distance, branch_word, data_word, word_of}
use Rattle.link_model.specs.SiteTests.{can_branch, is_far_branch}
use Rattle.link_model.specs.Targets.{is_nothing}
use Rattle.link_model.proofs.Passed.{passing_is_fitting}
use Rattle.link_sites.specs.Meaning.{BranchesTo}
use Rattle.link_sites.proofs.Sites.{branch}
use Rattle.link_means.specs.parts.Laws.{SettledBranchesMean}
use Rattle.link_means.proofs.Texts.{in_text, text_word_is_plain, text_shares, text_small}
use Rattle.arm_relocs.specs.Branch.{branch_addend, branch_field, is_distance, signed_number, imm24}

-- ---- the distance in the field of a branch

number_of : (n : ℕ) → n < 2 ^ 23 → signed_number 24 n ≡ pos n
number_of n small = let b : nat_lt n (2 ^ (24 - 1)) ≡ true = grind (arith, nat_tests) in rw b refl

number_below : (n : ℕ) → 2 ^ 23 ≤ n → signed_number 24 n ≡ pos n -ℤ pos (2 ^ 24)
number_below n large = let b : nat_lt n (2 ^ (24 - 1)) ≡ false = grind (arith, nat_tests) in rw b refl

-- the field of a distance
abbrev pub field : ℕ → ℤ → ℕ
field word d = word / 2 ^ 24 * 2 ^ 24 + cast_unsigned w32 d / 4 % 2 ^ 24

field_ahead : (word a : ℕ) → a % 4 ≡ 0 → a ≤ 33554428 → branch_addend (field word (pos a)) ≡ pos a
field_ahead word a whole most =
    let c : cast_unsigned w32 (pos a) ≡ a = omega arith in
    let n : imm24 (field word (pos a)) ≡ a / 4 = ap (λ k. (word / 2 ^ 24 * 2 ^ 24 + k / 4 % 2 ^ 24) % 2 ^ 24) c ∙ omega arith in
    ap (λ k. pos 4 *ℤ signed_number 24 k) n ∙ ap (λ z. pos 4 *ℤ z) (number_of (a / 4) (omega arith)) ∙ omega (arith, ints)

field_back : (word a : ℕ) → suc a % 4 ≡ 0 → a ≤ 33554431 → branch_addend (field word (negsuc a)) ≡ negsuc a
field_back word a whole most =
    let c : cast_unsigned w32 (negsuc a) ≡ 2 ^ 32 - suc a = omega arith in
    let n : imm24 (field word (negsuc a)) ≡ 2 ^ 24 - suc a / 4 = ap (λ k. (word / 2 ^ 24 * 2 ^ 24 + k / 4 % 2 ^ 24) % 2 ^ 24) c ∙ omega arith in
    ap (λ k. pos 4 *ℤ signed_number 24 k) n ∙ ap (λ z. pos 4 *ℤ z) (number_below (2 ^ 24 - suc a / 4) (omega arith)) ∙ omega (arith, ints)

pub field_reads_back : (word : ℕ) (d : ℤ) → is_distance d ≡ true → branch_addend (field word d) ≡ d
field_reads_back word (pos a) is =
    let parts = and_parts (a % 4 == 0) (int_le (negsuc 33554431) (pos a) && int_le (pos a) (pos 33554428)) is in
    let most = (and_parts (int_le (negsuc 33554431) (pos a)) (int_le (pos a) (pos 33554428)) parts.1).1 in
    field_ahead word a (eqb-true (a % 4) 0 parts.0) (leb-true a 33554428 most)
field_reads_back word (negsuc a) is =
    let parts = and_parts (suc a % 4 == 0) (int_le (negsuc 33554431) (negsuc a) && int_le (negsuc a) (pos 33554428)) is in
    let least = (and_parts (int_le (negsuc 33554431) (negsuc a)) (int_le (negsuc a) (pos 33554428)) parts.1).0 in
    field_back word a (eqb-true (suc a % 4) 0 parts.0) (leb-true a 33554431 least)

-- ---- the law

branch_goal_is : (mode : Mode) (inputs : List RelObject) (x : InputRel) (g : ℕ) → branch_goal mode inputs x ≡ pos g → g < 2 ^ 32 → word_of (branch_goal mode inputs x) ≡ g
branch_goal_is mode inputs x g is small = ap word_of is ∙ omega arith

-- a goal in the text
within : (z : ℤ) (end : ℕ) → int_le (pos 0) z ≡ true → int_lt z (pos end) ≡ true → (g : ℕ) × (z ≡ pos g) × (g < end)
within (pos g) end low high = (g, refl, ltb-true g end high)
within (negsuc g) end low high = absurd cc

-- the parts of a branch that is in reach
pub record IsReached (mode : Mode) (inputs : List RelObject) (x : InputRel) : Type 0 where
  pub unwritten : is_writable x.at ≡ false
  pub goal : ℕ
  pub goal' : branch_goal mode inputs x ≡ pos goal
  pub below : goal < text_end mode inputs
  pub near : is_distance (branch_distance mode inputs x) ≡ true

pub reached : (mode : Mode) (inputs : List RelObject) (x : InputRel) → can_branch mode inputs x ≡ true → IsReached mode inputs x
reached mode inputs x can =
    let low = int_le (pos 0) (branch_goal mode inputs x) in
    let high = int_lt (branch_goal mode inputs x) (pos (text_end mode inputs)) in
    let whole = unsigned_abs (branch_goal mode inputs x) % 4 == 0 in
    let near = is_distance (branch_distance mode inputs x) in
    let from = not (is_writable x.at) && site_address mode inputs x % 4 == 0 in
    let parts = and_parts from ((low && high) && (whole && near)) can in
    let goal = and_parts (low && high) (whole && near) parts.1 in
    let sides = and_parts low high goal.0 in
    let in' = within (branch_goal mode inputs x) (text_end mode inputs) sides.0 sides.1 in
    record {
      unwritten = not_true (is_writable x.at) (and_parts (not (is_writable x.at)) (site_address mode inputs x % 4 == 0) parts.0).0;
      goal = in'.0;
      goal' = in'.1;
      below = in'.2;
      near = (and_parts whole near goal.1).1;
    }
  where
    not_true : (b : Bool) → not b ≡ true → b ≡ false
    not_true true is = absurd cc
    not_true false is = refl

pub can_branch_at : (mode : Mode) (inputs : List RelObject) (x : InputRel) → is_branch (x.rel).kind ≡ true → is_nothing (target_at mode inputs x).reach ≡ false
    → is_far_branch mode inputs x (target_at mode inputs x) ≡ false → can_branch mode inputs x ≡ true
can_branch_at mode inputs x kind there near =
    let near' : (true && (true && not (can_branch mode inputs x))) ≡ false =
    sym (ap (λ b. b && (not (is_nothing (target_at mode inputs x).reach) && not (can_branch mode inputs x))) kind
    ∙ ap (λ b. true && (not b && not (can_branch mode inputs x))) there) ∙ near in
    by (can_branch mode inputs x) near'
  where
    by : (b : Bool) → (true && (true && not b)) ≡ false → b ≡ true
    by true is = refl
    by false is = absurd cc

-- the word that the linker writes
pub its_word : (mode : Mode) (inputs : List RelObject) (x : InputRel) → is_branch (x.rel).kind ≡ true → is_nothing (target_at mode inputs x).reach ≡ false
    → is_distance (branch_distance mode inputs x) ≡ true → site_word mode inputs x ≡ Some (field (input_word x) (branch_distance mode inputs x))
unfolding site_word
its_word mode inputs x kind there near =
    let word : branch_word mode inputs x ≡ branch_field (input_word x) (branch_distance mode inputs x) =
    ap (λ b. cond b (branch_field (input_word x) (neg_ℤ (pos 4))) (branch_field (input_word x) (branch_distance mode inputs x))) there in
    ap (λ b. cond b (branch_word mode inputs x) (data_word mode inputs x)) kind ∙ word
    ∙ ap (λ b. cond b (Some (field (input_word x) (branch_distance mode inputs x))) None) near

pub settled_branches_mean : SettledBranchesMean
settled_branches_mean mode inputs o l p m x clear out is there kind settled near =
    let v = site_address mode inputs x in
    let reach = reached mode inputs x (can_branch_at mode inputs x kind (ap is_nothing settled) (passing_is_fitting.reach mode inputs x near).branch) in
    let g = reach.goal in
    let w = field (input_word x) (branch_distance mode inputs x) in
    let from = in_text mode inputs x clear there reach.unwritten in
    let plain = text_word_is_plain mode inputs o x w clear out is.sound there reach.unwritten (its_word mode inputs x kind (ap is_nothing settled) reach.near) in
    let shares = text_shares mode inputs o v g out (omega (arith, from)) reach.below in
    let distance : branch_addend w ≡ pos g -ℤ pos (v + 8) = field_reads_back (input_word x) (branch_distance mode inputs x) reach.near ∙ ap (λ z. z -ℤ pos (v + 8)) reach.goal' in
    let small = text_small mode inputs o out is.sound (omega (arith, from)) in
    let goal : g ≡ word_of (branch_goal mode inputs x) = sym (branch_goal_is mode inputs x g reach.goal' (omega (arith, reach.below, small))) in
    subst (BranchesTo l p m o v) goal (branch l p m o v g w is plain shares distance)
