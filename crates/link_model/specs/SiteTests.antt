-- The tests of one relocation, in their order. In the terms of specs/Sites.antt.
use Rattle.std.specs.Prelude.{ℕ, ◌+◌, ◌/◌, ◌%◌, ◌^◌, ℤ, pos, int_le, int_lt, unsigned_abs, Bool, not, ◌&&◌, ◌||◌, ◌==◌, nat_lt, List, [], ◌∷◌, take, if◌then◌else◌}
use Rattle.std.specs.List.{list_any}
use Rattle.elf_model.specs.declared.constants.TheConstants.{R_ARM_ABS32, R_ARM_REL32, R_ARM_GOTOFF32, R_ARM_GOT_BREL, R_ARM_TARGET1, R_ARM_GOTFUNCDESC, R_ARM_GOTOFFFUNCDESC, R_ARM_FUNCDESC}
use Rattle.elf_model.specs.declared.relocatable.RelObject.{RelObject}
use Rattle.elf_model.specs.Header.{is_one_of}
use Rattle.arm_relocs.specs.Branch.{imm24, is_distance}
use Rattle.link_model.specs.declared.error.Site.{Site}
use Rattle.link_model.specs.declared.error.LinkRefusal.TheVariants.{CrossSegment, RelocType, ThumbBranch}
use Rattle.link_model.specs.declared.input.Mode.{Mode}
use Rattle.link_model.specs.declared.target.Target.{Target}
use Rattle.link_model.specs.DynamicSymbols.{is_shown}
use Rattle.link_model.specs.Inputs.{InputRel}
use Rattle.link_model.specs.Needs.{is_branch, is_idle, is_function_kind, is_dropped, is_own_undefined, symbol_at, target_at}
use Rattle.link_model.specs.Places.{text_end, data_place, data_end, is_within_text, is_within_data}
use Rattle.link_model.specs.Sections.{is_writable, is_in_text, is_function}
use Rattle.link_model.specs.Sites.{site_address, input_word, sum_of, branch_goal, branch_distance, is_address_kind}
use Rattle.link_model.specs.Targets.{is_absolute, is_nowhere, is_settled, is_nothing, is_dynamic, LinkTest, refuses}

-- ---- ThumbBranch

-- of the instructions that branch, those with the condition 15 change to Thumb code (Arm Architecture Reference Manual,
-- "BL, BLX (immediate)")
abbrev pub is_thumb : InputRel → Bool
is_thumb x = is_branch (x.rel).kind && input_word x / 2 ^ 28 == 15

-- ---- RelocType

abbrev pub known_kinds : List ℕ
known_kinds =
    R_ARM_ABS32 ∷ R_ARM_TARGET1 ∷ R_ARM_REL32 ∷ R_ARM_GOTOFF32 ∷ R_ARM_GOT_BREL ∷ R_ARM_GOTFUNCDESC ∷ R_ARM_GOTOFFFUNCDESC ∷ R_ARM_FUNCDESC ∷ []

abbrev pub is_known : ℕ → Bool
is_known kind = is_branch kind || (is_idle kind || is_one_of known_kinds kind)

-- a word of the GOT, or a descriptor, takes no addend, and a PLT entry only that of a call of the symbol itself, -8
abbrev pub has_wrong_addend : InputRel → Target → Bool
has_wrong_addend x t =
    (is_one_of (R_ARM_GOT_BREL ∷ R_ARM_GOTFUNCDESC ∷ R_ARM_GOTOFFFUNCDESC ∷ R_ARM_FUNCDESC ∷ []) (x.rel).kind && not (input_word x == 0))
    || (is_branch (x.rel).kind && (is_dynamic t.reach && not (imm24 (input_word x) == 0xff_fffe)))

-- an offset, which only the linker can give
abbrev pub is_unsettled_offset : ℕ → Target → Bool
is_unsettled_offset kind t =
    (is_one_of (R_ARM_REL32 ∷ R_ARM_GOTOFF32 ∷ R_ARM_GOTOFFFUNCDESC ∷ []) kind && is_dynamic t.reach)
    || (kind == R_ARM_GOTOFFFUNCDESC && is_nothing t.reach)

-- an address in the text, or not at a multiple of 4: loading could not fill it
abbrev pub is_unfillable : Mode → List RelObject → InputRel → Bool
is_unfillable mode inputs x =
    is_one_of (R_ARM_ABS32 ∷ R_ARM_TARGET1 ∷ R_ARM_FUNCDESC ∷ []) (x.rel).kind && (not (is_writable x.at) || not (site_address mode inputs x % 4 == 0))

-- whether its word meets that of an earlier relocation of the section, neither being idle
abbrev pub meets_earlier : InputRel → Bool
meets_earlier x =
    not (is_idle (x.rel).kind)
    && list_any (λ e. not (is_idle e.kind) && (nat_lt e.site ((x.rel).site + 4) && nat_lt (x.rel).site (e.site + 4))) (take x.place ((x.at).section).rels)

-- a symbol in a section that isn't kept, or one of which nothing can be made
abbrev pub has_unusable_symbol : List RelObject → InputRel → Bool
has_unusable_symbol inputs x =
    is_dropped (symbol_at inputs x).place || (not (is_idle (x.rel).kind) && is_own_undefined (symbol_at inputs x))

-- the descriptor of what is defined, and is no function
abbrev pub is_no_function : List RelObject → ℕ → Target → Bool
is_no_function inputs kind t = is_function_kind kind && (not (is_nowhere t.spot) && not (is_function inputs t.spot))

-- left to the loader, which doesn't see the symbol
abbrev pub is_unseen : ℕ → Target → Bool
is_unseen kind t = not (is_idle kind) && (is_dynamic t.reach && not (is_shown t))

unfoldable pub is_wrong_type : Mode → List RelObject → InputRel → Bool
is_wrong_type mode inputs x =
    let kind = (x.rel).kind in
    let t = target_at mode inputs x in
    not (is_known kind)
    || (has_wrong_addend x t
    || (is_unsettled_offset kind t
    || (is_unfillable mode inputs x
    || (meets_earlier x
    || (has_unusable_symbol inputs x
    || (is_no_function inputs kind t
    || is_unseen kind t))))))

-- ---- CrossSegment

-- a branch, or a distance in a segment, to a number
abbrev pub leads_to_number : ℕ → Target → Bool
leads_to_number kind t = (is_branch kind || is_one_of (R_ARM_REL32 ∷ R_ARM_GOTOFF32 ∷ []) kind) && is_absolute t.spot

abbrev pub lies_between : ℕ → ℕ → ℤ → Bool
lies_between low high z = int_le (pos low) z && int_le z (pos high)

-- from a multiple of 4 in the text to another one, as far as the word reaches
abbrev pub can_branch : Mode → List RelObject → InputRel → Bool
can_branch mode inputs x =
    (not (is_writable x.at) && site_address mode inputs x % 4 == 0)
    && ((int_le (pos 0) (branch_goal mode inputs x) && int_lt (branch_goal mode inputs x) (pos (text_end mode inputs)))
    && (unsigned_abs (branch_goal mode inputs x) % 4 == 0 && is_distance (branch_distance mode inputs x)))

-- S + A in the segment of S, or at its end
abbrev pub stays_in_segment : Mode → List RelObject → InputRel → Bool
stays_in_segment mode inputs x =
    if is_in_text inputs (target_at mode inputs x).spot then lies_between 0 (text_end mode inputs) (sum_of mode inputs x)
    else lies_between (data_place mode inputs) (data_end mode inputs) (sum_of mode inputs x)

-- S in the segment of P, or at its end
abbrev pub is_in_one_segment : Mode → List RelObject → InputRel → Bool
is_in_one_segment mode inputs x =
    if is_writable x.at then is_within_data mode inputs (target_at mode inputs x).spot else is_within_text mode inputs (target_at mode inputs x).spot

abbrev pub is_far_branch : Mode → List RelObject → InputRel → Target → Bool
is_far_branch mode inputs x t = is_branch (x.rel).kind && (not (is_nothing t.reach) && not (can_branch mode inputs x))

abbrev pub is_far_address : Mode → List RelObject → InputRel → Target → Bool
is_far_address mode inputs x t = is_address_kind (x.rel).kind && (is_settled t.reach && (not (is_absolute t.spot) && not (stays_in_segment mode inputs x)))

abbrev pub is_far_distance : Mode → List RelObject → InputRel → Target → Bool
is_far_distance mode inputs x t = (x.rel).kind == R_ARM_REL32 && (is_settled t.reach && not (is_in_one_segment mode inputs x))

abbrev pub is_far_offset : Mode → List RelObject → InputRel → Target → Bool
is_far_offset mode inputs x t = (x.rel).kind == R_ARM_GOTOFF32 && (is_settled t.reach && not (is_within_data mode inputs t.spot))

unfoldable pub is_cross : Mode → List RelObject → InputRel → Bool
is_cross mode inputs x =
    let t = target_at mode inputs x in
    leads_to_number (x.rel).kind t
    || (is_far_branch mode inputs x t || (is_far_address mode inputs x t || (is_far_distance mode inputs x t || is_far_offset mode inputs x t)))

-- ---- in their order

abbrev pub site_of : InputRel → Site
site_of x = record { input = (x.at).input; section = (x.at).number; offset = (x.rel).site }

unfoldable pub site_tests : Mode → List RelObject → InputRel → List LinkTest
site_tests mode inputs x =
    refuses (ThumbBranch (site_of x)) (is_thumb x)
    ∷ refuses (RelocType (site_of x)) (is_wrong_type mode inputs x)
    ∷ refuses (CrossSegment (site_of x)) (is_cross mode inputs x)
    ∷ []
