-- What the linker writes at each relocation (ELF for the Arm Architecture, "Static and dynamic relocations"; Arm FDPIC
-- ABI, "Relocations"). S is the symbol's link address, P the site's, GOT that of the GOT, and A the addend, a signed
-- number. Sums of them are whole numbers, and are cut to 32 bits in the word alone.
use Rattle.std.specs.Prelude.{ℕ, ◌+◌, ◌^◌, ℤ, pos, ◌+ℤ◌, ◌-ℤ◌, neg_ℤ, unsigned_abs, Bool, not, ◌&&◌, ◌==◌, List, [], ◌∷◌, Option, Some, None, if◌then◌else◌}
use Rattle.std.specs.Int.{w32, cast_signed, int_rem_euclid}
use Rattle.fd_base.specs.Words.{word_in}
use Rattle.elf_model.specs.declared.constants.TheConstants.{R_ARM_ABS32, R_ARM_REL32, R_ARM_RELATIVE, R_ARM_GOTOFF32, R_ARM_GOT_BREL, R_ARM_TARGET1, R_ARM_GOTFUNCDESC, R_ARM_GOTOFFFUNCDESC, R_ARM_FUNCDESC}
use Rattle.elf_model.specs.declared.object.Rel.{Rel}
use Rattle.elf_model.specs.declared.relocatable.RelObject.{RelObject}
use Rattle.elf_model.specs.Header.{is_one_of}
use Rattle.arm_relocs.specs.Branch.{branch_addend, branch_field}
use Rattle.link_model.specs.declared.input.Mode.{Mode}
use Rattle.link_model.specs.declared.need.Need.TheVariants.{Word, FuncWord}
use Rattle.link_model.specs.declared.target.Target.{Target}
use Rattle.link_model.specs.DynamicSymbols.{symbol_index}
use Rattle.link_model.specs.Inputs.{InputRel}
use Rattle.link_model.specs.Needs.{is_branch, all_needs, offset_of, descriptor_need, target_at}
use Rattle.link_model.specs.Places.{data_place, section_place, plt_entry_of, need_place, address_of}
use Rattle.link_model.specs.Targets.{is_absolute, is_settled, is_nothing, is_dynamic}

-- ---- P, A and S + A

unfoldable pub site_address : Mode → List RelObject → InputRel → ℕ
site_address mode inputs x = section_place mode inputs (x.at).index + (x.rel).site

-- the input's word
unfoldable pub input_word : InputRel → ℕ
input_word x = word_in ((x.at).section).filled (x.rel).site

abbrev pub addend_of : InputRel → ℤ
addend_of x = if is_branch (x.rel).kind then branch_addend (input_word x) else cast_signed w32 (input_word x)

abbrev pub sum_of : Mode → List RelObject → InputRel → ℤ
sum_of mode inputs x = pos (address_of mode inputs (target_at mode inputs x).spot) +ℤ addend_of x

-- a number modulo 2^32
abbrev pub word_of : ℤ → ℕ
word_of z = unsigned_abs (int_rem_euclid z (pos (2 ^ 32)))

-- ---- branches: an instruction reads its own address as 8 more

-- where a branch leads: to S + A + 8, or to the PLT entry of a symbol that the loader settles
abbrev pub branch_goal : Mode → List RelObject → InputRel → ℤ
branch_goal mode inputs x =
    if is_dynamic (target_at mode inputs x).reach then pos (plt_entry_of mode inputs (target_at mode inputs x).key)
    else sum_of mode inputs x +ℤ pos 8

abbrev pub branch_distance : Mode → List RelObject → InputRel → ℤ
branch_distance mode inputs x = branch_goal mode inputs x -ℤ pos (site_address mode inputs x + 8)

-- a branch to nothing goes on with the next instruction, 4 bytes before the address that it reads
abbrev pub branch_word : Mode → List RelObject → InputRel → Option ℕ
branch_word mode inputs x =
    if is_nothing (target_at mode inputs x).reach then branch_field (input_word x) (neg_ℤ (pos 4))
    else branch_field (input_word x) (branch_distance mode inputs x)

-- ---- words of data

-- kinds whose word is an address
abbrev pub is_address_kind : ℕ → Bool
is_address_kind kind = is_one_of (R_ARM_ABS32 ∷ R_ARM_TARGET1 ∷ []) kind

-- of a symbol that the linker settles
abbrev pub settled_word : Mode → List RelObject → InputRel → Option ℕ
settled_word mode inputs x =
    let kind = (x.rel).kind in
    if is_address_kind kind then Some (word_of (sum_of mode inputs x))
    else if kind == R_ARM_REL32 then Some (word_of (sum_of mode inputs x -ℤ pos (site_address mode inputs x)))
    else if kind == R_ARM_GOTOFF32 then Some (word_of (sum_of mode inputs x -ℤ pos (data_place mode inputs)))
    else if kind == R_ARM_FUNCDESC then Some (need_place mode inputs (descriptor_need inputs (target_at mode inputs x)))
    else if kind == R_ARM_GOTOFFFUNCDESC then Some (offset_of (all_needs mode inputs) (descriptor_need inputs (target_at mode inputs x)))
    else None

-- the offset of a word in the GOT, whoever settles the symbol; any other word stays where the linker doesn't settle it
abbrev pub data_word : Mode → List RelObject → InputRel → Option ℕ
data_word mode inputs x =
    let t = target_at mode inputs x in
    if (x.rel).kind == R_ARM_GOT_BREL then Some (offset_of (all_needs mode inputs) (Word t.key))
    else if (x.rel).kind == R_ARM_GOTFUNCDESC then Some (offset_of (all_needs mode inputs) (FuncWord t.key))
    else if is_settled t.reach then settled_word mode inputs x
    else None

-- the word that the linker writes, and none where the input's word stays
unfoldable pub site_word : Mode → List RelObject → InputRel → Option ℕ
site_word mode inputs x = if is_branch (x.rel).kind then branch_word mode inputs x else data_word mode inputs x

-- ---- what is left to the loader

abbrev pub dynamic_rel : ℕ → ℕ → ℕ → List Rel
dynamic_rel site kind symbol = record { site = site; kind = kind; symbol = symbol } ∷ []

-- An address that the linker settles moves with its segment, and one that it doesn't is the symbol's. A number moves not.
abbrev pub address_rels : Mode → List RelObject → ℕ → ℕ → Target → List Rel
address_rels mode inputs site kind t =
    if is_dynamic t.reach then dynamic_rel site kind (symbol_index mode inputs t.key)
    else if is_settled t.reach && not (is_absolute t.spot) then dynamic_rel site R_ARM_RELATIVE 0
    else []

unfoldable pub site_rels : Mode → List RelObject → InputRel → List Rel
site_rels mode inputs x =
    if is_address_kind (x.rel).kind then address_rels mode inputs (site_address mode inputs x) R_ARM_ABS32 (target_at mode inputs x)
    else if (x.rel).kind == R_ARM_FUNCDESC then address_rels mode inputs (site_address mode inputs x) R_ARM_FUNCDESC (target_at mode inputs x)
    else []
