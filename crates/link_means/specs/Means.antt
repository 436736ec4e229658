-- What each relocation of the inputs means after loading, by its kind (ELF for the Arm Architecture, "Static and dynamic
-- relocations"; Arm FDPIC ABI, "Relocations"), whatever else is loaded and wherever the object lies.
use Rattle.std.specs.Prelude.{◌≡◌, ℕ, ◌+◌, pos, ◌+ℤ◌, ◌-ℤ◌, Bool, true, ◌||◌, List, [], ◌∷◌, Option, Some}
use Rattle.elf_model.specs.declared.constants.TheConstants.{R_ARM_REL32, R_ARM_GOTOFF32, R_ARM_GOT_BREL, R_ARM_GOTFUNCDESC, R_ARM_GOTOFFFUNCDESC, R_ARM_FUNCDESC}
use Rattle.elf_model.specs.declared.object.Object.{Object}
use Rattle.elf_model.specs.declared.object.Rel.{Rel}
use Rattle.elf_model.specs.declared.relocatable.RelObject.{RelObject}
use Rattle.elf_model.specs.Header.{is_one_of}
use Rattle.elf_model.specs.Places.{slot_of}
use Rattle.load_map.specs.Translation.{placed}
use Rattle.plt_code.specs.Entries.{IsPltEntry, IsClear}
use Rattle.load_model.specs.Definition.{Linkage, name_at}
use Rattle.load_model.specs.Image.{Placing, got_of}
use Rattle.link_model.specs.declared.input.Mode.{Mode}
use Rattle.link_model.specs.declared.target.Reach.TheVariants.{Settled, Nothing, Dynamic}
use Rattle.link_model.specs.Inputs.{InputRel}
use Rattle.link_model.specs.Needs.{is_branch, target_at}
use Rattle.link_model.specs.Places.{is_within_text, is_within_data}
use Rattle.link_model.specs.Sites.{site_address, input_word, addend_of, branch_goal, word_of, is_address_kind}
use Rattle.link_model.specs.Targets.{name_of_key}
use Rattle.link_sites.specs.Loaded.{LoadedWord}
use Rattle.link_sites.specs.Meaning.{BranchesTo}
use Rattle.link_means.specs.Values.{settled_value, value_of_target, descriptor_of_target, address_word}

-- ---- forms of meaning

-- GOT plus the word at v is the placed address of a word w
pub record HasInGot (l : Linkage) (p : Placing) (m : ℕ) (o : Object) (v w : ℕ) : Type 0 where
  pub offset : ℕ
  pub place : ℕ
  pub loaded : LoadedWord l p m o v offset
  pub leads : got_of p m + offset ≡ placed (p.maps m) place
  pub there : LoadedWord l p m o place w

-- the branch at v leads to an entry of the PLT that nothing changes, of a slot on the symbol of a name
pub record CallsBySlot (l : Linkage) (p : Placing) (m : ℕ) (o : Object) (v : ℕ) (name : Option (List ℕ)) : Type 0 where
  pub entry : ℕ
  pub slot : ℕ
  pub rel : Rel
  pub branches : BranchesTo l p m o v entry
  pub entry' : IsPltEntry o entry slot
  pub clear : IsClear o entry slot
  pub slot' : slot_of o slot ≡ Some rel
  pub name' : name_at o rel.symbol ≡ name

-- ---- the table

-- kinds whose word is a distance
abbrev pub is_distance_kind : ℕ → Bool
is_distance_kind kind = is_one_of (R_ARM_REL32 ∷ R_ARM_GOTOFF32 ∷ []) kind

pub record Means (mode : Mode) (inputs : List RelObject) (l : Linkage) (p : Placing) (m : ℕ) (o : Object) (x : InputRel) : Type 0 where
  -- a branch leads to S + A + 8
  pub branch : is_branch (x.rel).kind ≡ true → (target_at mode inputs x).reach ≡ Settled
      → BranchesTo l p m o (site_address mode inputs x) (word_of (branch_goal mode inputs x))
  -- or to what the loader finds
  pub call : is_branch (x.rel).kind ≡ true → (target_at mode inputs x).reach ≡ Dynamic
      → CallsBySlot l p m o (site_address mode inputs x) (name_of_key inputs (target_at mode inputs x).key)
  -- a branch to nothing goes on
  pub goes_on : is_branch (x.rel).kind ≡ true → (target_at mode inputs x).reach ≡ Nothing
      → BranchesTo l p m o (site_address mode inputs x) (site_address mode inputs x + 4)
  -- ABS32 and TARGET1
  pub address : is_address_kind (x.rel).kind ≡ true → LoadedWord l p m o (site_address mode inputs x) (address_word mode inputs l p m o x)
  -- where S lies in its segment or at its end, that is the placed S plus A
  pub sum : is_address_kind (x.rel).kind ≡ true → (target_at mode inputs x).reach ≡ Settled
      → (is_within_text mode inputs (target_at mode inputs x).spot || is_within_data mode inputs (target_at mode inputs x).spot) ≡ true
      → LoadedWord l p m o (site_address mode inputs x) (word_of (pos (settled_value mode inputs p m (target_at mode inputs x).spot) +ℤ addend_of x))
  -- REL32: S + A - P
  pub distance : (x.rel).kind ≡ R_ARM_REL32 → (target_at mode inputs x).reach ≡ Settled
      → LoadedWord l p m o (site_address mode inputs x)
      (word_of (pos (settled_value mode inputs p m (target_at mode inputs x).spot) +ℤ addend_of x -ℤ pos (placed (p.maps m) (site_address mode inputs x))))
  -- GOTOFF32: S + A - GOT
  pub got_distance : (x.rel).kind ≡ R_ARM_GOTOFF32 → (target_at mode inputs x).reach ≡ Settled
      → LoadedWord l p m o (site_address mode inputs x) (word_of (pos (settled_value mode inputs p m (target_at mode inputs x).spot) +ℤ addend_of x -ℤ pos (got_of p m)))
  -- a distance from nothing is the addend
  pub no_distance : is_distance_kind (x.rel).kind ≡ true → (target_at mode inputs x).reach ≡ Nothing
      → LoadedWord l p m o (site_address mode inputs x) (input_word x)
  pub got_word : (x.rel).kind ≡ R_ARM_GOT_BREL → HasInGot l p m o (site_address mode inputs x) (value_of_target mode inputs l p m o (target_at mode inputs x))
  pub got_descriptor : (x.rel).kind ≡ R_ARM_GOTFUNCDESC → HasInGot l p m o (site_address mode inputs x) (descriptor_of_target mode inputs l p m o (target_at mode inputs x))
  pub descriptor_distance : (x.rel).kind ≡ R_ARM_GOTOFFFUNCDESC
      → (offset : ℕ) × LoadedWord l p m o (site_address mode inputs x) offset × (got_of p m + offset ≡ descriptor_of_target mode inputs l p m o (target_at mode inputs x))
  pub descriptor : (x.rel).kind ≡ R_ARM_FUNCDESC → LoadedWord l p m o (site_address mode inputs x) (descriptor_of_target mode inputs l p m o (target_at mode inputs x))
