-- From the definitions of the linked object to what a site means after loading.
use Rattle.std.specs.Prelude.{◌≡◌, ℕ, ◌+◌, ◌<◌, All, Bool, true, false, ◌==◌, ◌||◌, List, ◌++◌, Some, Contains, pos, ◌+ℤ◌, ◌-ℤ◌}
use Rattle.elf_model.specs.declared.constants.TheConstants.{R_ARM_FUNCDESC, R_ARM_GOTOFF32, R_ARM_REL32}
use Rattle.elf_model.specs.declared.object.Object.{Object}
use Rattle.elf_model.specs.declared.object.Segment.{Segment}
use Rattle.elf_model.specs.declared.relocatable.RelObject.{RelObject}
use Rattle.elf_write.specs.TableSegment.{with_tables}
use Rattle.load_model.specs.Definition.{Linkage}
use Rattle.load_model.specs.Image.{Placing, got_of}
use Rattle.load_map.specs.Translation.{placed}
use Rattle.link_model.specs.declared.input.Lib.{Lib}
use Rattle.link_model.specs.declared.input.Mode.{Mode}
use Rattle.link_model.specs.declared.target.Reach.TheVariants.{Settled, Nothing}
use Rattle.link_model.specs.DynamicRels.{rels_for, jmprels_for, fixups_for}
use Rattle.link_model.specs.DynamicSymbols.{symbols_for}
use Rattle.link_model.specs.Inputs.{InputRel, InputSection, all_rels, sections_of}
use Rattle.link_model.specs.Needs.{is_branch, target_at}
use Rattle.link_model.specs.Object.{object_of}
use Rattle.link_model.specs.Places.{data_place, data_end}
use Rattle.link_model.specs.Segments.{segments_of}
use Rattle.link_model.specs.Sections.{is_writable}
use Rattle.link_model.specs.Sites.{addend_of, site_address, site_word, branch_goal, word_of, is_address_kind}
use Rattle.link_model.specs.SiteTests.{is_cross}
use Rattle.link_model.specs.Targets.{is_absolute}
use Rattle.link_model.specs.parts.Laws.{AreClear}
use Rattle.link_sites.specs.Loaded.{IsModule, LoadedWord}
use Rattle.link_sites.specs.Meaning.{BranchesTo}
use Rattle.link_means.specs.Linked.{HasBytes}
use Rattle.link_means.specs.Values.{address_word, settled_value}

-- the bytes of all sections are numbers below 256
abbrev pub AreOfBytes : List RelObject → Type 0
AreOfBytes inputs = All (λ (x : InputSection). HasBytes x.section) (sections_of inputs)

-- an object with the segments of a link, others behind them, and what a link leaves to the loader
pub record IsOutput (mode : Mode) (inputs : List RelObject) (o : Object) : Type 0 where
  pub others : List Segment
  pub segments' : o.segments ≡ segments_of mode inputs ++ others
  pub above : All (λ s. data_end mode inputs < s.vaddr) others
  pub got' : o.got ≡ data_place mode inputs
  pub rels' : o.rels ≡ rels_for mode inputs
  pub jmprels' : o.jmprels ≡ jmprels_for mode inputs
  pub fixups' : o.fixups ≡ fixups_for mode inputs
  pub symbols' : o.symbols ≡ symbols_for mode inputs

-- the file of a linked object is read so
abbrev pub LinkedIsOutput : Type 0
LinkedIsOutput = (mode : Mode) (soname : List ℕ) (inputs : List RelObject) (libs : List Lib) → IsOutput mode inputs (with_tables (object_of mode soname inputs libs))

-- kinds of which the loader fills the word
abbrev pub is_filled_kind : ℕ → Bool
is_filled_kind kind = is_address_kind kind || kind == R_ARM_FUNCDESC

-- A word of another kind that the linker writes stays: of branches, of distances and of offsets from the GOT, in every mode.
abbrev pub WordsStay : Type 0
WordsStay =
    (mode : Mode) (inputs : List RelObject) (o : Object) (l : Linkage) (p : Placing) (m : ℕ) (x : InputRel) (w : ℕ)
    → AreClear inputs → IsOutput mode inputs o → IsModule l p m o → Contains (all_rels inputs) x
    → is_filled_kind (x.rel).kind ≡ false → site_word mode inputs x ≡ Some w
    → LoadedWord l p m o (site_address mode inputs x) w

-- ABS32 and TARGET1 on what the inputs define at a link address, in every mode
abbrev pub SettledAddressesMean : Type 0
SettledAddressesMean =
    (mode : Mode) (inputs : List RelObject) (o : Object) (l : Linkage) (p : Placing) (m : ℕ) (x : InputRel)
    → AreClear inputs → IsOutput mode inputs o → IsModule l p m o → Contains (all_rels inputs) x
    → is_address_kind (x.rel).kind ≡ true → is_writable x.at ≡ true
    → (target_at mode inputs x).reach ≡ Settled → is_absolute (target_at mode inputs x).spot ≡ false
    → LoadedWord l p m o (site_address mode inputs x) (address_word mode inputs l p m o x)

-- a branch to what the inputs define leads to S + A + 8, in every mode
abbrev pub SettledBranchesMean : Type 0
SettledBranchesMean =
    (mode : Mode) (inputs : List RelObject) (o : Object) (l : Linkage) (p : Placing) (m : ℕ) (x : InputRel)
    → AreClear inputs → IsOutput mode inputs o → IsModule l p m o → Contains (all_rels inputs) x
    → is_branch (x.rel).kind ≡ true → (target_at mode inputs x).reach ≡ Settled → is_cross mode inputs x ≡ false
    → BranchesTo l p m o (site_address mode inputs x) (word_of (branch_goal mode inputs x))

-- a branch to nothing goes on with the next instruction, in every mode
abbrev pub IdleBranchesMean : Type 0
IdleBranchesMean =
    (mode : Mode) (inputs : List RelObject) (o : Object) (l : Linkage) (p : Placing) (m : ℕ) (x : InputRel)
    → AreClear inputs → IsOutput mode inputs o → IsModule l p m o → Contains (all_rels inputs) x
    → is_branch (x.rel).kind ≡ true → (target_at mode inputs x).reach ≡ Nothing
    → BranchesTo l p m o (site_address mode inputs x) (site_address mode inputs x + 4)

-- distances to what the inputs define at a link address, in every mode
pub record DistancesMean : Type 0 where
  -- REL32: S + A - P
  pub relative : (mode : Mode) (inputs : List RelObject) (o : Object) (l : Linkage) (p : Placing) (m : ℕ) (x : InputRel)
      → AreClear inputs → IsOutput mode inputs o → IsModule l p m o → Contains (all_rels inputs) x
      → (x.rel).kind ≡ R_ARM_REL32 → (target_at mode inputs x).reach ≡ Settled → is_cross mode inputs x ≡ false
      → LoadedWord l p m o (site_address mode inputs x)
      (word_of (pos (settled_value mode inputs p m (target_at mode inputs x).spot) +ℤ addend_of x -ℤ pos (placed (p.maps m) (site_address mode inputs x))))
  -- GOTOFF32: S + A - GOT
  pub from_got : (mode : Mode) (inputs : List RelObject) (o : Object) (l : Linkage) (p : Placing) (m : ℕ) (x : InputRel)
      → AreClear inputs → IsOutput mode inputs o → IsModule l p m o → Contains (all_rels inputs) x
      → (x.rel).kind ≡ R_ARM_GOTOFF32 → (target_at mode inputs x).reach ≡ Settled → is_cross mode inputs x ≡ false
      → LoadedWord l p m o (site_address mode inputs x) (word_of (pos (settled_value mode inputs p m (target_at mode inputs x).spot) +ℤ addend_of x -ℤ pos (got_of p m)))
