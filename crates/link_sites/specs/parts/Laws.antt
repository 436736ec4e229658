-- What holds of linked sites after loading.
use Rattle.std.specs.Prelude.{true, List, Bool, [], ◌++◌, map, All, ◌≡◌, ℕ, ◌+◌, pos, ◌-ℤ◌, false, Some, None, unwrap_or}
use Rattle.elf_model.specs.declared.constants.TheConstants.{R_ARM_FUNCDESC}
use Rattle.load_map.specs.Translation.{placed}
use Rattle.elf_model.specs.declared.object.Object.{Object}
use Rattle.elf_model.specs.Filled.{fixup_at}
use Rattle.elf_model.specs.Places.{filled_ranges}
use Rattle.elf_model.specs.Sound.{RangesApart}
use Rattle.arm_relocs.specs.Branch.{branch_addend}
use Rattle.fd_base.specs.Sums.{plus}
use Rattle.arm_relocs.specs.Value.{is_address_kind}
use Rattle.plt_code.specs.Entries.{IsPltEntry, IsClear}
use Rattle.plt_code.specs.parts.Laws.{IsWholeEntry}
use Rattle.load_model.specs.Definition.{Linkage, definition_of}
use Rattle.load_model.specs.Image.{Placing, got_of, image_of}
use Rattle.load_model.specs.Sites.{is_unnamed}
use Rattle.link_sites.specs.Loaded.{IsModule, LoadedWord}
use Rattle.link_sites.specs.Meaning.{BranchesTo, value_of_definition, descriptor_of_definition}
use Rattle.link_sites.specs.parts.Linked.{IsPlain, IsRelative, IsDynamic, ShareSegment, HasDescriptor}

-- the bytes of an entry of the PLT with its call of the resolver
abbrev pub WHOLE_ENTRY_SIZE : ℕ
WHOLE_ENTRY_SIZE = 40

pub record LinkedSitesMean : Type 0 where
  -- a word without an entry stays
  pub plain : (l : Linkage) (p : Placing) (m : ℕ) (o : Object) (v w : ℕ) → IsModule l p m o → IsPlain o v w → LoadedWord l p m o v w
  -- ABS32 and TARGET1 on what the object itself has; the word of a GOT with such an address
  pub relative : (l : Linkage) (p : Placing) (m : ℕ) (o : Object) (v w : ℕ) → IsModule l p m o → IsRelative o v w → LoadedWord l p m o v (placed (p.maps m) w)
  -- ABS32 on what the loader looks up, and the word of a GOT with its address
  pub dynamic : (l : Linkage) (p : Placing) (m : ℕ) (o : Object) (v kind symbol w : ℕ) → IsModule l p m o → is_address_kind kind ≡ true → IsDynamic o v kind symbol w
      → LoadedWord l p m o v (plus (value_of_definition l p (definition_of l m o symbol)) w)
  -- a branch whose field holds the distance between two link addresses of one segment
  pub branch : (l : Linkage) (p : Placing) (m : ℕ) (o : Object) (v goal w : ℕ) → IsModule l p m o → IsPlain o v w → ShareSegment o v goal
      → branch_addend w ≡ pos goal -ℤ pos (v + 8) → BranchesTo l p m o v goal
  -- GOTOFF32 and REL32: the word is a difference of link addresses of one segment
  pub difference : (l : Linkage) (p : Placing) (m : ℕ) (o : Object) (base goal : ℕ) → IsModule l p m o → ShareSegment o base goal
      → (pos (placed (p.maps m) goal) -ℤ pos (placed (p.maps m) base)) ≡ pos goal -ℤ pos base
  -- GOT_BREL, GOTFUNCDESC and GOTOFFFUNCDESC: the word is the offset of a place from the GOT
  pub in_got : (l : Linkage) (p : Placing) (m : ℕ) (o : Object) (v offset : ℕ) → IsModule l p m o → IsPlain o v offset → ShareSegment o o.got (o.got + offset)
      → LoadedWord l p m o v offset × (got_of p m + offset ≡ placed (p.maps m) (o.got + offset))
  -- FUNCDESC on a function of the object, and the word of a GOT with a descriptor's address
  pub own_descriptor : (l : Linkage) (p : Placing) (m : ℕ) (o : Object) (v value w : ℕ) → IsModule l p m o → IsRelative o v w → HasDescriptor o w value
      → (a : ℕ) × (p.descriptors (record { «module» = m; value = value }) ≡ Some a) × LoadedWord l p m o v a
  -- FUNCDESC on what the loader looks up
  pub descriptor : (l : Linkage) (p : Placing) (m : ℕ) (o : Object) (v symbol w : ℕ) → IsModule l p m o → is_unnamed o symbol ≡ false → IsDynamic o v R_ARM_FUNCDESC symbol w
      → LoadedWord l p m o v (descriptor_of_definition l p (definition_of l m o symbol))
  -- a call through the PLT: the whole entry of a slot, which nothing fills
  pub plt : (l : Linkage) (p : Placing) (m : ℕ) (o : Object) (v at slot w : ℕ) → IsModule l p m o → IsPlain o v w → ShareSegment o v at
      → branch_addend w ≡ pos at -ℤ pos (v + 8) → IsWholeEntry o at slot
      → All (RangesApart (record { addr = at; size = WHOLE_ENTRY_SIZE })) (filled_ranges o)
      → BranchesTo l p m o v at × (IsPltEntry o at slot × IsClear o at slot)

-- the same object with R_ARM_RELATIVE in place of each fixup
abbrev pub with_relatives : Object → Object
with_relatives o = record o { rels = o.rels ++ map fixup_at (unwrap_or o.fixups []); fixups = None }

-- the image of an object with fixups is that of the object with relative relocations in their place
abbrev pub FixupsMeanRelative : Type 0
FixupsMeanRelative =
    (l : Linkage) (p : Placing) (m : ℕ) (o : Object) (unbound : List Bool) → o.jmprels ≡ [] → (v : ℕ)
    → image_of l p m o unbound v ≡ image_of l p m (with_relatives o) unbound v
