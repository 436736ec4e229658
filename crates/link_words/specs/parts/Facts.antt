-- What has been looked up of one relocation.
use Rattle.std.specs.Prelude.{◌≡◌, ℕ, ◌+◌, ◌^◌, ◌<◌, ◌==◌, List, if◌then◌else◌}
use Rattle.elf_model.specs.declared.constants.TheConstants.{R_ARM_GOT_BREL, R_ARM_GOTFUNCDESC}
use Rattle.elf_model.specs.declared.relocatable.RelObject.{RelObject}
use Rattle.link_model.specs.declared.input.Mode.{Mode}
use Rattle.link_model.specs.declared.need.Need.TheVariants.{Word, FuncWord}
use Rattle.link_model.specs.DynamicSymbols.{symbol_index}
use Rattle.link_model.specs.Inputs.{InputRel}
use Rattle.link_model.specs.Needs.{all_needs, offset_of, descriptor_need, is_function_kind, is_dropped, is_own_undefined, symbol_at, target_at}
use Rattle.link_model.specs.Places.{plt_entry_of, address_of, is_in_data}
use Rattle.link_model.specs.Sections.{is_writable, is_in_text, is_function}
use Rattle.link_model.specs.Sites.{site_address, input_word}
use Rattle.link_model.specs.SiteTests.{meets_earlier}
use Rattle.link_model.specs.Targets.{is_dynamic}
use Rattle.link_words.specs.declared.facts.Facts.{Facts}
use Rattle.link_words.specs.parts.Bounds.{AreBounds, AreNearBounds}

-- the entry of the PLT, where the loader settles the symbol
abbrev pub entry_for : Mode → List RelObject → InputRel → ℕ
entry_for mode inputs x =
    let t = target_at mode inputs x in
    if is_dynamic t.reach then plt_entry_of mode inputs t.key else 0

-- the number that the loader knows the symbol by, where it settles it
abbrev pub symbol_for : Mode → List RelObject → InputRel → ℕ
symbol_for mode inputs x =
    let t = target_at mode inputs x in
    if is_dynamic t.reach then symbol_index mode inputs t.key else 0

-- the offset of what a kind names in the GOT
abbrev pub offset_for : Mode → List RelObject → InputRel → ℕ
offset_for mode inputs x =
    let t = target_at mode inputs x in
    if (x.rel).kind == R_ARM_GOT_BREL then offset_of (all_needs mode inputs) (Word t.key)
    else if (x.rel).kind == R_ARM_GOTFUNCDESC then offset_of (all_needs mode inputs) (FuncWord t.key)
    else if is_function_kind (x.rel).kind then offset_of (all_needs mode inputs) (descriptor_need inputs t)
    else 0

-- each field of the facts is what the definitions of a link say
pub record AreFacts (mode : Mode) (inputs : List RelObject) (x : InputRel) (f : Facts) : Type 0 where
  pub kind' : f.kind ≡ (x.rel).kind
  pub word' : f.word ≡ input_word x
  pub place' : f.place ≡ site_address mode inputs x
  pub is_writable' : f.is_writable ≡ is_writable x.at
  pub meets_earlier' : f.meets_earlier ≡ meets_earlier x
  pub is_dropped' : f.is_dropped ≡ is_dropped (symbol_at inputs x).place
  pub is_own_undefined' : f.is_own_undefined ≡ is_own_undefined (symbol_at inputs x)
  pub target' : f.target ≡ target_at mode inputs x
  pub address' : f.address ≡ address_of mode inputs (target_at mode inputs x).spot
  pub in_text' : f.in_text ≡ is_in_text inputs (target_at mode inputs x).spot
  pub in_data' : f.in_data ≡ is_in_data inputs (target_at mode inputs x).spot
  pub is_function' : f.is_function ≡ is_function inputs (target_at mode inputs x).spot
  pub bounds' : AreBounds mode inputs f.bounds
  pub entry' : f.entry ≡ entry_for mode inputs x
  pub offset' : f.offset ≡ offset_for mode inputs x
  pub symbol' : f.symbol ≡ symbol_for mode inputs x

-- no link address passes what signed numbers of 64 bits add up
pub record AreNear (f : Facts) : Type 0 where
  pub place' : f.place < 2 ^ 61
  pub address' : f.address < 2 ^ 61
  pub entry' : f.entry < 2 ^ 61
  pub bounds' : AreNearBounds f.bounds

-- the object is small enough for words of 32 bits
pub record AreLow (f : Facts) : Type 0 where
  pub place' : f.place < 2 ^ 32
  pub need' : (f.bounds).data_place + f.offset < 2 ^ 32
