-- What is linked, and the symbols that needs name.
use Rattle.std.specs.Prelude.{List}
use Rattle.elf_model.specs.declared.relocatable.RelObject.{RelObject}
use Rattle.link_model.specs.declared.need.Need.{Need}
use Rattle.link_model.specs.declared.need.Need.TheVariants.{Word, FuncWord, Descriptor, NoFunction, Slot}
use Rattle.link_names.specs.parts.Joining.{Joining, IsKey}
use Rattle.link_places.specs.declared.layout.Layout as declared

-- what a layout is of
abbrev pub joining_of : declared.Layout → Joining
joining_of l = record { mode = l.mode; inputs = (l.text).inputs.now }

-- a symbol of the inputs
abbrev pub IsNeedKey : List RelObject → Need → Type 0
IsNeedKey inputs (Word key) = IsKey inputs key
IsNeedKey inputs (FuncWord key) = IsKey inputs key
IsNeedKey inputs (Descriptor function) = Unit {0}
IsNeedKey inputs (NoFunction key) = IsKey inputs key
IsNeedKey inputs (Slot key) = IsKey inputs key
