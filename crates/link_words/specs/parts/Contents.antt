-- The contents of sections, copied to their places.
use Rattle.std.specs.Prelude.{◌≡◌, ℕ, ◌+◌, ◌-◌, ◌≤◌, List, [], ◌∷◌, length, slice_index, if◌then◌else◌}
use Rattle.std.specs.List.{AllZip}
use Rattle.elf_model.specs.declared.relocatable.RelObject.{RelObject}
use Rattle.fd_base.specs.Ranges.{is_in}
use Rattle.link_model.specs.declared.input.Mode.{Mode}
use Rattle.link_model.specs.Inputs.{InputSection}
use Rattle.link_model.specs.Places.{section_place}
use Rattle.link_words.specs.declared.contents.Content.{Content}

-- they lie in the len bytes from a link address on
pub record LiesIn (start len : ℕ) (c : Content) : Type 0 where
  pub from : start ≤ c.place
  pub to : c.place + length (c.bytes).now ≤ start + len

-- the byte of the first of these that has one at a link address, or else the one below
abbrev pub content_over : List Content → (ℕ → ℕ) → ℕ → ℕ
content_over [] below v = below v
content_over (c ∷ cs) below v =
    if is_in c.place (length (c.bytes).now) v then slice_index (c.bytes).now (v - c.place) else content_over cs below v

-- the contents of a section
pub record IsContentOf (mode : Mode) (inputs : List RelObject) (x : InputSection) (c : Content) : Type 0 where
  pub place' : c.place ≡ section_place mode inputs x.index
  pub bytes' : (c.bytes).now ≡ (x.section).filled

abbrev pub AreContentsOf : Mode → List RelObject → List InputSection → List Content → Type 0
AreContentsOf mode inputs xs cs = AllZip (IsContentOf mode inputs) xs cs
