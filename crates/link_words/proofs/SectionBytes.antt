-- The contents of sections over zeros.
use Rattle.std.proofs.Common.{◌≡◌, ℕ, List, [], ◌∷◌, refl}
use Rattle.elf_model.specs.declared.relocatable.RelObject.{RelObject}
use Rattle.link_model.specs.declared.input.Mode.{Mode}
use Rattle.link_model.specs.Inputs.{InputSection}
use Rattle.link_model.specs.Segments.{section_byte}
use Rattle.link_words.specs.declared.contents.Content.{Content}
use Rattle.link_words.specs.parts.Contents.{AreContentsOf, content_over}

pub contents_are : (mode : Mode) (inputs : List RelObject) (xs : List InputSection) (cs : List Content) (below : ℕ → ℕ) (v : ℕ)
    → AreContentsOf mode inputs xs cs → below v ≡ 0 → content_over cs below v ≡ section_byte mode inputs xs v
contents_are mode inputs [] [] below v are zero' = zero'
contents_are mode inputs [] (c ∷ cs) below v are zero' = absurd are
contents_are mode inputs (x ∷ xs) [] below v are zero' = absurd are
contents_are mode inputs (x ∷ xs) (c ∷ cs) below v are zero' =
    rw ((are.0).place', (are.0).bytes', contents_are mode inputs xs cs below v are.1 zero') refl
