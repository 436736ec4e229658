-- Assembled texts.
use Rattle.std.specs.Prelude.{◌≡◌, ℕ, List, [], Result, Ok, Err}
use Rattle.fd_base.specs.Lines.{lines_of}
use Rattle.elf_model.specs.declared.relocatable.RelObject.{RelObject}
use Rattle.a32_asm.specs.declared.refusal.AsmRefusal.{AsmRefusal}
use Rattle.a32_asm.specs.Layout.{Layout, start}
use Rattle.a32_asm.specs.FirstPass.{Passed, first_pass}
use Rattle.a32_asm.specs.SecondPass.{Contents, nothing_yet, second_pass}
use Rattle.a32_asm.specs.Object.{object_of}

abbrev pub with_contents : Layout → Result Contents AsmRefusal → Result RelObject AsmRefusal
with_contents all (Ok contents) = Ok (object_of all contents)
with_contents all (Err refusal) = Err refusal

abbrev pub after_first : Result Passed AsmRefusal → Result RelObject AsmRefusal
after_first (Ok passed) = with_contents passed.layout (second_pass passed.layout.known 1 start nothing_yet passed.saids)
after_first (Err refusal) = Err refusal

-- the object of a text, or the first refusal: of the first pass, and else of the second
unfoldable pub assembled : List ℕ → Result RelObject AsmRefusal
assembled text = after_first (first_pass 1 (record { saids = []; layout = start }) (lines_of text))

-- this is the object of the text
abbrev pub IsAssembled : List ℕ → RelObject → Type 0
IsAssembled text object = assembled text ≡ Ok object

-- this is the first refusal of the text
abbrev pub IsRefused : List ℕ → AsmRefusal → Type 0
IsRefused text refusal = assembled text ≡ Err refusal
