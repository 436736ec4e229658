-- One answer for each list of bytes.
use Rattle.std.proofs.Common.{◌≡◌, ℕ, List, Some, None, Result, Ok, Err, refl, sym, ◌∙◌}
use Rattle.std.specs.Prelude.{IfOk}
use Rattle.elf_model.specs.declared.relocatable.RelObject.{RelObject}
use Rattle.elf_model.specs.declared.refusal.ElfRefusal.{ElfRefusal}
use Rattle.elf_model.specs.Relocatable.{IsRelocatable, relocatable_tests, relocatable_of, relocatable_refusal_of}
use Rattle.elf_model.specs.RelSound.{IsRelSound}
use Rattle.elf_model.proofs.RelSoundness.{accepted_is_rel_sound}
use Rattle.elf_read.specs.declared.error.ReadErr.{ReadErr}
use Rattle.elf_read.specs.declared.error.ReadErr.TheVariants.{Refused, Memory}
use Rattle.elf_read.specs.parts.Passes.{Reads}
use Rattle.elf_read.specs.parts.Reads.{IsAnswer}
use Rattle.elf_read_rel.specs.parts.Answers.{IsReadAs}

pub is_read : (bytes : List ℕ) (a : Result RelObject ReadErr) → Reads (λ o. o) a (relocatable_tests bytes) (relocatable_of bytes) → IsReadAs bytes a
is_read bytes (Ok o) h = record { passes = h.0; fields = h.1 }
is_read bytes (Err (Refused r)) h = h
is_read bytes (Err Memory) h = tt

pub only_read : (bytes : List ℕ) (a : Result RelObject ReadErr) → IsReadAs bytes a → (o : RelObject) → IsRelocatable bytes o → IsAnswer a (Ok o)
only_read bytes (Ok x) h o is = rw (h.fields, is.fields) refl
only_read bytes (Err (Refused r)) h o is = let never : Some r ≡ None = sym h ∙ is.passes in absurd cc
only_read bytes (Err Memory) h o is = tt

pub first_refused : (bytes : List ℕ) (a : Result RelObject ReadErr) → IsReadAs bytes a → (r : ElfRefusal) → relocatable_refusal_of bytes ≡ Some r → IsAnswer a (Err (Refused r))
first_refused bytes (Ok x) h r e = let never : Some r ≡ None = sym e ∙ h.passes in absurd cc
first_refused bytes (Err (Refused s)) h r e =
    let both : Some s ≡ Some r = sym h ∙ e in
    let same : s ≡ r = cc in
    rw same refl
first_refused bytes (Err Memory) h r e = tt

pub is_sound : (bytes : List ℕ) (a : Result RelObject ReadErr) → IsReadAs bytes a → IfOk a IsRelSound
is_sound bytes (Ok o) h = accepted_is_rel_sound bytes o h
is_sound bytes (Err e) h = tt
