-- The listing of bytes, from what their reader answers.
use Rattle.std.proofs.Common.{◌≡◌, ℕ, List, Option, None, Ok, Err, sym, ap, ◌∙◌}
use Rattle.elf_model.specs.declared.object.Object.{Object}
use Rattle.elf_model.specs.declared.refusal.ElfRefusal.{ElfRefusal}
use Rattle.elf_model.specs.declared.relocatable.RelObject.{RelObject}
use Rattle.elf_model.specs.Object.{IsObject, object_of, refusal_of}
use Rattle.elf_model.specs.Relocatable.{IsRelocatable, relocatable_of, relocatable_refusal_of}
use Rattle.elf_read.specs.declared.error.ReadErr.{ReadErr}
use Rattle.elf_read.specs.declared.error.ReadErr.TheVariants.{Refused, Memory}
use Rattle.elf_read.specs.parts.Reads.{IsReadAs}
use Rattle.elf_read_rel.specs.parts.Answers as rel
use Rattle.elf_listing.specs.Listing.{object_listing}
use Rattle.elf_listing.specs.RelListing.{relocatable_listing}
use Rattle.elf_listing.specs.Shown.{listed_unless, listed_object, listed_relocatable}
use Rattle.elf_listing.specs.parts.Answers.{Lists}

accepted : (refusal : Option ElfRefusal) (whole text : List ℕ) → refusal ≡ None → text ≡ whole → listed_unless refusal whole ≡ Ok text
accepted refusal whole text passes is = ap (λ r. listed_unless r whole) passes ∙ sym (ap (λ t. Ok t) is)

pub of_object : (bytes text : List ℕ) (o : Object) → IsObject bytes o → text ≡ object_listing o → listed_object bytes ≡ Ok text
unfolding listed_object
of_object bytes text o object is =
    accepted (refusal_of bytes) (object_listing (object_of bytes)) text object.passes (is ∙ ap object_listing object.fields)

pub of_relocatable : (bytes text : List ℕ) (r : RelObject) → IsRelocatable bytes r → text ≡ relocatable_listing r → listed_relocatable bytes ≡ Ok text
unfolding listed_relocatable
of_relocatable bytes text r file is =
    accepted (relocatable_refusal_of bytes) (relocatable_listing (relocatable_of bytes)) text file.passes (is ∙ ap relocatable_listing file.fields)

-- where the reader refuses them, or wants memory
pub no_object : (bytes : List ℕ) (e : ReadErr) → IsReadAs bytes (Err e) → Lists (listed_object bytes) (Err e)
unfolding listed_object
no_object bytes (Refused r) is = ap (λ t. listed_unless t (object_listing (object_of bytes))) is
no_object bytes Memory is = tt

pub no_relocatable : (bytes : List ℕ) (e : ReadErr) → rel.IsReadAs bytes (Err e) → Lists (listed_relocatable bytes) (Err e)
unfolding listed_relocatable
no_relocatable bytes (Refused r) is = ap (λ t. listed_unless t (relocatable_listing (relocatable_of bytes))) is
no_relocatable bytes Memory is = tt
