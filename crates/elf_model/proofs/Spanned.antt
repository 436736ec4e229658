-- What a link address in the memory of a segment is between.
use Rattle.std.proofs.Common.{◌≡◌, ℕ, ◌+◌, ◌<◌, ◌≤◌, true}
use Rattle.fd_base.proofs.Ranges.{inside, spanned}
use Rattle.elf_model.specs.declared.object.Segment.{Segment}
use Rattle.elf_model.specs.Places.{is_held_in, spans}

pub held_means : (s : Segment) (v : ℕ) → is_held_in s v ≡ true → (s.vaddr ≤ v) × (v < s.vaddr + s.memsz)
held_means s v h = inside s.vaddr s.memsz v h

pub spans_means : (s : Segment) (v n : ℕ) → spans s v n ≡ true → (s.vaddr ≤ v) × (v + n ≤ s.vaddr + s.memsz)
spans_means s v n h = spanned s.vaddr s.memsz v n h
