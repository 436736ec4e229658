-- A step leaves as many registers as there were; they stay below 2^32, bytes below 256, and r15 a multiple of 4.
use Rattle.std.proofs.Common.{◌≡◌, ℕ, ◌%◌, ◌^◌, ◌<◌, Bool, true, false, List, length, get_or, set, refl, sym, ap, ◌∙◌, arith}
use Rattle.std.specs.Prelude.{◌==◌}
use Rattle.std.proofs.lemmas.Bool.{eqb-true, eqb-false}
use Rattle.std.proofs.lemmas.List.{length-set, get_or-set_same, get_or-set_other}
use Rattle.guest_mem.specs.Memory.{GuestMemory, IsBytes}
use Rattle.guest_mem.specs.Accesses.{with_bytes}
use Rattle.guest_mem.proofs.Pasted.{set-fits}
use Rattle.guest_mem.proofs.Writing.{write_of-fits}
use Rattle.a32_machine.specs.declared.cpu.Cpu.{Cpu}
use Rattle.a32_machine.specs.parts.Fit.{IsCpu, IsFit}
use Rattle.a32_machine.specs.Registers.{pc_of}
use Rattle.a32_machine.specs.Step.{step_of}
use Rattle.a32_machine.specs.Stepped.{Stepped}
use Rattle.a32_machine.proofs.Stages.{IsResult, each_step}
use Rattle.a32_machine.proofs.Values.{with_regs-fits, with_regs-length}

pub step_of-length : (start : Cpu) (m : GuestMemory) → length (step_of start m).cpu.r ≡ length start.r
step_of-length start m = each_step start m (λ r. length r ≡ length start.r) (λ s. length s.cpu.r ≡ length start.r)
    (record { begins = refl; sets = λ r k v l g. length-set r k v ∙ g; loads = λ r ks vs l e g. with_regs-length ks vs r ∙ g })
    (record { stops = λ stop. refl; goes_on = λ cpu g. g; stores = λ cpu width a new g l h. g; serves = λ cpu number g. g })

-- registers that a step may leave
record AreGood (start : Cpu) (r : List ℕ) : Type 0 where
  count : length r ≡ 16
  fit : (i : ℕ) → get_or r i 0 < 2 ^ 32
  aligned : pc_of start % 4 ≡ 0 → get_or r 15 0 % 4 ≡ 0

record Fits (start : Cpu) (s : Stepped) : Type 0 where
  registers : AreGood start s.cpu.r
  bytes : IsBytes s.memory

module _ (start : Cpu) (m : GuestMemory) (h : IsCpu start) (bytes : IsBytes m) where
  set-aligned : (r : List ℕ) (k v : ℕ) (here : Bool) → (k == 15) ≡ here → length r ≡ 16 → (k ≡ 15 → v % 4 ≡ 0) → get_or r 15 0 % 4 ≡ 0 → get_or (set r k v) 15 0 % 4 ≡ 0
  set-aligned r k v true e count a b =
      let at : k ≡ 15 = eqb-true k 15 e in
      ap (λ i. get_or (set r i v) 15 0 % 4) at ∙ ap (λ x. x % 4) (get_or-set_same r 15 v 0 (omega arith)) ∙ a at
  set-aligned r k v false e count a b = ap (λ x. x % 4) (get_or-set_other r k 15 v 0 (λ i. eqb-false k 15 e (sym i))) ∙ b

  set-good : (r : List ℕ) (k v : ℕ) → IsResult start k v → AreGood start r → AreGood start (set r k v)
  set-good r k v l g = record {
    count = length-set r k v ∙ g.count;
    fit = set-fits r k v (2 ^ 32) g.fit l.below;
    aligned = λ a. set-aligned r k v (k == 15) refl g.count (λ e. l.aligned e a) (g.aligned a);
  }

  begins-good : AreGood start start.r
  begins-good = record { count = h.registers; fit = h.fit; aligned = λ a. a }

  step_of-good : Fits start (step_of start m)
  step_of-good = each_step start m (AreGood start) (Fits start)
      (record {
        begins = begins-good;
        sets = λ r k v l g. set-good r k v (l (record { cpu = h; bytes = bytes })) g;
        loads = λ r ks vs l e g. record { count = with_regs-length ks vs r ∙ g.count; fit = with_regs-fits ks vs r (l (record { cpu = h; bytes = bytes })) g.fit; aligned = λ _. e };
      })
      (record {
        stops = λ stop. record { registers = begins-good; bytes = bytes };
        goes_on = λ cpu g. record { registers = g; bytes = bytes };
        stores = λ cpu width a new g l w. record { registers = g; bytes = write_of-fits width m a new (with_bytes m a new) bytes l w };
        serves = λ cpu number g. record { registers = g; bytes = bytes };
      })

pub step_of-fits : (cpu : Cpu) (m : GuestMemory) → IsCpu cpu → IsBytes m → IsFit (step_of cpu m)
step_of-fits cpu m h bytes =
    let fits = step_of-good cpu m h bytes in
    record { cpu = record { registers = fits.registers.count; fit = fits.registers.fit }; bytes = fits.bytes }

pub step_of-aligned : (cpu : Cpu) (m : GuestMemory) → IsCpu cpu → IsBytes m → pc_of cpu % 4 ≡ 0 → pc_of (step_of cpu m).cpu % 4 ≡ 0
step_of-aligned cpu m h bytes a = (step_of-good cpu m h bytes).registers.aligned a
